use Rattle.std.proofs.Common.{rules}
use Rattle.message_heads.proofs.start.find_head.Goals as goal

pub returns-in-Err-TooManyHeaders : goal.returns-in-Err-TooManyHeaders
returns-in-Err-TooManyHeaders c = c.wide_start.ensures c.parse_request.new.headers
