use Rattle.std.proofs.Common.{◌∙◌}
use Rattle.wire_replies.proofs.Values.{clock_range_text}
use Rattle.wire_replies.proofs.small.clock_range.Goals as goal

pub returns : goal.returns
returns c =
    c.two_numbers.ensures
    ∙ rw (c.from-end.ensures, c.from-reading.ensures) (clock_range_text c.args.end c.args.reading)
