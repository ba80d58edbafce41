use Rattle.std.proofs.Common.{rules}
use Rattle.message_session.proofs.Turns.{answered_over}
use Rattle.message_session.proofs.serving.take_turn.Goals as goal

-- No answer names the reading: a turn whose reading is missing, or is another, leaves its goal
-- open.
pub returns-in-Ok-clause-turn : goal.returns-in-Ok-clause-turn
returns-in-Ok-clause-turn g c = search (rules, answered_over)

pub returns-in-Err-clause-part : goal.returns-in-Err-clause-part
returns-in-Err-clause-part g c left = (
  c.is_last_answer-last.result,
  search (rules, answered_over),
)
