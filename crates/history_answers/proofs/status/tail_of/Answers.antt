use Rattle.std.proofs.Common.{arith}
use Rattle.history_answers.proofs.status.tail_of.Goals as goal

pub returns : goal.returns
returns c = omega (
  arith,
  c.records_add_up.ensures c.args.records.now.history,
  c.from.ensures,
  c.len.ensures,
  c.size.ensures.value,
)
