use Rattle.std.proofs.Common.{◌*◌, ◌≤◌, arith}
use Rattle.alert_line.proofs.MinuteLemmas.{Forgets-cut}
use Rattle.alert_line.proofs.minutes.forget_end.Goals as goal

pub returns-clause-value : goal.returns-clause-value
returns-clause-value c =
    let before = c.args.bytes.now.items in
    let at = c.forget_within.new.bytes.items in
    let end = c.div_ceil-end.result in
    let below : c.args.from ≤ 4 * end = omega (arith, c.div_ceil-end.ensures) in
    Forgets-cut before at c.truncate.new.self.items c.args.from end below
    c.forget_within.ensures.value c.forget_within.ensures.len c.truncate.ensures.items
