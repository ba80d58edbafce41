use Rattle.std.proofs.Common.{◌≤◌, ◌*◌, arith, length, sym}
use Rattle.alert_line.proofs.MinuteLemmas.{kept_at-beyond}
use Rattle.alert_line.proofs.minutes.kept_at.Goals as goal

pub returns-then-beyond : goal.returns-then-beyond
returns-then-beyond c =
    let past : 4 * length c.args.bytes.now ≤ c.args.slot = omega (arith, c.if-beyond.true) in
    sym (kept_at-beyond c.args.bytes.now c.args.slot past)
