use Rattle.std.proofs.Common.{◌-◌, ◌*◌, ◌≤◌, arith, length, subst}
use Rattle.alert_line.specs.Line.{Line}
use Rattle.alert_line.proofs.LineLemmas.{nothing-beyond, tested}
use Rattle.alert_line.proofs.line.AlertLine.knows_nothing_from.Goals as goal

pub returns : goal.returns
returns c = λ is.
    let bytes = c.self.inside.bytes in
    let few : 4 * length c.args.self.now.bytes ≤ c.args.minute - c.args.self.now.origin =
    subst (λ (l : Line). 4 * length l.bytes ≤ c.args.minute - l.origin) c.self.view_is
    (omega (arith, tested _ _ is, c.len.ensures, c.saturating_sub.ensures, bytes.ok.0)) in
    nothing-beyond c.args.self.now c.args.minute few
