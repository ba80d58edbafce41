use Rattle.std.proofs.Common.{sym, subst}
use Rattle.line_forgetting.specs.Touched.{Forgets, IsInIf}
use Rattle.line_forgetting.proofs.run.forget_waiting.Goals as goal

pub returns-in-Some : goal.returns-in-Some
returns-in-Some c =
    subst (λ r. Forgets (IsInIf r) c.args.width c.args.line.now c.forget_run.new.line)
    (sym c.in-Some.is) c.forget_run.ensures
