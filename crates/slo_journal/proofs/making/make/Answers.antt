use Rattle.std.proofs.Common.{inl}
use Rattle.office_outside.proofs.Moments.{behind, weaker}
use Rattle.slo_journal.proofs.making.make.Goals as goal

pub returns-in_default-clause-any_moment : goal.returns-in_default-clause-any_moment
returns-in_default-clause-any_moment g c free =
    weaker (c.close_gate.ensures.none free) (λ f n. inl n)

pub returns-in_default-found-clause-any_moment : goal.returns-in_default-found-clause-any_moment
returns-in_default-found-clause-any_moment g c free =
    behind (c.close_gate.ensures.none free)
    (c.found.ensures.any_moment (c.in-Ok.ensures.closed free)) (λ f n. inl n)

pub returns-clause-any_moment : goal.returns-clause-any_moment
returns-clause-any_moment g c free =
    behind (c.close_gate.ensures.none free)
    (c.found.ensures.any_moment (c.in-Ok.ensures.closed free)) (λ f n. inl n)
