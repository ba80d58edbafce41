use Rattle.std.proofs.Common.{ℕ, List, subst, sym}
use Rattle.std.specs.declared.option.Option.{Option}
use Rattle.office_outside.specs.Told.{Gained, GainedPrefix}
use Rattle.message_session.proofs.Turns.{gained_all}
use Rattle.message_session.proofs.serving.flush_last.Goals as goal

pub returns-in-Ok-clause-ends : goal.returns-in-Ok-clause-ends
returns-in-Ok-clause-ends g c text held gained =
    subst (λ (o : Option (List ℕ)). Gained text held o) (sym c.flush.ensures.kept) gained

pub returns-in-Err-clause-ends : goal.returns-in-Err-clause-ends
returns-in-Err-clause-ends g c text held gained =
    subst (λ (o : Option (List ℕ)). GainedPrefix text held o) (sym c.flush.ensures.kept)
    (gained_all text held _ gained)
