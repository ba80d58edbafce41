use Rattle.std.proofs.Common.{ap, subst, sym}
use Rattle.kept_sums.specs.Objectives.{AreKept, KeptObjectives}
use Rattle.kept_sums.proofs.kept.KeptSums.reserve_rows.Goals as goal

pub returns-in_err-reserve_all-clause-kept : goal.returns-in_err-reserve_all-clause-kept
returns-in_err-reserve_all-clause-kept c = λ made before kept.
    c.reserve_all.ensures.kept made before
    (subst (AreKept made before) (sym (ap (λ (k : KeptObjectives). k.own) c.self.view_is)) kept)

pub returns-clause-kept : goal.returns-clause-kept
returns-clause-kept c = λ made before kept.
    c.reserve_all.ensures.kept made before
    (subst (AreKept made before) (sym (ap (λ (k : KeptObjectives). k.own) c.self.view_is)) kept)

pub returns-clause-pooled : goal.returns-clause-pooled
returns-clause-pooled c = λ made before kept.
    c.reserve_all-2.ensures.kept made before
    (subst (AreKept made before) (sym (ap (λ (k : KeptObjectives). k.pooled) c.self.view_is)) kept)
