use Rattle.std.proofs.Common.{List, ap, false, subst, sym, true}
use Rattle.kept_sums.specs.Objectives.{AreKept, KeptObjectives}
use Rattle.kept_sums.specs.Plans.{HasEither}
use Rattle.kept_sums.specs.declared.kept.ObjectiveSums.{ObjectiveSums}
use Rattle.kept_sums.proofs.kept.KeptSums.take.Goals as goal

pub returns-clause-own : goal.returns-clause-own
returns-clause-own c = λ made rows kept brought.
    c.take_list.ensures.sums made rows
    (subst (AreKept made rows) (sym (ap (λ (k : KeptObjectives). k.own) c.self.view_is)) kept)
    brought

pub returns-clause-pooled : goal.returns-clause-pooled
returns-clause-pooled c = λ made rows kept brought.
    c.take_list-2.ensures.sums made rows
    (subst (AreKept made rows) (sym (ap (λ (k : KeptObjectives). k.pooled) c.self.view_is)) kept)
    brought

pub returns-clause-own_there : goal.returns-clause-own_there
returns-clause-own_there c = λ key wanted.
    c.take_list.ensures.there key wanted
    (subst (λ (kept : List ObjectiveSums). HasEither false kept c.args.plan.own key)
    (sym (ap (λ (k : KeptObjectives). k.own) c.self.view_is)) (c.requires.ready.own key wanted))

pub returns-clause-pooled_there : goal.returns-clause-pooled_there
returns-clause-pooled_there c = λ key wanted.
    c.take_list-2.ensures.there key wanted
    (subst (λ (kept : List ObjectiveSums). HasEither true kept c.args.plan.pooled key)
    (sym (ap (λ (k : KeptObjectives). k.pooled) c.self.view_is))
    (c.requires.ready.pooled key wanted))
