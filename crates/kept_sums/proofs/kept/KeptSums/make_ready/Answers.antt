use Rattle.std.proofs.Common.{◌≡◌, ◌∙◌, List, ap, false, subst, sym, true}
use Rattle.kept_sums.specs.Objectives.{KeptObjectives}
use Rattle.kept_sums.specs.Plans.{IsThere}
use Rattle.kept_sums.specs.declared.kept.ObjectiveSums.{ObjectiveSums}
use Rattle.kept_sums.proofs.ReadyLemmas.{ready_for}
use Rattle.kept_sums.proofs.kept.KeptSums.make_ready.Goals as goal

pub returns-clause-ready : goal.returns-clause-ready
returns-clause-ready c =
    let own : c.deref.result.now ≡ c.args.self.now.own =
    c.deref.ensures.value ∙ ap (λ (k : KeptObjectives). k.own) c.self.view_is in
    let pool : c.deref-2.result.now ≡ c.args.self.now.pooled =
    c.deref-2.ensures.value ∙ ap (λ (k : KeptObjectives). k.pooled) c.self.view_is in
    ready_for c.args.self.now c.reserve.new.self c.args.plan.now c.reserve.result
    c.len.result c.len-2.result c.reserve.ensures.own c.reserve.ensures.pooled
    (subst (λ (kept : List ObjectiveSums). IsThere false kept c.args.plan.now.own) own
    (c.is_there-own.ensures c.if-not-own.false))
    (subst (λ (kept : List ObjectiveSums). IsThere true kept c.args.plan.now.pooled) pool
    (c.is_there-pooled.ensures c.if-not-pooled.false))
    (c.len.ensures ∙ c.args.plan.now.own.made.ok.0)
    (c.len-2.ensures ∙ c.args.plan.now.pooled.made.ok.0) c.reserve.ensures.own_spare
    c.reserve.ensures.pooled_spare
