use Rattle.std.proofs.Common.{◌≡◌, ◌∙◌, All, subst, sym}
use Rattle.std.specs.List.{AllByRecursion}
use Rattle.std.proofs.lemmas.List.Elements.{All-contains}
use Rattle.kept_sums.specs.Objectives.{IsObjective}
use Rattle.kept_sums.specs.Sums.{RowFits}
use Rattle.office_history.specs.declared.Measure.{Measure}
use Rattle.catalog_changes.specs.Wanted.{HasWanted, objectives_in}
use Rattle.catalog_changes.proofs.WantedLemmas.{all_forms, each_objective, only_objectives}
use Rattle.catalog_changes.proofs.sums_plan.plan_sums.Goals as goal

pub plan_for-requires-clause-forms : goal.plan_for-requires-clause-forms
plan_for-requires-clause-forms c =
    let members = c.args.catalog.now in
    let rows = c.args.derived.now.book.rows in
    let all : c.deref.result.now ≡ objectives_in members =
    c.deref.ensures.value ∙ c.in_ok-objectives.ensures.all in
    subst (All (λ (m : Measure). AllByRecursion (RowFits m) rows)) (sym all)
    (all_forms members rows (objectives_in members) (only_objectives members) c.requires.read)

pub returns : goal.returns
returns c =
    let members = c.args.catalog.now in
    let made = c.args.derived.now.book.exclusions in
    let plan = c.in_ok-plan.plan in
    let all : c.deref.result.now ≡ objectives_in members =
    c.deref.ensures.value ∙ c.in_ok-objectives.ensures.all in
    let are = subst (AllByRecursion (IsObjective members)) (sym all) (only_objectives members) in
    record {
      own = c.in_ok-plan.ensures.made.own;
      pooled = c.in_ok-plan.ensures.made.pooled;
      own_only = c.in_ok-plan.ensures.own members are;
      pooled_only = c.in_ok-plan.ensures.pooled members are;
      all = λ m is.
          All-contains (HasWanted made plan) (objectives_in members) m
          (subst (All (HasWanted made plan)) all c.in_ok-plan.ensures.all)
          (each_objective members m is);
    }
