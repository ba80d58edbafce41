use Rattle.std.proofs.Common.{rules, ◌≡◌, ◌++◌, List, if◌then◌else◌, ap, subst, sym, ◌∙◌}
use Rattle.std.specs.Prelude.{is_ok}
use Rattle.std.specs.Bool.{Decides}
use Rattle.std.specs.List.{Contains}
use Rattle.kept_sums.specs.Sums.{SumsAreKept}
use Rattle.office_history.specs.declared.Measure.{Measure}
use Rattle.kept_sums.specs.Objectives.{AreKept, key_by, keys_by}
use Rattle.kept_sums.specs.Plans.{wanted_keys}
use Rattle.kept_sums.specs.declared.kept.ObjectiveSums.{ObjectiveSums}
use Rattle.kept_sums.proofs.KeyLemmas.{all_append}
use Rattle.kept_sums.proofs.TakeLemmas.{each_in_order, one_of_both, retained_each, retained_there}
use Rattle.kept_sums.proofs.TakeLemmas.{retained_wanted, there_in_order}
use Rattle.kept_sums.proofs.apply_plan.take_list.Goals as goal

-- both lists stand together before those that aren't wanted go
together : (c : goal.After-drop-plan-2) →
    c.append.new.self.items ≡ c.args.objectives.now.items ++ c.args.plan.made.items
together c =
    let old = c.args.objectives.now.items in
    let brought = c.args.plan.made.items in
    c.append.ensures.items
    ∙ ap (λ r. if is_ok r then old ++ brought else old) c.unwrap.ensures

pub returns-clause-sums : goal.returns-clause-sums
returns-clause-sums c = λ made rows old new.
    let P = λ (k : ObjectiveSums). SumsAreKept k.measure made rows k.sums in
    each_in_order P c.retain.new.self.items _ c.sort_unstable_by_key.ensures.permutation
    (retained_each _ _ P _ c.retain.new.self.items c.retain.ensures.filtered
    (subst (AreKept made rows) (sym (together c))
    (all_append P c.args.objectives.now.items c.args.plan.made.items old new)))

pub returns-clause-wanted : goal.returns-clause-wanted
returns-clause-wanted c =
    let key = λ (k : ObjectiveSums). key_by c.args.pool k.measure in
    each_in_order (λ (k : ObjectiveSums).
    Contains (wanted_keys c.args.pool c.args.plan) (key_by c.args.pool k.measure))
    c.retain.new.self.items _ c.sort_unstable_by_key.ensures.permutation
    (retained_wanted key _ (wanted_keys c.args.pool c.args.plan) _ (λ x b g k. (
      subst (λ (y : ObjectiveSums).
          Decides b (Contains (wanted_keys c.args.pool c.args.plan) (key y))) k.shows
          (search rules),
      search rules,
    )) _
    c.retain.new.self.items c.retain.ensures.filtered)

pub returns-clause-there : goal.returns-clause-there
returns-clause-there c = λ m want at.
    let key = λ (k : ObjectiveSums). key_by c.args.pool k.measure in
    there_in_order key c.retain.new.self.items _ m c.sort_unstable_by_key.ensures.permutation
    (retained_there key _ (wanted_keys c.args.pool c.args.plan) _ (λ x b g k. (
      subst (λ (y : ObjectiveSums).
          Decides b (Contains (wanted_keys c.args.pool c.args.plan) (key y))) k.shows
          (search rules),
      search rules,
    )) _
    c.retain.new.self.items c.retain.ensures.filtered m want
    (subst (λ (os : List ObjectiveSums). Contains (keys_by c.args.pool os) m) (sym (together c))
    (one_of_both key c.args.objectives.now.items c.args.plan.made.items m at)))
