use Rattle.std.proofs.Common.{false, take}
use Rattle.std.specs.List.{AllByRecursion, Contains}
use Rattle.office_history.specs.declared.Measure.{Measure}
use Rattle.kept_sums.specs.Objectives.{counted, keys_by}
use Rattle.office_derived.specs.Derived.{IsSound, Stays}
use Rattle.sample_changes.proofs.exclusions.part_all.Given as goal

-- those so far have sums of their own, and all else stays
abbrev pub invariant-loop-measure : goal.invariant-loop-measure
invariant-loop-measure l = record {
  here : AllByRecursion (λ (m : Measure).
      Contains (keys_by false l.derived.sums.own) (counted m)) (take l.measure-index l.measures);
  stays : Stays l.fn.derived l.derived;
  sound : IsSound l.derived;
}
