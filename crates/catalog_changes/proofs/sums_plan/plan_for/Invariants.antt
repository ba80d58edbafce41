use Rattle.std.proofs.Common.{All, List, false, take, true}
use Rattle.std.specs.List.{AllByRecursion}
use Rattle.object_terms.specs.declared.Object.{Object}
use Rattle.kept_sums.specs.Objectives.{IsLike, IsObjective}
use Rattle.catalog_changes.specs.Wanted.{ArePlanned, HasWanted}
use Rattle.catalog_changes.proofs.sums_plan.plan_for.Given as goal

-- sums are wanted for the objectives so far, and for no others
abbrev pub invariant-loop-measure : goal.invariant-loop-measure
invariant-loop-measure l = record {
  made : ArePlanned l.derived.book.exclusions l.derived.book.rows l.plan;
  own : (members : List Object) → AllByRecursion (IsObjective members) l.objectives
      → AllByRecursion (IsLike members false) l.plan.own.wanted.items;
  pooled : (members : List Object) → AllByRecursion (IsObjective members) l.objectives
      → AllByRecursion (IsLike members true) l.plan.pooled.wanted.items;
  all : All (HasWanted l.derived.book.exclusions l.plan) (take l.measure-index l.objectives);
}
