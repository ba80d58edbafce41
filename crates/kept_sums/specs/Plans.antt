-- What becomes of the sums as a catalog takes the place of another.
use Rattle.std.specs.Prelude.{◌≡◌, ◌⊎◌, ◌≤◌, Bool, true, false, List, [], length, map}
use Rattle.std.specs.List.{AllByRecursion, Contains}
use Rattle.sample_book.specs.declared.Exclusion.{Exclusion}
use Rattle.sample_book.specs.declared.Row.{Row}
use Rattle.object_terms.specs.declared.Object.{Object}
use Rattle.office_history.specs.declared.Measure.{Measure}
use Rattle.kept_sums.specs.Objectives.{AreKept, HasNoExclusions, IsLike, IsObjective}
use Rattle.kept_sums.specs.Objectives.{KeptObjectives}
use Rattle.kept_sums.specs.Objectives.{counted, key_by, keys_by}
use Rattle.kept_sums.specs.declared.kept.ObjectiveSums.{ObjectiveSums}
use Rattle.kept_sums.specs.declared.plan.ListPlan.{ListPlan}
use Rattle.kept_sums.specs.declared.plan.SumsPlan.{SumsPlan}

-- the keys of the sums that are wanted
abbrev pub wanted_keys : Bool → ListPlan → List Measure
wanted_keys pool plan = map (key_by pool) plan.wanted.items

-- A plan wants the sums of just the objectives that the catalog has: pooled ones only where nothing
-- is excluded. Those that it brings are the sums of their rows.
pub record IsPlan (after : List Object) (made : List (Exclusion × Bool)) (rows : List Row)
    (plan : SumsPlan) : Type 0 where
  pub own : AreKept made rows plan.own.made.items
  pub pooled : AreKept [] rows plan.pooled.made.items
  pub own_only : AllByRecursion (IsLike after false) plan.own.wanted.items
  pub pooled_only : AllByRecursion (IsLike after true) plan.pooled.wanted.items
  pub all : (m : Measure) → IsObjective after m →
      Contains (wanted_keys false plan.own) (counted m)
      ⊎ (Contains (wanted_keys true plan.pooled) (key_by true m) × HasNoExclusions made m.slo)

-- sums are kept under a key, or come with the plan
abbrev pub HasEither : Bool → List ObjectiveSums → ListPlan → Measure → Type 0
HasEither pool kept plan key =
    Contains (keys_by pool kept) key ⊎ Contains (keys_by pool plan.made.items) key

-- and so it is for all that is wanted
abbrev pub IsThere : Bool → List ObjectiveSums → ListPlan → Type 0
IsThere pool kept plan =
    (key : Measure) → Contains (wanted_keys pool plan) key → HasEither pool kept plan key

-- the plan can be taken with no memory
pub record IsReady (sums : KeptObjectives) (plan : SumsPlan) : Type 0 where
  pub own : IsThere false sums.own plan.own
  pub pooled : IsThere true sums.pooled plan.pooled
  pub own_room : length plan.own.made.items ≤ sums.own_spare
  pub pooled_room : length plan.pooled.made.items ≤ sums.pooled_spare
