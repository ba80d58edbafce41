-- The objectives whose sums are wanted.
use Rattle.std.specs.Prelude.{◌⊎◌, Bool, [], List, false, true}
use Rattle.std.specs.List.{Contains, flat_map}
use Rattle.sample_book.specs.declared.Exclusion.{Exclusion}
use Rattle.sample_book.specs.declared.Row.{Row}
use Rattle.object_terms.specs.declared.Object.{Object}
use Rattle.catalog_measures.specs.Names.{slo_names}
use Rattle.kept_sums.specs.declared.SumsPlan.{SumsPlan}
use Rattle.kept_sums.specs.Objectives.{AreKept, HasNoExclusions, counted, pooled}
use Rattle.kept_sums.specs.Plans.{wanted_keys}
use Rattle.office_history.specs.declared.Measure.{Measure}
use Rattle.office_history.specs.Objectives.{measures_named}

-- the objectives of a catalog's SLOs, SLO by SLO
abbrev pub objectives_in : List Object → List Measure
objectives_in members = flat_map (measures_named members) (slo_names members)

-- a plan wants sums for an objective: pooled ones only where nothing is excluded for its SLO
abbrev pub HasWanted : List (Exclusion × Bool) → SumsPlan → Measure → Type 0
HasWanted made plan m =
    Contains (wanted_keys false plan.own) (counted m)
    ⊎ (Contains (wanted_keys true plan.pooled) (pooled m) × HasNoExclusions made m.slo)

-- the sums that a plan brings are those of their rows
pub record ArePlanned (made : List (Exclusion × Bool)) (rows : List Row) (plan : SumsPlan) :
    Type 0 where
  pub own : AreKept made rows plan.own.made.items
  pub pooled : AreKept [] rows plan.pooled.made.items
