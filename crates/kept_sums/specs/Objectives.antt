-- The sums of the objectives of a catalog, over the rows and exclusions of a book.
use Rattle.std.specs.Prelude.{◌≡◌, ◌⊎◌, ℕ, Bool, true, false, List, [], Some, map}
use Rattle.std.specs.List.{AllByRecursion, Contains}
use Rattle.sample_book.specs.declared.Exclusion.{Exclusion}
use Rattle.sample_book.specs.declared.Row.{Row}
use Rattle.sample_book.specs.Exclusions.{is_excluded}
use Rattle.window_sums.specs.Slices.{CountedDays}
use Rattle.object_terms.specs.declared.Object.{Object}
use Rattle.office_history.specs.declared.Measure.{Measure}
use Rattle.office_history.specs.Objectives.{measure_at}
use Rattle.kept_sums.specs.Sums.{RowFits, HasItsDay, SumsAreKept}
use Rattle.kept_sums.specs.declared.kept.ObjectiveSums.{ObjectiveSums}

-- What an objective counts for its SLO: all of it but its target. Objectives that differ in nothing
-- else have the same sums.
abbrev pub counted : Measure → Measure
counted m = record m { target = 0 }

-- .. and where nothing is excluded: all but its target and its SLO
abbrev pub pooled : Measure → Measure
pooled m = record m { slo = []; target = 0 }

-- what sums are kept under: sums that are pooled are of all SLOs, the others are of one
abbrev pub key_by : Bool → Measure → Measure
key_by true m = pooled m
key_by false m = counted m

abbrev pub keys_by : Bool → List ObjectiveSums → List Measure
keys_by pool kept = map (λ (k : ObjectiveSums). key_by pool k.measure) kept

-- nothing is excluded from sums that are pooled
abbrev pub made_for : Bool → List (Exclusion × Bool) → List (Exclusion × Bool)
made_for true made = []
made_for false made = made

-- no minute is excluded for an SLO
abbrev pub HasNoExclusions : List (Exclusion × Bool) → List ℕ → Type 0
HasNoExclusions made slo = (minute : ℕ) → is_excluded made slo minute ≡ false

-- sums of one SLO's objectives, sums that are pooled, and room for more of both
pub record KeptObjectives : Type 0 where
  pub own : List ObjectiveSums
  pub pooled : List ObjectiveSums
  pub own_spare : ℕ
  pub pooled_spare : ℕ

-- the objective is one of the catalog's: one of an SLO of its name
pub record IsObjective (members : List Object) (m : Measure) : Type 0 where
  pub number : ℕ
  pub there : measure_at members m.slo number ≡ Some m

-- an objective of the catalog counts the same
pub record IsLike (members : List Object) (pool : Bool) (m : Measure) : Type 0 where
  pub other : Measure
  pub is : IsObjective members other
  pub alike : key_by pool other ≡ key_by pool m

-- the measures whose sums are kept
abbrev pub measures_of : List ObjectiveSums → List Measure
measures_of kept = map (λ (k : ObjectiveSums). k.measure) kept

-- all sums are those of their rows
abbrev pub AreKept : List (Exclusion × Bool) → List Row → List ObjectiveSums → Type 0
AreKept made rows kept =
    AllByRecursion (λ (k : ObjectiveSums). SumsAreKept k.measure made rows k.sums) kept

-- the days of these rows are there in all sums
abbrev pub HaveDays : List Row → List ObjectiveSums → Type 0
HaveDays rows kept =
    AllByRecursion (λ (k : ObjectiveSums). AllByRecursion (HasItsDay k.measure k.sums) rows) kept

-- these rows have the form that is read
abbrev pub HaveForms : List Row → List ObjectiveSums → Type 0
HaveForms rows kept =
    AllByRecursion (λ (k : ObjectiveSums). AllByRecursion (RowFits k.measure) rows) kept

-- an objective has sums of its SLO, or, where nothing is excluded for its SLO, pooled ones
abbrev pub HasSums : List (Exclusion × Bool) → List ObjectiveSums → List ObjectiveSums → Measure
    → Type 0
HasSums made own pool m =
    Contains (keys_by false own) (counted m)
    ⊎ (Contains (keys_by true pool) (pooled m) × HasNoExclusions made m.slo)

-- an objective of an SLO has pooled sums
pub record IsPooledFor (kept : List ObjectiveSums) (slo : List ℕ) (m : Measure) : Type 0 where
  pub named : m.slo ≡ slo
  pub there : Contains (keys_by true kept) (pooled m)

-- each objective of an SLO has sums of its own
abbrev pub HaveOwn : List Object → List ObjectiveSums → List ℕ → Type 0
HaveOwn members own slo =
    (m : Measure) → IsObjective members m → m.slo ≡ slo → Contains (keys_by false own) (counted m)

-- what is kept is the sums of just what the objectives of the catalog count
pub record KeepsSums (members : List Object) (made : List (Exclusion × Bool)) (rows : List Row)
    (sums : KeptObjectives) : Type 0 where
  pub own : AreKept made rows sums.own
  pub pooled : AreKept [] rows sums.pooled
  pub own_only : AllByRecursion (λ (k : ObjectiveSums). IsLike members false k.measure) sums.own
  pub pooled_only :
      AllByRecursion (λ (k : ObjectiveSums). IsLike members true k.measure) sums.pooled
  pub all : (m : Measure) → IsObjective members m → HasSums made sums.own sums.pooled m
