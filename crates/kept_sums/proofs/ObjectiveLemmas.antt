-- What is known of the objectives of a catalog.
use Rattle.std.proofs.Common.{◌≡◌, ℕ, zero, suc, List, [], ◌∷◌, map, slice_get, Option, Some, None}
use Rattle.std.proofs.Common.{sym, subst, refl}
use Rattle.std.specs.List.{All, Contains}
use Rattle.std.proofs.lemmas.Option.{get_or_from_slice_get, slice_get-get_or, slice_get_within}
use Rattle.slice_method.specs.declared.Reading.{Reading}
use Rattle.object_terms.specs.declared.Object.{Object}
use Rattle.object_terms.specs.declared.Slo.{Slo}
use Rattle.object_terms.specs.declared.objective.Objective.{Objective}
use Rattle.office_history.specs.declared.Measure.{Measure}
use Rattle.office_history.specs.Objectives.{measure_at, measure_of, measures_named, measures_of}
use Rattle.office_history.specs.Objectives.{measures_with, reading_named, slo_named}
use Rattle.kept_sums.specs.Objectives.{IsObjective}

-- an objective of the SLO of a name has that name, and the reading of its indicator
pub record IsNamed (members : List Object) (name : List ℕ) (m : Measure) : Type 0 where
  pub slo : m.slo ≡ name
  pub reading : reading_named members m.sli ≡ Some m.reading

named_in : (members : List Object) (name : List ℕ) (slo : Slo) (reading : Reading) →
    reading_named members slo.indicator ≡ Some reading → (os : List Objective) (number : ℕ)
    (m : Measure) → slice_get (map (measure_of name slo reading) os) number ≡ Some m →
    IsNamed members name m
named_in members name slo reading is [] number m e = cc e
named_in members name slo reading is (o ∷ os) zero m e =
    let same : measure_of name slo reading o ≡ m = cc e in
    subst (IsNamed members name) same (record { slo = refl; reading = is })
named_in members name slo reading is (o ∷ os) (suc number) m e =
    named_in members name slo reading is os number m e

pub named : (members : List Object) (name : List ℕ) (number : ℕ) (m : Measure) →
    measure_at members name number ≡ Some m → IsNamed members name m
named members name number m e = by (slo_named members name) e
  where
    of_slo : (slo : Slo) (reading : Option Reading) →
        reading_named members slo.indicator ≡ reading →
        slice_get (measures_with name slo reading) number ≡ Some m → IsNamed members name m
    of_slo slo None is e = cc e
    of_slo slo (Some reading) is e =
        named_in members name slo reading is slo.objectives number m e

    by : (slo : Option Slo) → slice_get (measures_of members name slo) number ≡ Some m →
        IsNamed members name m
    by None e = cc e
    by (Some slo) e = of_slo slo (reading_named members slo.indicator) refl e

-- what an SLO has under a number is an objective of the catalog
pub objective_at : (members : List Object) (name : List ℕ) (number : ℕ) (m : Measure) →
    measure_at members name number ≡ Some m → IsObjective members m
objective_at members name number m e = record {
  number = number;
  there = subst (λ n. measure_at members n number ≡ Some m)
      (sym (named members name number m e).slo) e;
}

pub all_objectives : (members : List Object) (name : List ℕ) →
    All (IsObjective members) (measures_named members name)
all_objectives members name = λ k d less.
    objective_at members name k _ (slice_get-get_or (measures_named members name) k d less)

-- an objective is one of those of its SLO
pub objective_among : (members : List Object) (m : Measure) → IsObjective members m →
    Contains (measures_named members m.slo) m
objective_among members m is = (
  is.number,
  slice_get_within (measures_named members m.slo) is.number m is.there,
  get_or_from_slice_get (measures_named members m.slo) is.number m m is.there,
)
