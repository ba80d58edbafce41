-- An SLO's objectives are few.
use Rattle.std.proofs.Common.{◌≡◌, ◌≤◌, ℕ, List, length, Option, Some, None, arith, subst, sym}
use Rattle.std.proofs.lemmas.List.{length-map}
use Rattle.slice_method.specs.declared.Reading.{Reading}
use Rattle.object_terms.specs.declared.Object.{Object}
use Rattle.object_terms.specs.declared.Slo.{Slo}
use Rattle.office_history.specs.Objectives.{measures_named, measures_of, measures_with, measure_of}
use Rattle.office_history.specs.Objectives.{reading_named, slo_named}

few_with : (name : List ℕ) (slo : Slo) (reading : Option Reading) (most : ℕ)
    → length slo.objectives ≤ most → length (measures_with name slo reading) ≤ most
few_with name slo None most few = omega arith
few_with name slo (Some reading) most few = let long =
    length-map slo.objectives (measure_of name slo reading) in omega arith

pub few_measures : (members : List Object) (name : List ℕ) (slo : Slo) (most : ℕ) →
    slo_named members name ≡ Some slo →
    length slo.objectives ≤ most → length (measures_named members name) ≤ most
few_measures members name slo most named few =
    subst (λ (found : Option Slo). length (measures_of members name found) ≤ most) (sym named)
    (few_with name slo (reading_named members slo.indicator) most few)
