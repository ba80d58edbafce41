-- What is known of the objectives that a catalog names.
use Rattle.std.proofs.Common.{◌≡◌, ℕ, ap, ◌∙◌, List, [], ◌∷◌, All, map, Some}
use Rattle.std.proofs.lemmas.List.Elements.{All-head, All-tail, All-cons, All-nil}
use Rattle.slice_method.specs.declared.Reading.{Reading}
use Rattle.object_terms.specs.declared.Object.{Object}
use Rattle.object_terms.specs.declared.Slo.{Slo}
use Rattle.office_history.specs.Objectives.{measure_of, measures_named, measures_of}
use Rattle.office_history.specs.Objectives.{measures_with, reading_named, slo_named}

-- the objectives of an SLO that is there, over an indicator that is there
pub measures_there : (members : List Object) (name : List ℕ) (slo : Slo) (reading : Reading) →
    slo_named members name ≡ Some slo → reading_named members slo.indicator ≡ Some reading →
    measures_named members name ≡ map (measure_of name slo reading) slo.objectives
measures_there members name slo reading there reads =
    ap (measures_of members name) there ∙ ap (measures_with name slo) reads

-- what is known of each item is known of what is made of it
pub all_made : {A B : Type 0} (P : A → Type 0) (Q : B → Type 0) (f : A → B) →
    ((x : A) → P x → Q (f x)) → (xs : List A) → All P xs → All Q (map f xs)
all_made P Q f make [] h = All-nil Q
all_made P Q f make (x ∷ xs) h =
    All-cons Q (f x) (map f xs) (make x (All-head P x xs h))
    (all_made P Q f make xs (All-tail P x xs h))
