-- The first that is found in one list and then in another.
use Rattle.std.proofs.Common.{◌≡◌, List, [], ◌∷◌, ◌++◌, true, not, cond, Option, Some, None, refl}
use Rattle.std.proofs.Common.{sym, ap, ap₂, ◌∙◌, find, flat_map}
use Rattle.std.specs.List.{AllByRecursion}
use Rattle.std.specs.Option.{option_or}
use Rattle.std.proofs.lemmas.List.Folds.{find-append}
use Rattle.object_terms.specs.declared.object.Object.{Object}
use Rattle.catalog_terms.specs.declared.reference.Reference.{Reference}
use Rattle.catalog_terms.specs.References.{references, is_resolved, first_given, unresolved_of}
use Rattle.catalog_terms.specs.References.{first_unresolved, IsResolvedIn}

pub given_by_both : {A B : Type 0} (f : A → Option B) (xs ys : List A)
    → first_given f (xs ++ ys) ≡ option_or (first_given f xs) (first_given f ys)
given_by_both f [] ys = refl
given_by_both {A} {B} f (x ∷ xs) ys = ap (option_or (f x)) (given_by_both f xs ys) ∙ by (f x)
  where
    by : (o : Option B) → option_or o (option_or (first_given f xs) (first_given f ys))
        ≡ option_or (option_or o (first_given f xs)) (first_given f ys)
    by None = refl
    by (Some y) = refl

-- the first reference that isn't resolved, among all that the objects have
pub found_among_all : (members os : List Object)
    → first_unresolved members os ≡ find (λ r. not (is_resolved members r)) (flat_map references os)
found_among_all members [] = refl
found_among_all members (o ∷ os) =
    ap (option_or (unresolved_of members o)) (found_among_all members os)
    ∙ sym (find-append (λ r. not (is_resolved members r)) (references o) (flat_map references os))

all_resolved_none : (members : List Object) (rs : List Reference)
    → AllByRecursion (λ r. is_resolved members r ≡ true) rs
    → find (λ r. not (is_resolved members r)) rs ≡ None
all_resolved_none members [] h = refl
all_resolved_none members (r ∷ rs) h =
    ap (λ b. cond (not b) (Some r) (find (λ r. not (is_resolved members r)) rs)) h.0
    ∙ all_resolved_none members rs h.1

pub resolved_in_none : (members os : List Object) → AllByRecursion (IsResolvedIn members) os
    → first_unresolved members os ≡ None
resolved_in_none members [] h = refl
resolved_in_none members (o ∷ os) h =
    ap₂ option_or (all_resolved_none members (references o) h.0) (resolved_in_none members os h.1)
