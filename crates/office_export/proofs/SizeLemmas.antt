-- The first that is too large among lists one behind another.
use Rattle.std.proofs.Common.{◌≡◌, ◌∙◌, Bool, true, false, cond, List, [], ◌∷◌, ◌++◌, refl, sym, ap}
use Rattle.std.proofs.Common.{Option, Some, None, find, map, option_map}
use Rattle.object_terms.specs.declared.Kind.{Kind}
use Rattle.object_terms.specs.declared.Object.{Object}
use Rattle.office_history.specs.Lists.{first_some}
use Rattle.export_terms.specs.Moves.{in_order, of_kind}
use Rattle.export_terms.specs.Sizes.{is_too_large, kind_and_name}
use Rattle.office_export.specs.Lines.{large_among, large_of_kind}

-- the first of two lists
pub first_in_both : {A : Type 0} (p : A → Bool) (xs ys : List A) → find p xs ≡ None
    → find p (xs ++ ys) ≡ find p ys
first_in_both p [] ys h = refl
first_in_both p (x ∷ xs) ys h = by (p x) h (first_in_both p xs ys)
  where
    by : (b : Bool) → cond b (Some x) (find p xs) ≡ None
        → (find p xs ≡ None → find p (xs ++ ys) ≡ find p ys)
        → cond b (Some x) (find p (xs ++ ys)) ≡ find p ys
    by true e more = cc e
    by false e more = more e

pub first_in_first : {A : Type 0} (p : A → Bool) (xs ys : List A) (x : A) → find p xs ≡ Some x
    → find p (xs ++ ys) ≡ Some x
first_in_first p [] ys x h = cc h
first_in_first p (y ∷ xs) ys x h = by (p y) h (first_in_first p xs ys x)
  where
    by : (b : Bool) → cond b (Some y) (find p xs) ≡ Some x
        → (find p xs ≡ Some x → find p (xs ++ ys) ≡ Some x)
        → cond b (Some y) (find p (xs ++ ys)) ≡ Some x
    by true e more = e
    by false e more = more e

-- kind by kind it is the first in the order of the kinds
pub among_is : (members : List Object) (ks : List Kind)
    → large_among members ks
    ≡ option_map kind_and_name (find is_too_large (in_order members ks))
among_is members [] = refl
among_is members (k ∷ ks) =
    by (find is_too_large (of_kind members k)) refl (among_is members ks)
  where
    all : List Object
    all = of_kind members k ++ in_order members ks

    by : (o : Option Object) → find is_too_large (of_kind members k) ≡ o
        → large_among members ks
        ≡ option_map kind_and_name (find is_too_large (in_order members ks))
        → first_some (option_map kind_and_name o ∷ map (large_of_kind members) ks)
        ≡ option_map kind_and_name (find is_too_large all)
    by None e more = more ∙ ap (option_map kind_and_name)
        (sym (first_in_both is_too_large (of_kind members k) (in_order members ks) e))
    by (Some x) e more = ap (option_map kind_and_name)
        (sym (first_in_first is_too_large (of_kind members k) (in_order members ks) x e))
