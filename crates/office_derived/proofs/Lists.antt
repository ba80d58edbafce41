-- Each item with those before it, one item more, and what stands at a place.
use Rattle.std.proofs.Common.{◌≡◌, List, [], ◌∷◌, ◌++◌, refl, ap, sym, ◌∙◌, map, ℕ, zero, suc, ◌+◌}
use Rattle.std.proofs.Common.{◌≤◌, ◌<◌, arith, length, take, drop, get_or}
use Rattle.std.specs.List.{flat_map}
use Rattle.std.proofs.lemmas.List.{append-nil, map-append}
use Rattle.std.proofs.lemmas.Grind.{flat_map-append}
use Rattle.office_history.specs.Lists.{with_before, last_of}
use Rattle.std.specs.Prelude.{Some}

pub map-map : {A B C : Type 0} (f : B → C) (g : A → B) (xs : List A)
    → map f (map g xs) ≡ map (λ x. f (g x)) xs
map-map f g [] = refl
map-map f g (x ∷ xs) = ap (λ ys. f (g x) ∷ ys) (map-map f g xs)

pub map_ext : {A B : Type 0} (f g : A → B) → ((x : A) → f x ≡ g x) → (xs : List A)
    → map f xs ≡ map g xs
map_ext f g h [] = refl
map_ext f g h (x ∷ xs) = ap (λ y. y ∷ map f xs) (h x) ∙ ap (λ ys. g x ∷ ys) (map_ext f g h xs)

pub with_before-append : {A : Type 0} (xs ys : List A) →
    with_before (xs ++ ys) ≡ with_before xs
    ++ map (λ (p : List A × A). (xs ++ p.0, p.1)) (with_before ys)
with_before-append {A = A} [] ys = sym (map_same (with_before ys))
  where
    map_same : (ps : List (List A × A)) → map (λ (p : List A × A). ([] ++ p.0, p.1)) ps ≡ ps
    map_same [] = refl
    map_same (p ∷ ps) = ap (λ qs. p ∷ qs) (map_same ps)
with_before-append {A = A} (x ∷ xs) ys =
    ap (λ ps. ([], x) ∷ map (λ (p : List A × A). (x ∷ p.0, p.1)) ps) (with_before-append xs ys)
    ∙ ap (λ ps. ([], x) ∷ ps)
    (map-append (λ (p : List A × A). (x ∷ p.0, p.1)) (with_before xs)
    (map (λ (p : List A × A). (xs ++ p.0, p.1)) (with_before ys))
    ∙ ap (λ ps. map (λ (p : List A × A). (x ∷ p.0, p.1)) (with_before xs) ++ ps)
    (map-map (λ (p : List A × A). (x ∷ p.0, p.1)) (λ (p : List A × A). (xs ++ p.0, p.1))
    (with_before ys)))

-- one item more comes with all before it
pub with_before-push : {A : Type 0} (xs : List A) (x : A)
    → with_before (xs ++ x ∷ []) ≡ with_before xs ++ (xs, x) ∷ []
with_before-push {A = A} xs x = with_before-append xs (x ∷ [])
    ∙ ap (λ (ys : List A). with_before xs ++ (ys, x) ∷ []) (append-nil xs)

-- what is made of each item with those before it gains what is made of one item more
pub flat-push : {A B : Type 0} (f : List A × A → List B) (xs : List A) (x : A) →
    flat_map f (with_before (xs ++ x ∷ [])) ≡ flat_map f (with_before xs) ++ f (xs, x)
flat-push f xs x =
    ap (flat_map f) (with_before-push xs x)
    ∙ flat_map-append f (with_before xs) ((xs, x) ∷ [])
    ∙ ap (λ ys. flat_map f (with_before xs) ++ ys) (append-nil (f (xs, x)))

-- the last of a list that one item is added to
pub last-push : {A : Type 0} (xs : List A) (x : A) → last_of (xs ++ x ∷ []) ≡ Some x
last-push [] x = refl
last-push (y ∷ []) x = refl
last-push (y ∷ z ∷ xs) x = last-push (z ∷ xs) x

-- from a place on, a list is what stands there and what is behind it
pub from_index : {A : Type 0} (place : ℕ) (xs : List A) (x d : A) → place < length xs
    → x ≡ get_or xs place d → drop place xs ≡ x ∷ drop (place + 1) xs
from_index zero [] x d h e = absurd (omega (arith, h))
from_index zero (y ∷ xs) x d h e = ap (λ z. z ∷ xs) (sym e)
from_index (suc n) [] x d h e = absurd (omega (arith, h))
from_index (suc n) (y ∷ xs) x d h e =
    let f : suc n + 1 ≡ suc (n + 1) = omega arith in
    from_index n xs x d (omega (arith, h)) e ∙ ap (λ k. x ∷ drop k (y ∷ xs)) (sym f)

-- what stands before the next place
pub to_index : {A : Type 0} (place : ℕ) (xs : List A) (x d : A) → place < length xs
    → x ≡ get_or xs place d → take (place + 1) xs ≡ take place xs ++ x ∷ []
to_index zero [] x d h e = absurd (omega (arith, h))
to_index zero (y ∷ xs) x d h e = ap (λ z. z ∷ []) (sym e)
to_index (suc n) [] x d h e = absurd (omega (arith, h))
to_index (suc n) (y ∷ xs) x d h e =
    let f : suc n + 1 ≡ suc (n + 1) = omega arith in
    ap (λ k. take k (y ∷ xs)) f
    ∙ ap (λ zs. y ∷ zs) (to_index n xs x d (omega (arith, h)) e)

-- behind the last place there is nothing
pub all_past : {A : Type 0} (place : ℕ) (xs : List A) → length xs ≤ place → drop place xs ≡ []
all_past zero [] h = refl
all_past zero (y ∷ xs) h = absurd (omega (arith, h))
all_past (suc n) [] h = refl
all_past (suc n) (y ∷ xs) h = all_past n xs (omega (arith, h))
