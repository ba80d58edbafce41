-- Facts of all items, of one and of those around it.
use Rattle.std.proofs.Common.{◌≡◌, ℕ, zero, suc, ◌+◌, ◌<◌, refl, ap, sym, subst, ◌∙◌, arith, List}
use Rattle.std.proofs.Common.{[]}
use Rattle.std.proofs.Common.{◌∷◌, ◌++◌, take, drop, length, slice_get, slice_index_or, Some}
use Rattle.std.specs.List.{AllByRecursion}

pub all_before : {A : Type 0} (P : A → Type 0) (xs : List A) (x : A) (ys : List A)
    → AllByRecursion P (xs ++ x ∷ ys) → AllByRecursion P xs
all_before P [] x ys h = tt
all_before P (z ∷ xs) x ys h = (h.0, all_before P xs x ys h.1)

pub all_here : {A : Type 0} (P : A → Type 0) (xs : List A) (x : A) (ys : List A)
    → AllByRecursion P (xs ++ x ∷ ys) → P x
all_here P [] x ys h = h.0
all_here P (z ∷ xs) x ys h = all_here P xs x ys h.1

pub all_after : {A : Type 0} (P : A → Type 0) (xs : List A) (x : A) (ys : List A)
    → AllByRecursion P (xs ++ x ∷ ys) → AllByRecursion P ys
all_after P [] x ys h = h.1
all_after P (z ∷ xs) x ys h = all_after P xs x ys h.1

pub all_put : {A : Type 0} (P : A → Type 0) (xs : List A) (x y : A) (ys : List A)
    → AllByRecursion P (xs ++ x ∷ ys) → P y → AllByRecursion P (xs ++ y ∷ ys)
all_put P [] x y ys h p = (p, h.1)
all_put P (z ∷ xs) x y ys h p = (h.0, all_put P xs x y ys h.1 p)

pub all_push : {A : Type 0} (P : A → Type 0) (xs : List A) (y : A) → AllByRecursion P xs → P y
    → AllByRecursion P (xs ++ y ∷ [])
all_push P [] y h p = (p, tt)
all_push P (z ∷ xs) y h p = (h.0, all_push P xs y h.1 p)

pub all_join : {A : Type 0} (P : A → Type 0) (xs : List A) (x : A) (ys : List A)
    → AllByRecursion P xs → P x → AllByRecursion P ys → AllByRecursion P (xs ++ x ∷ ys)
all_join P [] x ys a p b = (p, b)
all_join P (z ∷ xs) x ys a p b = (a.0, all_join P xs x ys a.1 p b)

pub all_map : {A : Type 0} (P Q : A → Type 0) → ((x : A) → P x → Q x) → (xs : List A)
    → AllByRecursion P xs → AllByRecursion Q xs
all_map P Q f [] h = tt
all_map P Q f (x ∷ xs) h = (f x h.0, all_map P Q f xs h.1)

pub all_at : {A : Type 0} (P : A → Type 0) (xs : List A) (n : ℕ) (x : A) → slice_get xs n ≡ Some x
    → AllByRecursion P xs → P x
all_at P [] n x e h = cc e
all_at P (y ∷ ys) zero x e h = let same : y ≡ x = cc e in subst P same h.0
all_at P (y ∷ ys) (suc n) x e h = all_at P ys n x e h.1

pub drop_at : {A : Type 0} (xs : List A) (n : ℕ) (x : A) → slice_get xs n ≡ Some x
    → drop n xs ≡ x ∷ drop (suc n) xs
drop_at [] n x e = cc e
drop_at (y ∷ ys) zero x e = let same : y ≡ x = cc e in ap (λ z. z ∷ ys) same
drop_at (y ∷ ys) (suc n) x e = drop_at ys n x e

pub take_at : {A : Type 0} (xs : List A) (n : ℕ) (x : A) → slice_get xs n ≡ Some x
    → take (suc n) xs ≡ take n xs ++ x ∷ []
take_at [] n x e = cc e
take_at (y ∷ ys) zero x e = let same : y ≡ x = cc e in ap (λ z. z ∷ []) same
take_at (y ∷ ys) (suc n) x e = ap (λ zs. y ∷ zs) (take_at ys n x e)

pub parted_at : {A : Type 0} (xs : List A) (n : ℕ) (x : A) → slice_get xs n ≡ Some x
    → xs ≡ take n xs ++ x ∷ drop (suc n) xs
parted_at [] n x e = cc e
parted_at (y ∷ ys) zero x e = let same : y ≡ x = cc e in ap (λ z. z ∷ ys) same
parted_at (y ∷ ys) (suc n) x e = ap (λ zs. y ∷ zs) (parted_at ys n x e)

none_below : {A : Type 0} {n : ℕ} → n < 0 → A
none_below h = absurd (omega (arith, h))

-- the item at an index is there
pub get_index : {A : Type 0} (xs : List A) (n : ℕ) (x : A) → n < length xs
    → x ≡ slice_index_or xs n x → slice_get xs n ≡ Some x
get_index [] n x less e = none_below less
get_index (y ∷ ys) zero x less e = ap Some (sym e)
get_index (y ∷ ys) (suc n) x less e = get_index ys n x (omega (arith, less)) e

-- what holds of the first ones, and of one more, holds of one more of the first ones
pub one_more : {A : Type 0} (P Q : A → Type 0) (xs : List A) (n : ℕ) (x : A)
    → slice_get xs n ≡ Some x → ((y : A) → P y → Q y) → AllByRecursion P (take n xs) → Q x
    → AllByRecursion Q (take (n + 1) xs)
one_more P Q xs n x e still so_far has =
    let next : suc n ≡ n + 1 = omega arith in
    subst (λ (k : ℕ). AllByRecursion Q (take k xs)) next
    (subst (AllByRecursion Q) (sym (take_at xs n x e))
    (all_push Q (take n xs) x (all_map P Q still (take n xs) so_far) has))

-- a place below the length has an item
pub item_there : {A : Type 0} (xs : List A) (n : ℕ) → n < length xs
    → (x : A) × (slice_get xs n ≡ Some x)
item_there [] n less = none_below less
item_there (x ∷ xs) zero less = (x, refl)
item_there (x ∷ xs) (suc n) less = item_there xs n (omega (arith, less))

pub place_within : {A : Type 0} (xs : List A) (n : ℕ) (x : A) → slice_get xs n ≡ Some x
    → n < length xs
place_within [] n x e = cc e
place_within (y ∷ ys) zero x e = omega arith
place_within (y ∷ ys) (suc n) x e = omega (arith, place_within ys n x e)

-- an item of the first ones is an item
pub get_taken : {A : Type 0} (xs : List A) (m n : ℕ) → n < m
    → slice_get (take m xs) n ≡ slice_get xs n
get_taken [] zero n less = refl
get_taken [] (suc m) n less = refl
get_taken (x ∷ xs) zero n less = none_below less
get_taken (x ∷ xs) (suc m) zero less = refl
get_taken (x ∷ xs) (suc m) (suc n) less = get_taken xs m n (omega (arith, less))

pub take_all : {A : Type 0} (xs : List A) (n : ℕ) → n ≡ length xs → take n xs ≡ xs
take_all xs n e = ap (λ k. take k xs) e ∙ whole xs
  where
    whole : {A : Type 0} (xs : List A) → take (length xs) xs ≡ xs
    whole [] = refl
    whole (x ∷ xs) = ap (λ l. x ∷ l) (whole xs)

pub drop_all : {A : Type 0} (xs : List A) (n : ℕ) → n ≡ length xs → drop n xs ≡ []
drop_all xs n e = ap (λ k. drop k xs) e ∙ none xs
  where
    none : {A : Type 0} (xs : List A) → drop (length xs) xs ≡ []
    none [] = refl
    none (x ∷ xs) = none xs
