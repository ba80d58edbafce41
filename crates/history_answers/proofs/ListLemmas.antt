-- Lists, place by place.
use Rattle.std.proofs.Common.{◌≡◌, ◌∙◌, ℕ, zero, suc, ◌+◌, List, [], ◌∷◌, ◌++◌, Some, None, take}
use Rattle.std.proofs.Common.{refl, ap, arith}
use Rattle.std.specs.Prelude.{slice_get}

-- the items up to the next place
pub up_to_next : {A : Type 0} (place : ℕ) (xs : List A) (x : A) → slice_get xs place ≡ Some x
    → take (place + 1) xs ≡ take place xs ++ x ∷ []
up_to_next zero [] x h = cc h
up_to_next zero (y ∷ xs) x h = ap (λ z. z ∷ []) (same y x h)
  where
    same : {A : Type 0} (a b : A) → Some a ≡ Some b → a ≡ b
    same a b e = cc e
up_to_next (suc n) [] x h = cc h
up_to_next (suc n) (y ∷ xs) x h =
    let e : suc n + 1 ≡ suc (n + 1) = omega arith in
    ap (λ k. take k (y ∷ xs)) e ∙ ap (λ zs. y ∷ zs) (up_to_next n xs x h)

-- all items, where there is none at the place
pub up_to_end : {A : Type 0} (place : ℕ) (xs : List A) → slice_get xs place ≡ None
    → take place xs ≡ xs
up_to_end zero [] h = refl
up_to_end zero (y ∷ xs) h = cc h
up_to_end (suc n) [] h = refl
up_to_end (suc n) (y ∷ xs) h = ap (λ zs. y ∷ zs) (up_to_end n xs h)
