-- Lists and numbers, whatever they are of.
use Rattle.std.proofs.Common.{◌≡◌, ◌++◌, ◌∷◌, [], ℕ, zero, suc, true, nat_eq, List, map, take}
use Rattle.std.proofs.Common.{slice_get, Some, refl, ap, arith}
use Rattle.std.proofs.lemmas.Bool.Decides.{nat_tests}

pub eq-itself : (n : ℕ) → nat_eq n n ≡ true
eq-itself n = grind (arith, nat_tests)

pub take_at : {A : Type 0} (xs : List A) (n : ℕ) (x : A) → slice_get xs n ≡ Some x
    → take (suc n) xs ≡ take n xs ++ x ∷ []
take_at [] n x e = cc e
take_at (y ∷ ys) zero x e = let same : y ≡ x = cc e in ap (λ z. z ∷ []) same
take_at (y ∷ ys) (suc n) x e = ap (λ zs. y ∷ zs) (take_at ys n x e)

pub map-take : {A B : Type 0} (f : A → B) (count : ℕ) (xs : List A)
    → map f (take count xs) ≡ take count (map f xs)
map-take f zero xs = refl
map-take f (suc count) [] = refl
map-take f (suc count) (x ∷ xs) = ap (λ ys. f x ∷ ys) (map-take f count xs)
