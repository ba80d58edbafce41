-- Loops over items under keys, each of which is changed in its place.
use Rattle.std.proofs.Common.{◌≡◌, ℕ, zero, suc, ◌+◌, ◌≤◌, ◌<◌, add-one, refl, ap, sym, subst}
use Rattle.std.proofs.Common.{◌∙◌, arith, List, [], ◌∷◌, ◌++◌, take, drop, length, map}
use Rattle.std.proofs.Common.{slice_index_or, slice_set}
use Rattle.std.specs.List.{AllByRecursion}
use Rattle.std.proofs.lemmas.List.{append-nil}

-- the first of them have been done, the others not yet
abbrev pub HalfDone : {A : Type 0} → (A → Type 0) → (A → Type 0) → ℕ → List A → Type 0
HalfDone P Q zero xs = AllByRecursion P xs
HalfDone P Q (suc n) [] = Unit {0}
HalfDone P Q (suc n) (x ∷ xs) = Q x × HalfDone P Q n xs

none_below : {A : Type 0} {n : ℕ} → n < 0 → A
none_below h = absurd (omega (arith, h))

pub half_get : {A : Type 0} (P Q : A → Type 0) (n : ℕ) (xs : List A) (d : A) → n < length xs →
    HalfDone P Q n xs → P (slice_index_or xs n d)
half_get P Q n [] d less h = none_below less
half_get P Q zero (x ∷ xs) d less h = h.0
half_get P Q (suc n) (x ∷ xs) d less h = half_get P Q n xs d (omega (arith, less)) h.1

half_next : {A : Type 0} (P Q : A → Type 0) (n : ℕ) (xs : List A) (y : A) → n < length xs →
    HalfDone P Q n xs → Q y → HalfDone P Q (suc n) (slice_set xs n y)
half_next P Q n [] y less h q = none_below less
half_next P Q zero (x ∷ xs) y less h q = (q, h.1)
half_next P Q (suc n) (x ∷ xs) y less h q =
    (h.0, half_next P Q n xs y (omega (arith, less)) h.1 q)

pub half_step : {A : Type 0} (P Q : A → Type 0) (n : ℕ) (xs : List A) (y : A) → n < length xs →
    HalfDone P Q n xs → Q y → HalfDone P Q (n + 1) (slice_set xs n y)
half_step P Q n xs y less h q =
    subst (λ m. HalfDone P Q m (slice_set xs n y)) (sym (add-one n))
    (half_next P Q n xs y less h q)

pub half_end : {A : Type 0} (P Q : A → Type 0) (n : ℕ) (xs : List A) → length xs ≤ n →
    HalfDone P Q n xs → AllByRecursion Q xs
half_end P Q n [] le h = tt
half_end P Q zero (x ∷ xs) le h = absurd (omega (arith, le))
half_end P Q (suc n) (x ∷ xs) le h = (h.0, half_end P Q n xs (omega (arith, le)) h.1)

pub all_get : {A : Type 0} (P : A → Type 0) (n : ℕ) (xs : List A) (d : A) → n < length xs →
    AllByRecursion P xs → P (slice_index_or xs n d)
all_get P n [] d less h = none_below less
all_get P zero (x ∷ xs) d less h = h.0
all_get P (suc n) (x ∷ xs) d less h = all_get P n xs d (omega (arith, less)) h.1

pub all_set : {A : Type 0} (P : A → Type 0) (n : ℕ) (xs : List A) (y : A) →
    AllByRecursion P xs → P y → AllByRecursion P (slice_set xs n y)
all_set P n [] y h p = tt
all_set P zero (x ∷ xs) y h p = (p, h.1)
all_set P (suc n) (x ∷ xs) y h p = (h.0, all_set P n xs y h.1 p)

pub all_both : {A : Type 0} (P Q : A → Type 0) (xs : List A) → AllByRecursion P xs →
    AllByRecursion Q xs → AllByRecursion (λ x. P x × Q x) xs
all_both P Q [] p q = tt
all_both P Q (x ∷ xs) p q = ((p.0, q.0), all_both P Q xs p.1 q.1)

pub all_units : {A : Type 0} (xs : List A) → AllByRecursion (λ (x : A). Unit {0}) xs
all_units [] = tt
all_units (x ∷ xs) = (tt, all_units xs)

-- an item that changes under its key leaves the keys
pub keys_set : {X K : Type 0} (key : X → K) (n : ℕ) (xs : List X) (y d : X) →
    key y ≡ key (slice_index_or xs n d) → map key (slice_set xs n y) ≡ map key xs
keys_set key n [] y d e = refl
keys_set {K = K} key zero (x ∷ xs) y d e = ap (λ (k : K). k ∷ map key xs) e
keys_set {K = K} key (suc n) (x ∷ xs) y d e =
    ap (λ (ks : List K). key x ∷ ks) (keys_set key n xs y d e)

take_whole : {A : Type 0} (n : ℕ) (xs : List A) → length xs ≡ n → take n xs ≡ xs
take_whole zero [] e = refl
take_whole (suc n) [] e = refl
take_whole zero (x ∷ xs) e = absurd (omega (arith, e))
take_whole (suc n) (x ∷ xs) e = ap (λ l. x ∷ l) (take_whole n xs (omega (arith, e)))

drop_whole : {A : Type 0} (n : ℕ) (xs : List A) → length xs ≡ n → drop n xs ≡ []
drop_whole zero [] e = refl
drop_whole (suc n) [] e = refl
drop_whole zero (x ∷ xs) e = absurd (omega (arith, e))
drop_whole (suc n) (x ∷ xs) e = drop_whole n xs (omega (arith, e))

-- what is written back to a vector whose elements were all passed
pub written_back : {A : Type 0} (items old : List A) (n : ℕ) → length items ≡ length old →
    length old ≡ n → take n (items ++ drop (length items) old) ≡ items
written_back items old n same len =
    ap (λ l. take n (items ++ l)) (drop_whole (length items) old (sym same))
    ∙ ap (take n) (append-nil items) ∙ take_whole n items (same ∙ len)

same_length : {A : Type 0} (n : ℕ) (xs : List A) (y : A) → length (slice_set xs n y) ≡ length xs
same_length n [] y = refl
same_length zero (x ∷ xs) y = refl
same_length (suc n) (x ∷ xs) y = ap suc (same_length n xs y)

-- and where the loop ended at one of them
pub written_back_at : {A : Type 0} (items old : List A) (at : ℕ) (y : A) (n : ℕ) →
    length items ≡ length old → length old ≡ n →
    take n (slice_set items at y ++ drop (length (slice_set items at y)) old)
    ≡ slice_set items at y
written_back_at items old at y n same len =
    written_back (slice_set items at y) old n (same_length at items y ∙ same) len
