-- Lists that are put together of others, and the keys of their items.
use Rattle.std.proofs.Common.{◌≡◌, ◌≢◌, ℕ, zero, suc, ◌<◌, arith, length, List, [], ◌∷◌, ◌++◌, map}
use Rattle.std.proofs.Common.{refl, subst, sym, slice_index_or}
use Rattle.std.specs.List.{AllByRecursion, Contains, flat_map}
use Rattle.std.proofs.lemmas.List.Elements.{All-contains, All-from_recursion, All-map}
use Rattle.std.proofs.lemmas.List.Elements.{Contains-append_left, Contains-append_right}

pub all_append : {X : Type 0} (P : X → Type 0) (xs ys : List X) → AllByRecursion P xs →
    AllByRecursion P ys → AllByRecursion P (xs ++ ys)
all_append P [] ys a b = b
all_append P (x ∷ xs) ys a b = (a.0, all_append P xs ys a.1 b)

pub all_flat : {A B : Type 0} (P : B → Type 0) (f : A → List B) →
    ((x : A) → AllByRecursion P (f x)) → (xs : List A) → AllByRecursion P (flat_map f xs)
all_flat P f each [] = tt
all_flat P f each (x ∷ xs) = all_append P (f x) (flat_map f xs) (each x) (all_flat P f each xs)

flat_at : {A B : Type 0} (f : A → List B) (xs : List A) (k : ℕ) (x : A) (y : B) →
    k < length xs → slice_index_or xs k x ≡ x → Contains (f x) y → Contains (flat_map f xs) y
flat_at f [] k x y less e has = absurd (omega arith)
flat_at f (a ∷ more) zero x y less e has =
    Contains-append_left (f a) (flat_map f more) y
    (subst (λ z. Contains (f z) y) (sym e) has)
flat_at f (a ∷ more) (suc k) x y less e has =
    Contains-append_right (f a) (flat_map f more) y (flat_at f more k x y (omega arith) e has)

-- an item of the list that is made of a member is one of all of them
pub flat_contains : {A B : Type 0} (f : A → List B) (xs : List A) (x : A) (y : B) →
    Contains xs x → Contains (f x) y → Contains (flat_map f xs) y
flat_contains f xs x y within has = flat_at f xs within.0 x y within.1 within.2 has

-- a key that no item has isn't there
pub never_there : {X K : Type 0} (key : X → K) (xs : List X) (k : K) →
    AllByRecursion (λ (x : X). key x ≢ k) xs → Contains (map key xs) k → ⊥
never_there {K = K} key xs k others has =
    All-contains (λ (other : K). other ≢ k) (map key xs) k
    (All-map (λ (other : K). other ≢ k) key xs
    (All-from_recursion (λ x. key x ≢ k) xs others)) has refl
