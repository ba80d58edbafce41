-- What is left of a list as those of its items go whose keys aren't wanted.
use Rattle.std.proofs.Common.{◌≡◌, ◌⊎◌, inl, inr, ℕ, zero, suc, ◌<◌, Bool, true, false, refl}
use Rattle.std.proofs.Common.{sym, subst, arith, List, [], ◌∷◌, ◌++◌, length, map, IsPermutation}
use Rattle.std.proofs.Common.{slice_index_or}
use Rattle.std.specs.Bool.{Decides}
use Rattle.std.specs.List.{AllByRecursion, Contains, items_where_true}
use Rattle.std.specs.List.Retain.{IsFiltered, ReturnsInTurn}
use Rattle.std.proofs.lemmas.List.{map-append}
use Rattle.std.proofs.lemmas.List.Elements.{All-contains, All-from_recursion, recursion_from_All}
use Rattle.std.proofs.lemmas.List.Elements.{Contains-append_left, Contains-append_right}
use Rattle.std.proofs.lemmas.List.Sorted.{All-permutation, Contains-permutation, IsPermutation-map}

-- what holds of all holds of those that stay
each_left : {X : Type 0} (P : X → Type 0) (bs : List Bool) (xs : List X) → AllByRecursion P xs →
    AllByRecursion P (items_where_true bs xs)
each_left P [] xs all = tt
each_left P (b ∷ bs) [] all = tt
each_left P (true ∷ bs) (x ∷ xs) all = (all.0, each_left P bs xs all.1)
each_left P (false ∷ bs) (x ∷ xs) all = each_left P bs xs all.1

contains_behind : {X : Type 0} (y : X) (xs : List X) (x : X) → Contains xs x →
    Contains (y ∷ xs) x
contains_behind y xs x at = (suc at.0, omega (arith, at.1), at.2)

-- a key in either list is one of both together
pub one_of_both : {X K : Type 0} (key : X → K) (xs ys : List X) (m : K) →
    Contains (map key xs) m ⊎ Contains (map key ys) m → Contains (map key (xs ++ ys)) m
one_of_both key xs ys m (inl at) =
    subst (λ ms. Contains ms m) (sym (map-append key xs ys))
    (Contains-append_left (map key xs) (map key ys) m at)
one_of_both key xs ys m (inr at) =
    subst (λ ms. Contains ms m) (sym (map-append key xs ys))
    (Contains-append_right (map key xs) (map key ys) m at)

module _ {X K F : Type 0} (key : X → K) (R : F → X → Bool → F → Type 0) (wanted : List K) (f : F)
    (h : (x : X) (b : Bool) (g : F) → R f x b g →
    Decides b (Contains wanted (key x)) × (g ≡ f)) where
  pub wanted_left : (bs : List Bool) (xs : List X) (q : F) → ReturnsInTurn R f bs xs q →
      AllByRecursion (λ (x : X). Contains wanted (key x)) (items_where_true bs xs)
  wanted_left [] xs q t = tt
  wanted_left (b ∷ bs) [] q t = absurd t
  wanted_left (true ∷ bs) (x ∷ xs) q t =
      let one = h x true t.0 t.1 in (
        one.0.0 refl,
        wanted_left bs xs q (subst (λ (y : F). ReturnsInTurn R y bs xs q) one.1 t.2),
      )
  wanted_left (false ∷ bs) (x ∷ xs) q t =
      wanted_left bs xs q
      (subst (λ (y : F). ReturnsInTurn R y bs xs q) (h x false t.0 t.1).1 t.2)

  there_left : (bs : List Bool) (xs : List X) (q : F) (m : K) (k : ℕ) →
      length bs ≡ length xs → ReturnsInTurn R f bs xs q → Contains wanted m →
      k < length (map key xs) → slice_index_or (map key xs) k m ≡ m →
      Contains (map key (items_where_true bs xs)) m
  there_left bs [] q m k len t want less same = absurd (omega (arith, less))
  there_left [] (x ∷ xs) q m k len t want less same = absurd (omega (arith, len))
  there_left (true ∷ bs) (x ∷ xs) q m zero len t want less same = (0, omega arith, same)
  there_left (false ∷ bs) (x ∷ xs) q m zero len t want less same =
      let no_way : false ≡ true =
      (h x false t.0 t.1).0.1 (subst (λ (n : K). Contains wanted n) (sym same) want) in
      cc no_way
  there_left (true ∷ bs) (x ∷ xs) q m (suc k) len t want less same =
      contains_behind (key x) (map key (items_where_true bs xs)) m
      (there_left bs xs q m k (omega (arith, len))
      (subst (λ (y : F). ReturnsInTurn R y bs xs q) (h x true t.0 t.1).1 t.2) want
      (omega (arith, less)) same)
  there_left (false ∷ bs) (x ∷ xs) q m (suc k) len t want less same =
      there_left bs xs q m k (omega (arith, len))
      (subst (λ (y : F). ReturnsInTurn R y bs xs q) (h x false t.0 t.1).1 t.2) want
      (omega (arith, less)) same

  -- those that stay are wanted
  pub retained_wanted : (xs ys : List X) → IsFiltered R f xs ys →
      AllByRecursion (λ (x : X). Contains wanted (key x)) ys
  retained_wanted xs ys k =
      subst (AllByRecursion (λ (x : X). Contains wanted (key x))) (sym k.4)
      (wanted_left k.0 xs k.1 k.3)

  -- what is wanted and was there stays
  pub retained_there : (xs ys : List X) → IsFiltered R f xs ys → (m : K) →
      Contains wanted m → Contains (map key xs) m → Contains (map key ys) m
  retained_there xs ys k m want at =
      subst (λ (zs : List X). Contains (map key zs) m) (sym k.4)
      (there_left k.0 xs k.1 m at.0 k.2 k.3 want at.1 at.2)

either_behind : {K : Type 0} (G : Type 0) (y : K) (ks : List K) (m : K) → Contains ks m ⊎ G →
    Contains (y ∷ ks) m ⊎ G
either_behind G y ks m (inl at) = inl (contains_behind y ks m at)
either_behind G y ks m (inr gone) = inr gone

module _ {X K F : Type 0} (key : X → K) (R : F → X → Bool → F → Type 0) (Gone : K → Type 0) (f : F)
    (h : (x : X) (b : Bool) (g : F) → R f x b g → (b ≡ false → Gone (key x)) × (g ≡ f)) where
  left_or_gone : (bs : List Bool) (xs : List X) (q : F) (m : K) (k : ℕ) →
      length bs ≡ length xs → ReturnsInTurn R f bs xs q → k < length (map key xs) →
      slice_index_or (map key xs) k m ≡ m →
      Contains (map key (items_where_true bs xs)) m ⊎ Gone m
  left_or_gone bs [] q m k len t less same = absurd (omega (arith, less))
  left_or_gone [] (x ∷ xs) q m k len t less same = absurd (omega (arith, len))
  left_or_gone (true ∷ bs) (x ∷ xs) q m zero len t less same = inl (0, omega arith, same)
  left_or_gone (false ∷ bs) (x ∷ xs) q m zero len t less same =
      inr (subst Gone same ((h x false t.0 t.1).0 refl))
  left_or_gone (true ∷ bs) (x ∷ xs) q m (suc k) len t less same =
      either_behind (Gone m) (key x) (map key (items_where_true bs xs)) m
      (left_or_gone bs xs q m k (omega (arith, len))
      (subst (λ (y : F). ReturnsInTurn R y bs xs q) (h x true t.0 t.1).1 t.2)
      (omega (arith, less)) same)
  left_or_gone (false ∷ bs) (x ∷ xs) q m (suc k) len t less same =
      left_or_gone bs xs q m k (omega (arith, len))
      (subst (λ (y : F). ReturnsInTurn R y bs xs q) (h x false t.0 t.1).1 t.2)
      (omega (arith, less)) same

  -- what was there stays, or is one of those that went
  pub retained_or_gone : (xs ys : List X) → IsFiltered R f xs ys → (m : K) →
      Contains (map key xs) m → Contains (map key ys) m ⊎ Gone m
  retained_or_gone xs ys k m at =
      subst (λ (zs : List X). Contains (map key zs) m ⊎ Gone m) (sym k.4)
      (left_or_gone k.0 xs k.1 m at.0 k.2 k.3 at.1 at.2)

pub retained_each : {X F : Type 0} (R : F → X → Bool → F → Type 0) (f : F) (P : X → Type 0)
    (xs ys : List X) → IsFiltered R f xs ys → AllByRecursion P xs → AllByRecursion P ys
retained_each R f P xs ys k all = subst (AllByRecursion P) (sym k.4) (each_left P k.0 xs all)

-- what holds of all that is wanted holds of the keys that are wanted
pub wanted_each : {X K : Type 0} (key : X → K) (P : K → Type 0) (wanted : List K) (xs : List X) →
    AllByRecursion P wanted → AllByRecursion (λ (x : X). Contains wanted (key x)) xs →
    AllByRecursion (λ (x : X). P (key x)) xs
wanted_each key P wanted [] all are = tt
wanted_each key P wanted (x ∷ xs) all are = (
  All-contains P wanted (key x) (All-from_recursion P wanted all) are.0,
  wanted_each key P wanted xs all are.1,
)

-- in another order all and each key are still there
pub each_in_order : {X : Type 0} (P : X → Type 0) (xs ys : List X) → IsPermutation xs ys →
    AllByRecursion P xs → AllByRecursion P ys
each_in_order P xs ys moved all =
    recursion_from_All P ys (All-permutation P xs ys moved (All-from_recursion P xs all))

pub there_in_order : {X K : Type 0} (key : X → K) (xs ys : List X) (m : K) →
    IsPermutation xs ys → Contains (map key xs) m → Contains (map key ys) m
there_in_order key xs ys m moved at =
    Contains-permutation (map key xs) (map key ys) m (IsPermutation-map key xs ys moved) at
