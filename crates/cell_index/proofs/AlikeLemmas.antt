-- Items that stand once each, and lists that are read through a function.
use Rattle.std.proofs.Common.{◌≡◌, ◌∙◌, ◌<◌, ℕ, suc, Bool, true, false, cond, nat_eq, List, [], ◌∷◌}
use Rattle.std.proofs.Common.{All, length, get_or, map, slice_get, Option, Some, None, refl, ap}
use Rattle.std.proofs.Common.{sym, subst, arith, ⊎_elim}
use Rattle.std.specs.Cmp.{IsEquivalence}
use Rattle.std.specs.List.{IsDistinct, position}
use Rattle.std.specs.Option.{option_map}
use Rattle.std.proofs.lemmas.Bool.{cases_order}
use Rattle.std.proofs.lemmas.Bool.Decides.{nat_tests}
use Rattle.std.proofs.lemmas.List.Elements.{All-head, All-tail}
use Rattle.std.proofs.lemmas.List.Quantifiers.{position-Some}
use Rattle.std.proofs.lemmas.Map.Keys.{apart_from_distinct}
use Rattle.std.proofs.lemmas.Option.{get_or_from_slice_get, slice_get_within}
use Rattle.name_numbers.proofs.FirstPlaces.{fails_at, first, none-first, position-first}

-- of items that stand once each the place tells which item it is
pub same_place : {A : Type 0} {eq : A → A → Bool} → IsEquivalence eq → (xs : List A) (d x : A)
    (i j : ℕ) → IsDistinct eq xs → position (eq x) xs ≡ Some i → j < length xs →
    nat_eq i j ≡ eq x (get_or xs j d)
same_place {eq = eq} laws xs d x i j apart here inside =
    let found = position-Some (eq x) xs i d here in
    ⊎_elim
    (λ same.
    let one : nat_eq i j ≡ true = grind (arith, nat_tests, same) in
    one ∙ sym found.1 ∙ ap (λ n. eq x (get_or xs n d)) same)
    (λ differ. ⊎_elim
    (λ before.
    let other : nat_eq i j ≡ false = grind (arith, nat_tests, before) in
    other ∙ sym (laws.congr x (get_or xs i d) (get_or xs j d) found.1
    ∙ apart_from_distinct eq xs i j d apart before inside))
    (λ behind.
    let other : nat_eq i j ≡ false = grind (arith, nat_tests, behind) in
    other ∙ sym (found.2 j behind))
    differ)
    (cases_order i j)

-- where a test passes nowhere it fails at each place
pub nowhere_at : {A : Type 0} (p : A → Bool) (xs : List A) (n : ℕ) (d : A) → position p xs ≡ None
    → n < length xs → p (get_or xs n d) ≡ false
nowhere_at p xs n d none inside =
    fails_at p xs n d (none-first p xs (sym (position-first p xs) ∙ none)) inside

-- an item that stands at a place, and once, is first there
pub place_there : {A : Type 0} {eq : A → A → Bool} → IsEquivalence eq → (xs : List A) (x : A)
    (i : ℕ) → IsDistinct eq xs → slice_get xs i ≡ Some x → position (eq x) xs ≡ Some i
place_there {eq = eq} laws xs x i apart there =
    by (position (eq x) xs) refl (slice_get_within xs i x there)
    (ap (eq x) (get_or_from_slice_get xs i x x there) ∙ laws.refl x)
  where
    by : (o : Option ℕ) → position (eq x) xs ≡ o → i < length xs → eq x (get_or xs i x) ≡ true
        → o ≡ Some i
    by None e inside same = cc (nowhere_at (eq x) xs i x e inside, same)
    by (Some k) e inside same =
        let one = same_place laws xs x x k i apart e inside ∙ same in
        let is : k ≡ i = grind (arith, nat_tests, one) in
        ap Some is

-- where a fact holds of all items, it holds of the one at a place
pub all_at : {A : Type 0} (P : A → Type 0) (xs : List A) (i : ℕ) (x : A) → All P xs
    → slice_get xs i ≡ Some x → P x
all_at P xs i x all there =
    subst P (get_or_from_slice_get xs i x x there) (all i x (slice_get_within xs i x there))

first-through : {A B : Type 0} (f : A → B) (p : A → Bool) (q : B → Bool) (P : A → Type 0)
    → ((x : A) → P x → p x ≡ q (f x)) → (xs : List A) → All P xs → first p xs ≡ first q (map f xs)
first-through f p q P same [] all = refl
first-through f p q P same (x ∷ xs) all =
    ap (λ (b : Bool). cond b (Some 0) (option_map suc (first p xs)))
    (same x (All-head P x xs all))
    ∙ ap (λ (o : Option ℕ). cond (q (f x)) (Some 0) (option_map suc o))
    (first-through f p q P same xs (All-tail P x xs all))

-- a test of items has the first place of the same test of what they become
pub position-through : {A B : Type 0} (f : A → B) (p : A → Bool) (q : B → Bool) (P : A → Type 0)
    → ((x : A) → P x → p x ≡ q (f x)) → (xs : List A) → All P xs
    → position p xs ≡ position q (map f xs)
position-through f p q P same xs all =
    position-first p xs ∙ first-through f p q P same xs all ∙ sym (position-first q (map f xs))

first-nowhere : {A B : Type 0} (f : A → B) (q : B → Bool) (P : A → Type 0)
    → ((x : A) → P x → q (f x) ≡ false) → (xs : List A) → All P xs → first q (map f xs) ≡ None
first-nowhere f q P fails [] all = refl
first-nowhere f q P fails (x ∷ xs) all =
    ap (λ (b : Bool). cond b (Some 0) (option_map suc (first q (map f xs))))
    (fails x (All-head P x xs all))
    ∙ ap (option_map suc) (first-nowhere f q P fails xs (All-tail P x xs all))

-- a test that what they become fails passes nowhere
pub position-nowhere : {A B : Type 0} (f : A → B) (q : B → Bool) (P : A → Type 0)
    → ((x : A) → P x → q (f x) ≡ false) → (xs : List A) → All P xs → position q (map f xs) ≡ None
position-nowhere f q P fails xs all =
    position-first q (map f xs) ∙ first-nowhere f q P fails xs all

-- two functions that are the same at the items give the same list
pub map-alike : {A B : Type 0} (f g : A → B) (P : A → Type 0) → ((x : A) → P x → f x ≡ g x)
    → (xs : List A) → All P xs → map f xs ≡ map g xs
map-alike f g P same [] all = refl
map-alike f g P same (x ∷ xs) all =
    ap (λ ys. f x ∷ ys) (map-alike f g P same xs (All-tail P x xs all))
    ∙ ap (λ y. y ∷ map g xs) (same x (All-head P x xs all))
