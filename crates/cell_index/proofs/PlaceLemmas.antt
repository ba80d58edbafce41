-- Keys that stand once each: the first place of a key is its last.
use Rattle.std.proofs.Common.{◌≡◌, ◌∙◌, ◌+◌, ◌<◌, ◌≤◌, ◌++◌, ◌∷◌, ℕ, suc, Bool, true, false, cond}
use Rattle.std.proofs.Common.{List, [], length, length-append, get_or, take, Option, Some, None}
use Rattle.std.proofs.Common.{refl, ap, sym, arith}
use Rattle.std.specs.List.{position, list_any}
use Rattle.std.specs.Option.{option_map}
use Rattle.std.proofs.lemmas.Bool.{or_parts}
use Rattle.std.proofs.lemmas.List.{take_all, take_more}
use Rattle.cell_index.specs.Chains.{below, last, later}
use Rattle.cell_index.specs.Keys.{key_eq}
use Rattle.cell_index.specs.Places.{AreIn, ArePlaced, BlocksAreWhole}
use Rattle.cell_index.specs.declared.buckets.Buckets.{Buckets}
use Rattle.cell_index.specs.declared.cells.Key.{Key}
use Rattle.cell_index.proofs.BucketLemmas.{key_same}
use Rattle.cell_index.proofs.ChainLemmas.{last-push}
use Rattle.name_numbers.proofs.FirstPlaces.{first, first-none, none-first, position-first}

abbrev add_in : Option ℕ → Bool → ℕ → Option ℕ
add_in None true n = Some n
add_in None false n = None
add_in (Some m) b n = Some m

-- where an item is added behind the others
first_append : {A : Type 0} (p : A → Bool) (xs : List A) (y : A)
    → first p (xs ++ y ∷ []) ≡ add_in (first p xs) (p y) (length xs)
first_append p [] y = by (p y)
  where
    by : (b : Bool) → cond b (Some 0) (option_map suc None) ≡ add_in None b 0
    by true = refl
    by false = refl
first_append p (x ∷ xs) y = by (p x) (first p xs) (p y) (first_append p xs y)
  where
    by : (b : Bool) (o : Option ℕ) (c : Bool) → first p (xs ++ y ∷ []) ≡ add_in o c (length xs)
        → cond b (Some 0) (option_map suc (first p (xs ++ y ∷ [])))
        ≡ add_in (cond b (Some 0) (option_map suc o)) c (suc (length xs))
    by true o c e = refl
    by false None true e = ap (option_map suc) e
    by false None false e = ap (option_map suc) e
    by false (Some n) c e = ap (option_map suc) e

-- the first place is a place
first_inside : {A : Type 0} (p : A → Bool) (xs : List A) (i : ℕ) → first p xs ≡ Some i
    → i < length xs
first_inside p [] i e = cc e
first_inside p (x ∷ xs) i e = by (p x) (first p xs) e (first_inside p xs)
  where
    by : (b : Bool) (o : Option ℕ) → cond b (Some 0) (option_map suc o) ≡ Some i
        → ((j : ℕ) → o ≡ Some j → j < length xs) → i < length (x ∷ xs)
    by true o e go = let z : 0 ≡ i = cc e in omega (arith, z)
    by false None e go = cc e
    by false (Some m) e go = let s : suc m ≡ i = cc e in let h = go m refl in omega (arith, s, h)

-- no last place where there is no place
last-none : {A : Type 0} (p : A → Bool) (xs : List A) → list_any p xs ≡ false → last p xs ≡ 0
last-none p [] h = refl
last-none p (x ∷ xs) h =
    let parts = or_parts (p x) (list_any p xs) h in
    ap (λ n. later n (p x)) (last-none p xs parts.1) ∙ ap (later 0) parts.0

-- a key that isn't there comes behind the others
pub once-push : (keys : List Key) (key : Key) → list_any (key_eq key) keys ≡ false →
    ((k : Key) → position (key_eq k) keys ≡ below (last (key_eq k) keys)) →
    (k : Key) → position (key_eq k) (keys ++ key ∷ []) ≡ below (last (key_eq k) (keys ++ key ∷ []))
once-push keys key absent once k =
    position-first (key_eq k) (keys ++ key ∷ []) ∙ first_append (key_eq k) keys key
    ∙ by (key_eq k key) refl ∙ ap below (sym (last-push (key_eq k) keys key))
  where
    kept : (o : Option ℕ) → add_in o false (length keys) ≡ o
    kept None = refl
    kept (Some m) = refl

    by : (b : Bool) → key_eq k key ≡ b → add_in (first (key_eq k) keys) b (length keys)
        ≡ below (cond b (suc (length keys)) (last (key_eq k) keys))
    by true e =
        let none : first (key_eq k) keys ≡ None =
        ap (λ (x : Key). first (key_eq x) keys) (key_same k key e)
        ∙ first-none (key_eq key) keys absent in
        ap (λ (o : Option ℕ). add_in o true (length keys)) none
    by false e = kept (first (key_eq k) keys) ∙ sym (position-first (key_eq k) keys) ∙ once k

-- the last key goes
pub once-pop : (keys : List Key) (key : Key) → ((k : Key)
    → position (key_eq k) (keys ++ key ∷ []) ≡ below (last (key_eq k) (keys ++ key ∷ []))) →
    (k : Key) → position (key_eq k) keys ≡ below (last (key_eq k) keys)
once-pop keys key once k =
    position-first (key_eq k) keys
    ∙ by (key_eq k key) (first (key_eq k) keys) refl
    (sym (first_append (key_eq k) keys key) ∙ sym (position-first (key_eq k) (keys ++ key ∷ []))
    ∙ once k ∙ ap below (last-push (key_eq k) keys key))
  where
    by : (b : Bool) (o : Option ℕ) → first (key_eq k) keys ≡ o
        → add_in o b (length keys) ≡ below (cond b (suc (length keys)) (last (key_eq k) keys))
        → o ≡ below (last (key_eq k) keys)
    by true None f e = sym (ap below (last-none (key_eq k) keys (none-first (key_eq k) keys f)))
    by true (Some m) f e =
        let inside : m < length keys = first_inside (key_eq k) keys m f in
        let same : m ≡ length keys = cc e in
        absurd (omega (arith, inside, same))
    by false None f e = e
    by false (Some m) f e = e

-- the keys but the last, and the last
pub last_apart : (keys : List Key) (place : ℕ) (key : Key) → length keys ≡ suc place
    → key ≡ get_or keys place key → keys ≡ take place keys ++ key ∷ []
last_apart keys place key long read =
    let inside : place < length keys = omega (arith, long) in
    let all : length keys ≤ place + 1 = omega (arith, long) in
    sym (take_all (place + 1) keys all) ∙ take_more keys place key inside
    ∙ ap (λ (k : Key). take place keys ++ k ∷ []) (sym read)

pub placed-push : (keys : List Key) (key : Key) (before after : Buckets) →
    list_any (key_eq key) keys ≡ false → length keys < 4294967295 → ArePlaced keys before →
    AreIn (keys ++ key ∷ []) after → BlocksAreWhole after → 0 < after.blocks →
    ArePlaced (keys ++ key ∷ []) after
placed-push keys key before after absent few placed shelved whole some = record {
  shelved = shelved;
  whole = whole;
  some = λ _. some;
  once = once-push keys key absent placed.once;
  few = omega (arith, few, length-append keys (key ∷ []));
}

pub placed-pop : (keys : List Key) (key : Key) (before after : Buckets)
    → ArePlaced (keys ++ key ∷ []) before → AreIn keys after → BlocksAreWhole after
    → 0 < after.blocks
    → ArePlaced keys after
placed-pop keys key before after placed shelved whole some = record {
  shelved = shelved;
  whole = whole;
  some = λ _. some;
  once = once-pop keys key placed.once;
  few = omega (arith, placed.few, length-append keys (key ∷ []));
}
