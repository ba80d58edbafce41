-- Keys in buckets: a key more, a key less, and the way along a bucket.
use Rattle.std.proofs.Common.{◌≡◌, ◌≢◌, ◌∙◌, ◌+◌, ◌-◌, ◌<◌, ◌≤◌, ◌++◌, ◌∷◌, ◌&&◌, ℕ, zero, suc}
use Rattle.std.proofs.Common.{Bool, true, false, cond, nat_eq, nat_lt, List, [], length}
use Rattle.std.proofs.Common.{length-append, get_or, set, take, slice_get, Some, None, refl, ap}
use Rattle.std.proofs.Common.{sym, subst, arith}
use Rattle.std.proofs.lemmas.Bool.Decides.{nat_tests}
use Rattle.std.proofs.lemmas.Grind.{get_or-set_at, get_or_default_zero}
use Rattle.std.proofs.lemmas.List.{get_or-set_other, get_or_append_left, length-set, length-take-le}
use Rattle.std.proofs.lemmas.List.{take-append-le, take-take}
use Rattle.std.proofs.lemmas.Option.{slice_get_within, slice_get-get_or}
use Rattle.std.proofs.Math.Seq.{take-append_seam}
use Rattle.cell_index.specs.Chains.{below, last, later}
use Rattle.cell_index.specs.Keys.{key_eq}
use Rattle.cell_index.specs.Places.{AreShelved, bucket_of, is_in}
use Rattle.cell_index.specs.declared.cells.Key.{Key}
use Rattle.cell_index.proofs.ChainLemmas.{last-passes, last-push, last-take, last-within}
use Rattle.cell_index.proofs.ChainLemmas.{length-few}
use Rattle.cell_index.proofs.ListLemmas.{eq-itself}
use Rattle.cell_index.proofs.ListLemmas.{take_at}

-- an item of a list is at its place in a longer one, and the other way round
at_front : {A : Type 0} (xs ys : List A) (i : ℕ) (x : A) → i < length xs
    → slice_get (xs ++ ys) i ≡ Some x → slice_get xs i ≡ Some x
at_front [] ys i x h e = absurd (omega arith)
at_front (y ∷ xs) ys zero x h e = e
at_front (y ∷ xs) ys (suc i) x h e = at_front xs ys i x (omega arith) e

still_at : {A : Type 0} (xs ys : List A) (i : ℕ) (x : A) → slice_get xs i ≡ Some x
    → slice_get (xs ++ ys) i ≡ Some x
still_at [] ys i x e = cc e
still_at (y ∷ xs) ys zero x e = e
still_at (y ∷ xs) ys (suc i) x e = still_at xs ys i x e

at_seam : {A : Type 0} (xs : List A) (y x : A) (i : ℕ) → i ≡ length xs
    → slice_get (xs ++ y ∷ []) i ≡ Some x → y ≡ x
at_seam [] y x zero h e = cc e
at_seam [] y x (suc i) h e = absurd (omega (arith, h))
at_seam (z ∷ xs) y x zero h e = absurd (omega (arith, h))
at_seam (z ∷ xs) y x (suc i) h e = at_seam xs y x i (omega (arith, h)) e

pub behind_all : {A : Type 0} (xs : List A) (y : A) (i : ℕ) → i ≡ length xs
    → slice_get (xs ++ y ∷ []) i ≡ Some y
behind_all [] y zero h = refl
behind_all [] y (suc i) h = absurd (omega (arith, h))
behind_all (z ∷ xs) y zero h = absurd (omega (arith, h))
behind_all (z ∷ xs) y (suc i) h = behind_all xs y i (omega (arith, h))

taken_at : {A : Type 0} (xs : List A) (n i : ℕ) (x : A) → i < n → slice_get xs i ≡ Some x
    → slice_get (take n xs) i ≡ Some x
taken_at [] n i x h e = cc e
taken_at (y ∷ xs) zero i x h e = absurd (omega arith)
taken_at (y ∷ xs) (suc n) zero x h e = e
taken_at (y ∷ xs) (suc n) (suc i) x h e = taken_at xs n i x (omega arith) e

take_seam : {A : Type 0} (xs ys : List A) (n : ℕ) → n ≡ length xs → take n (xs ++ ys) ≡ xs
take_seam xs ys n h = ap (λ k. take k (xs ++ ys)) h ∙ take-append_seam xs ys

eq_tells : (m n : ℕ) → nat_eq m n ≡ true → m ≡ n
eq_tells m n e = grind (arith, nat_tests)

apart_tells : (m n : ℕ) → nat_eq m n ≡ false → n ≢ m
apart_tells m n e same = cc (sym (ap (nat_eq m) same ∙ eq-itself m) ∙ e)

-- a key more, behind the others
pub shelved-link : (keys : List Key) (blocks : ℕ) (lasts links : List ℕ) (key : Key) (place : ℕ) →
    length keys ≡ place → place < length links → bucket_of blocks key < length lasts →
    AreShelved keys blocks lasts links →
    AreShelved (keys ++ key ∷ []) blocks (set lasts (bucket_of blocks key) (place + 1))
    (set links place (get_or lasts (bucket_of blocks key) 0))
shelved-link keys blocks lasts links key place long there within shelved = record {
  ends = λ bucket. by_bucket bucket (nat_eq (bucket_of blocks key) bucket) refl;
  chain = λ i k e. by_place i k e (nat_lt i (length keys)) refl;
  enough = omega (
    arith,
    long,
    there,
    length-append keys (key ∷ []),
    length-set links place (get_or lasts (bucket_of blocks key) 0),
  );
}
  where
    by_bucket : (bucket : ℕ) (b : Bool) → nat_eq (bucket_of blocks key) bucket ≡ b
        → get_or (set lasts (bucket_of blocks key) (place + 1)) bucket 0
        ≡ last (is_in blocks bucket) (keys ++ key ∷ [])
    by_bucket bucket true e =
        let next : place + 1 ≡ suc (length keys) = omega (arith, long) in
        get_or-set_at lasts (bucket_of blocks key) bucket (place + 1) 0
        (sym (eq_tells (bucket_of blocks key) bucket e)) within
        ∙ next
        ∙ sym (last-push (is_in blocks bucket) keys key
        ∙ ap (λ (b : Bool). cond b (suc (length keys)) (last (is_in blocks bucket) keys)) e)
    by_bucket bucket false e =
        get_or-set_other lasts (bucket_of blocks key) bucket (place + 1) 0
        (apart_tells (bucket_of blocks key) bucket e)
        ∙ shelved.ends bucket
        ∙ sym (last-push (is_in blocks bucket) keys key
        ∙ ap (λ (b : Bool). cond b (suc (length keys)) (last (is_in blocks bucket) keys)) e)

    by_place : (i : ℕ) (k : Key) → slice_get (keys ++ key ∷ []) i ≡ Some k → (b : Bool) →
        nat_lt i (length keys) ≡ b →
        get_or (set links place (get_or lasts (bucket_of blocks key) 0)) i 0
        ≡ last (is_in blocks (bucket_of blocks k)) (take i (keys ++ key ∷ []))
    by_place i k e true lt =
        let below : i < length keys = grind (arith, nat_tests, lt) in
        let other : i ≢ place = omega (arith, below, long) in
        get_or-set_other links place i (get_or lasts (bucket_of blocks key) 0) 0 other
        ∙ shelved.chain i k (at_front keys (key ∷ []) i k below e)
        ∙ ap (last (is_in blocks (bucket_of blocks k)))
        (sym (take-append-le i keys (key ∷ []) (omega (arith, below))))
    by_place i k e false lt =
        let above : length keys ≤ i = grind (arith, nat_tests, lt) in
        let inside : i < length (keys ++ key ∷ []) = slice_get_within (keys ++ key ∷ []) i k e in
        let whole : i ≡ length keys = omega (arith, above, inside, length-append keys (key ∷ [])) in
        get_or-set_at links place i (get_or lasts (bucket_of blocks key) 0) 0 (whole ∙ long) there
        ∙ shelved.ends (bucket_of blocks key)
        ∙ ap (λ (x : Key). last (is_in blocks (bucket_of blocks x)) keys)
        (at_seam keys key k i whole e)
        ∙ ap (last (is_in blocks (bucket_of blocks k))) (sym (take_seam keys (key ∷ []) i whole))

-- the last key less
pub shelved-unlink : (keys : List Key) (blocks : ℕ) (lasts links : List ℕ) (key : Key) (place : ℕ) →
    length keys ≡ place → bucket_of blocks key < length lasts →
    AreShelved (keys ++ key ∷ []) blocks lasts links →
    AreShelved keys blocks (set lasts (bucket_of blocks key) (get_or links place 0)) links
shelved-unlink keys blocks lasts links key place long within shelved = record {
  ends = λ bucket. by_bucket bucket (nat_eq (bucket_of blocks key) bucket) refl;
  chain = λ i k e.
      shelved.chain i k (still_at keys (key ∷ []) i k e)
      ∙ ap (last (is_in blocks (bucket_of blocks k))) (take-append-le i keys (key ∷ [])
      (let inside = slice_get_within keys i k e in omega (arith, inside)));
  enough = omega (arith, length-append keys (key ∷ []), shelved.enough);
}
  where
    by_bucket : (bucket : ℕ) (b : Bool) → nat_eq (bucket_of blocks key) bucket ≡ b
        → get_or (set lasts (bucket_of blocks key) (get_or links place 0)) bucket 0
        ≡ last (is_in blocks bucket) keys
    by_bucket bucket true e =
        let same : bucket_of blocks key ≡ bucket = eq_tells (bucket_of blocks key) bucket e in
        get_or-set_at lasts (bucket_of blocks key) bucket (get_or links place 0) 0 (sym same) within
        ∙ shelved.chain place key (behind_all keys key place (sym long))
        ∙ ap (last (is_in blocks (bucket_of blocks key)))
        (take_seam keys (key ∷ []) place (sym long))
        ∙ ap (λ n. last (is_in blocks n) keys) same
    by_bucket bucket false e =
        get_or-set_other lasts (bucket_of blocks key) bucket (get_or links place 0) 0
        (apart_tells (bucket_of blocks key) bucket e)
        ∙ shelved.ends bucket
        ∙ last-push (is_in blocks bucket) keys key
        ∙ ap (λ (b : Bool). cond b (suc (length keys)) (last (is_in blocks bucket) keys)) e

-- links behind those of the keys don't matter
pub shelved-longer : (keys : List Key) (blocks : ℕ) (lasts links more : List ℕ)
    → AreShelved keys blocks lasts links → AreShelved keys blocks lasts (links ++ more)
shelved-longer keys blocks lasts links more shelved = record {
  ends = shelved.ends;
  chain = λ i k e. get_or_append_left links more 0 i (let inside = slice_get_within keys i k e in
      omega (arith, inside, shelved.enough)) ∙ shelved.chain i k e;
  enough = omega (arith, shelved.enough, length-append links more);
}

-- without keys all buckets are empty
pub shelved-none : (blocks : ℕ) (lasts links : List ℕ) → ((i : ℕ) → get_or lasts i 0 ≡ 0)
    → AreShelved [] blocks lasts links
shelved-none blocks lasts links empty = record {
  ends = empty;
  chain = λ i k e. cc e;
  enough = omega arith;
}

-- equal keys are one
pub key_same : (a b : Key) → key_eq a b ≡ true → a ≡ b
key_same a b e = by (nat_eq a.pair b.pair) (nat_eq a.minute b.minute) refl refl e
  where
    by : (m n : Bool) → nat_eq a.pair b.pair ≡ m → nat_eq a.minute b.minute ≡ n
        → (m && n) ≡ true → a ≡ b
    by true true m n e =
        let pair = eq_tells a.pair b.pair m in
        let minute = eq_tells a.minute b.minute n in
        λ i. record { pair = pair i; minute = minute i }
    by true false m n e = cc e
    by false c m n e = cc e

pub key_itself : (a : Key) → key_eq a a ≡ true
key_itself a = rw (eq-itself a.pair, eq-itself a.minute) refl

-- the last place of a narrower test is no later
last-le : {A : Type 0} (p q : A → Bool) → ((x : A) → p x ≡ true → q x ≡ true) → (xs : List A)
    → last p xs ≤ last q xs
last-le p q sub [] = omega arith
last-le p q sub (x ∷ xs) = by (last p xs) (last q xs) (p x) (q x) (last-le p q sub xs) (sub x)
  where
    by : (m n : ℕ) (a b : Bool) → m ≤ n → (a ≡ true → b ≡ true) → later m a ≤ later n b
    by zero zero true true h s = omega arith
    by zero zero true false h s = cc (s refl)
    by zero zero false true h s = omega arith
    by zero zero false false h s = omega arith
    by zero (suc n) true b h s = omega arith
    by zero (suc n) false b h s = omega arith
    by (suc m) zero a b h s = absurd (omega (arith, h))
    by (suc m) (suc n) a b h s = omega (arith, h)

-- a key stands in its bucket
in_own : (blocks : ℕ) (key k : Key) → key_eq key k ≡ true
    → is_in blocks (bucket_of blocks key) k ≡ true
in_own blocks key k e =
    ap (λ (x : Key). nat_eq (bucket_of blocks x) (bucket_of blocks key)) (sym (key_same key k e))
    ∙ eq-itself (bucket_of blocks key)

-- What was passed isn't the key: what is sought stands before this place, and the key there is
-- of its bucket.
pub record IsSought (keys : List Key) (blocks : ℕ) (key : Key) (next : ℕ) : Type 0 where
  pub upto : last (key_eq key) (take next keys) ≡ last (key_eq key) keys
  pub here : (place : ℕ) (k : Key) → next ≡ suc place → slice_get keys place ≡ Some k
      → bucket_of blocks k ≡ bucket_of blocks key
  pub within : next ≤ length keys

pub sought-first : (keys : List Key) (blocks : ℕ) (key : Key) (next : ℕ)
    → next ≡ last (is_in blocks (bucket_of blocks key)) keys → IsSought keys blocks key next
sought-first keys blocks key next is =
    let q = is_in blocks (bucket_of blocks key) in
    record {
      upto = ap (λ n. last (key_eq key) (take n keys)) is ∙ last-take (key_eq key) keys
          (last q keys) (last-le (key_eq key) q (in_own blocks key) keys);
      here = λ place k e g. eq_tells (bucket_of blocks k) (bucket_of blocks key)
          (last-passes q keys place k (sym is ∙ e) g);
      within = omega (arith, is, last-within q keys);
    }

-- the key at the place is another: on to the one before it in the bucket
pub sought-next : (keys : List Key) (blocks : ℕ) (key k : Key) (place next : ℕ) →
    slice_get keys place ≡ Some k → key_eq key k ≡ false →
    next ≡ last (is_in blocks (bucket_of blocks k)) (take place keys) →
    IsSought keys blocks key (suc place) → IsSought keys blocks key next
sought-next keys blocks key k place next there other is sought =
    let q = is_in blocks (bucket_of blocks key) in
    let before = take place keys in
    let own : bucket_of blocks k ≡ bucket_of blocks key = sought.here place k refl there in
    let is' : next ≡ last q before = is ∙ ap (λ n. last (is_in blocks n) before) own in
    let back : next ≤ place = omega (arith, is', last-within q before, length-few place keys) in
    record {
      upto =
          ap (λ ks. last (key_eq key) ks) (sym (take-take next place keys back))
          ∙ ap (λ n. last (key_eq key) (take n before)) is'
          ∙ last-take (key_eq key) before (last q before)
          (last-le (key_eq key) q (in_own blocks key) before)
          ∙ sym (last-push (key_eq key) before k
          ∙ ap (λ (b : Bool). cond b (suc (length before)) (last (key_eq key) before)) other)
          ∙ ap (last (key_eq key)) (sym (take_at keys place k there))
          ∙ sought.upto;
      here = λ p k' e g.
          let lt : p < place = omega (arith, e, back) in
          eq_tells (bucket_of blocks k') (bucket_of blocks key)
          (last-passes q before p k' (sym is' ∙ e) (taken_at keys place p k' lt g));
      within = omega (arith, back, sought.within);
    }

pub sought-found : (keys : List Key) (blocks : ℕ) (key k : Key) (place : ℕ) →
    slice_get keys place ≡ Some k → key_eq key k ≡ true → IsSought keys blocks key (suc place) →
    Some place ≡ below (last (key_eq key) keys)
sought-found keys blocks key k place there same sought =
    let inside = slice_get_within keys place k there in
    let long : length (take place keys) ≡ place =
    length-take-le place keys (omega (arith, inside)) in
    ap below
    (ap suc (sym long)
    ∙ sym (last-push (key_eq key) (take place keys) k ∙ ap (λ (b : Bool).
    cond b (suc (length (take place keys))) (last (key_eq key) (take place keys))) same)
    ∙ ap (last (key_eq key)) (sym (take_at keys place k there))
    ∙ sought.upto)

pub sought-none : (keys : List Key) (blocks : ℕ) (key : Key) (next : ℕ) → next ≤ 0
    → IsSought keys blocks key next → None ≡ below (last (key_eq key) keys)
sought-none keys blocks key next h sought = let none : next ≡ 0 = omega (arith, h) in
    ap below (ap (λ n. last (key_eq key) (take n keys)) (sym none) ∙ sought.upto)

-- the same, as the code has it: the bucket and what it held are read first
pub linked : (keys : List Key) (blocks : ℕ) (lasts links : List ℕ)
    (key : Key) (place bucket before : ℕ) → length keys ≡ place → place < length links →
    bucket ≡ bucket_of blocks key → bucket < length lasts →
    before ≡ get_or lasts bucket before → AreShelved keys blocks lasts links →
    AreShelved (keys ++ key ∷ []) blocks (set lasts bucket (place + 1)) (set links place before)
linked keys blocks lasts links key place bucket before long there is within read shelved =
    let inside : bucket_of blocks key < length lasts = subst (λ n. n < length lasts) is within in
    let held : before ≡ get_or lasts (bucket_of blocks key) 0 = read
    ∙ get_or_default_zero lasts bucket before within ∙ ap (λ n. get_or lasts n 0) is in
    subst (λ n. AreShelved (keys ++ key ∷ []) blocks (set lasts n (place + 1))
    (set links place before)) (sym is)
    (subst (λ v. AreShelved (keys ++ key ∷ []) blocks (set lasts (bucket_of blocks key) (place + 1))
    (set links place v)) (sym held)
    (shelved-link keys blocks lasts links key place long there inside shelved))

pub unlinked : (keys : List Key) (blocks : ℕ) (lasts links : List ℕ)
    (key : Key) (place bucket before : ℕ) → length keys ≡ place → place < length links →
    bucket ≡ bucket_of blocks key → bucket < length lasts →
    before ≡ get_or links place before → AreShelved (keys ++ key ∷ []) blocks lasts links →
    AreShelved keys blocks (set lasts bucket before) links
unlinked keys blocks lasts links key place bucket before long there is within read shelved =
    let inside : bucket_of blocks key < length lasts = subst (λ n. n < length lasts) is within in
    let held : before ≡ get_or links place 0 = read
    ∙ get_or_default_zero links place before there in
    subst (λ n. AreShelved keys blocks (set lasts n before) links) (sym is)
    (subst (λ v. AreShelved keys blocks (set lasts (bucket_of blocks key) v) links) (sym held)
    (shelved-unlink keys blocks lasts links key place long inside shelved))

abbrev no_key : Key
no_key = record { pair = 0; minute = 0 }

-- two keys are equal from either side
swapped_same : (a b : Key) → key_eq a b ≡ true → key_eq b a ≡ true
swapped_same a b e = ap (λ (x : Key). key_eq x a) (sym (key_same a b e)) ∙ key_itself a

swapped_other : (a b : Key) → key_eq a b ≡ false → key_eq b a ≡ false
swapped_other a b e = by (key_eq b a) refl
  where
    by : (c : Bool) → key_eq b a ≡ c → c ≡ false
    by true f = cc (sym (swapped_same b a f) ∙ e)
    by false f = refl

-- the key at a place that is sought is the one
pub sought-at : (keys : List Key) (blocks : ℕ) (key : Key) (next : ℕ) → 0 < next →
    key_eq (get_or keys (next - 1) no_key) key ≡ true → IsSought keys blocks key next →
    Some (next - 1) ≡ below (last (key_eq key) keys)
sought-at keys blocks key next some same sought =
    let whole : next ≡ suc (next - 1) = omega (arith, some) in
    let inside : next - 1 < length keys = omega (arith, some, sought.within) in
    sought-found keys blocks key (get_or keys (next - 1) no_key) (next - 1)
    (slice_get-get_or keys (next - 1) no_key inside)
    (swapped_same (get_or keys (next - 1) no_key) key same)
    (subst (IsSought keys blocks key) whole sought)

pub record IsPassed (keys : List Key) (blocks : ℕ) (key : Key) (next before : ℕ) : Type 0 where
  pub sought : IsSought keys blocks key before
  pub fewer : before < next

-- or it is another
pub sought-on : (keys : List Key) (blocks : ℕ) (lasts links : List ℕ) (key : Key)
    (next before : ℕ) → 0 < next → key_eq (get_or keys (next - 1) no_key) key ≡ false →
    before ≡ get_or links (next - 1) before → AreShelved keys blocks lasts links →
    IsSought keys blocks key next → IsPassed keys blocks key next before
sought-on keys blocks lasts links key next before some other read shelved sought =
    let whole : next ≡ suc (next - 1) = omega (arith, some) in
    let inside : next - 1 < length keys = omega (arith, some, sought.within) in
    let k = get_or keys (next - 1) no_key in
    let there : slice_get keys (next - 1) ≡ Some k =
    slice_get-get_or keys (next - 1) no_key inside in
    let linked : next - 1 < length links = omega (arith, inside, shelved.enough) in
    let is : before ≡ last (is_in blocks (bucket_of blocks k)) (take (next - 1) keys) = read
    ∙ get_or_default_zero links (next - 1) before linked ∙ shelved.chain (next - 1) k there in
    record {
      sought = sought-next keys blocks key k (next - 1) before there (swapped_other k key other) is
          (subst (IsSought keys blocks key) whole sought);
      fewer = omega (
        arith,
        some,
        is,
        last-within (is_in blocks (bucket_of blocks k)) (take (next - 1) keys),
        length-few (next - 1) keys,
      );
    }
