-- How far live exclusions reach: the list sorted and joined has their minutes, and one search
-- finds whether a minute is among them.
use Rattle.std.proofs.Common.{◌≡◌, ℕ, zero, suc, ◌+◌, ◌-◌, ◌<◌, ◌≤◌, ◌&&◌, ◌||◌, Bool, true, false}
use Rattle.std.proofs.Common.{cond, nat_le, nat_lt, refl, ap, sym, ◌∙◌, arith, subst}
use Rattle.std.proofs.Common.{List, [], ◌∷◌, ◌++◌, length, map, filter, take, drop, set, get_or}
use Rattle.std.proofs.Common.{append_assoc, drop-cons, max, nat_cmp, slice_get}
use Rattle.std.specs.List.{list_any}
use Rattle.std.specs.List.Sorted.{IsPartitionPoint, IsPartitionedBy, IsPermutation, IsSortedBy}
use Rattle.std.specs.List.Sorted.{IsSortedByKey}
use Rattle.std.specs.Str.{bytes_eq}
use Rattle.std.specs.Cmp.{IsTotalOrder}
use Rattle.std.specs.Cmp.Lexicographic.{nat_list_cmp_total, nat_list_eq_equiv, slice_cmp}
use Rattle.std.specs.Ordering.{MatchOrdering, is_eq, is_gt, is_le, is_lt, ordering_reverse}
use Rattle.std.specs.Ordering.{ordering_then}
use Rattle.std.specs.declared.cmp.Ordering.{Ordering}
use Rattle.std.specs.declared.cmp.Ordering.TheVariants.{Less, Equal, Greater}
use Rattle.std.proofs.lemmas.Bool.{and_parts}
use Rattle.std.proofs.lemmas.Bool.Decides.{nat_tests}
use Rattle.std.proofs.lemmas.Cmp.{nat_cmp_total, on_total, ranked, then_total, tied_itself}
use Rattle.std.proofs.lemmas.Cmp.{upto}
use Rattle.std.proofs.lemmas.Grind.{common_steps}
use Rattle.std.proofs.lemmas.List.{append-nil, map-append, take_more, take_more_set}
use Rattle.std.proofs.lemmas.List.Elements.{filter-append}
use Rattle.std.proofs.lemmas.List.Folds.{Any-from_list_any, list_any_at}
use Rattle.std.proofs.lemmas.List.Sorted.{length_permutation, list_any-IsPermutation, ranks_by}
use Rattle.std.proofs.lemmas.List.Sorted.{sorted_far}
use Rattle.std.proofs.lemmas.Map.Text.{is_eq-slice_cmp}
use Rattle.std.proofs.lemmas.Slice.Eq.{bytes_eq-Decides}
use Rattle.sample_book.specs.Exclusions.{excludes, is_excluded}
use Rattle.sample_book.specs.Reaches.{AreOrdered, AreReaches, HaveBegun, all_joined, begins_at}
use Rattle.sample_book.specs.Reaches.{begins_by, end_of, has_minute, is_reach_of, joined}
use Rattle.sample_book.specs.Reaches.{joined_after, live_reaches, place_cmp, reach_of, start_of}
use Rattle.sample_book.specs.declared.exclusions.Exclusion.{Exclusion}
use Rattle.sample_book.specs.declared.reaches.Reach.{Reach}

-- the live exclusions have the excluded minutes
live-minutes : (made : List (Exclusion × Bool)) (slo : List ℕ) (minute : ℕ)
    → list_any (has_minute slo minute) (live_reaches made) ≡ is_excluded made slo minute
live-minutes [] slo minute = refl
live-minutes (kept ∷ made) slo minute = by kept.1 (live-minutes made slo minute)
  where
    by : (live : Bool) →
        list_any (has_minute slo minute) (live_reaches made) ≡ is_excluded made slo minute →
        list_any (has_minute slo minute) (map (λ (k : Exclusion × Bool). reach_of k.0)
        (cond live (kept ∷ filter (λ (k : Exclusion × Bool). k.1) made)
        (filter (λ (k : Exclusion × Bool). k.1) made)))
        ≡ (excludes slo minute (kept.0, live) || is_excluded made slo minute)
    by true rest = ap (λ (b : Bool). has_minute slo minute (reach_of kept.0) || b) rest
    by false rest = rest

live-few : (made : List (Exclusion × Bool)) → length (live_reaches made) ≤ length made
live-few [] = omega arith
live-few (kept ∷ made) = by kept.1 (live-few made)
  where
    by : (live : Bool) → length (live_reaches made) ≤ length made →
        length (map (λ (k : Exclusion × Bool). reach_of k.0)
        (cond live (kept ∷ filter (λ (k : Exclusion × Bool). k.1) made)
        (filter (λ (k : Exclusion × Bool). k.1) made)))
        ≤ length (kept ∷ made)
    by true rest = omega (arith, rest)
    by false rest = omega (arith, rest)

live-append : (xs ys : List (Exclusion × Bool))
    → live_reaches (xs ++ ys) ≡ live_reaches xs ++ live_reaches ys
live-append xs ys =
    ap (map (λ (kept : Exclusion × Bool). reach_of kept.0))
    (filter-append (λ (kept : Exclusion × Bool). kept.1) xs ys)
    ∙ map-append (λ (kept : Exclusion × Bool). reach_of kept.0)
    (filter (λ (kept : Exclusion × Bool). kept.1) xs)
    (filter (λ (kept : Exclusion × Bool). kept.1) ys)

-- one more of them
pub live-more : (made : List (Exclusion × Bool)) (k : ℕ) (kept : Exclusion × Bool)
    → k < length made → kept ≡ get_or made k kept
    → live_reaches (take (k + 1) made) ≡ live_reaches (take k made) ++ live_reaches (kept ∷ [])
live-more made k kept h is =
    ap live_reaches (take_more made k kept h)
    ∙ ap (λ (x : Exclusion × Bool). live_reaches (take k made ++ x ∷ [])) (sym is)
    ∙ live-append (take k made) (kept ∷ [])

pub live-one : (kept : Exclusion × Bool) → kept.1 ≡ true
    → live_reaches (kept ∷ []) ≡ reach_of kept.0 ∷ []
live-one kept h = ap (λ (b : Bool). map (λ (k : Exclusion × Bool). reach_of k.0)
    (cond b (kept ∷ []) [])) h

pub live-none : (kept : Exclusion × Bool) → kept.1 ≡ false → live_reaches (kept ∷ []) ≡ []
live-none kept h = ap (λ (b : Bool). map (λ (k : Exclusion × Bool). reach_of k.0)
    (cond b (kept ∷ []) [])) h

-- the order of the list
place_total : IsTotalOrder place_cmp
place_total = then_total (on_total (λ (p : List ℕ × ℕ). p.0) nat_list_cmp_total)
    (on_total (λ (p : List ℕ × ℕ). p.1) nat_cmp_total)

abbrev before : Reach → Reach → Bool
before x y = is_lt (place_cmp (start_of x) (start_of y))

abbrev sooner : Reach → Reach → Bool
sooner x y = is_lt (place_cmp (end_of x) (end_of y))

not_lt : (n m : ℕ) → is_lt (nat_cmp n m) ≡ false → m ≤ n
not_lt n m h = by (nat_cmp n m) (ranked n m (nat_cmp n m) refl) h
  where
    by : (o : Ordering) → MatchOrdering o (n < m) (n ≡ m) (m < n) → is_lt o ≡ false → m ≤ n
    by Less r h = cc h
    by Equal r h = omega (arith, r)
    by Greater r h = omega (arith, r)

lt_not : (n m : ℕ) → m ≤ n → is_lt (nat_cmp n m) ≡ false
lt_not n m h = by (nat_cmp n m) (ranked n m (nat_cmp n m) refl)
  where
    by : (o : Ordering) → MatchOrdering o (n < m) (n ≡ m) (m < n) → is_lt o ≡ false
    by Less r = absurd (omega (arith, r, h))
    by Equal r = refl
    by Greater r = refl

le_of : (n k : ℕ) → is_le (nat_cmp n k) ≡ true → n ≤ k
le_of n k h = by (nat_cmp n k) (ranked n k (nat_cmp n k) refl) h
  where
    by : (o : Ordering) → MatchOrdering o (n < k) (n ≡ k) (k < n) → is_le o ≡ true → n ≤ k
    by Less r h = omega (arith, r)
    by Equal r h = omega (arith, r)
    by Greater r h = cc h

of_le : (n k : ℕ) → n ≤ k → is_le (nat_cmp n k) ≡ true
of_le n k h = by (nat_cmp n k) (ranked n k (nat_cmp n k) refl)
  where
    by : (o : Ordering) → MatchOrdering o (n < k) (n ≡ k) (k < n) → is_le o ≡ true
    by Less r = refl
    by Equal r = refl
    by Greater r = absurd (omega (arith, r, h))

below : (m n : ℕ) → nat_lt m n ≡ true → m < n
below m n h = grind (arith, nat_tests)

above : (m n : ℕ) → nat_lt m n ≡ false → n ≤ m
above m n h = grind (arith, nat_tests)

at_most : (m n : ℕ) → nat_le m n ≡ true → m ≤ n
at_most m n h = grind (arith, nat_tests)

more_than : (m n : ℕ) → nat_le m n ≡ false → n < m
more_than m n h = grind (arith, nat_tests)

is_below : (m n : ℕ) → m < n → nat_lt m n ≡ true
is_below m n h = grind (arith, nat_tests)

is_at_most : (m n : ℕ) → m ≤ n → nat_le m n ≡ true
is_at_most m n h = grind (arith, nat_tests)

-- of one objective the one that isn't before begins no sooner
of_one : (name : List ℕ) (m n : ℕ) → is_lt (place_cmp (name, n) (name, m)) ≡ false → m ≤ n
of_one name m n h =
    let tied = tied_itself nat_list_cmp_total name in
    let later : is_lt (nat_cmp n m) ≡ false =
    subst (λ (o : Ordering). is_lt (ordering_then o (nat_cmp n m)) ≡ false) tied h in
    not_lt n m later

of_one_back : (name : List ℕ) (m n : ℕ) → m ≤ n → is_lt (place_cmp (name, n) (name, m)) ≡ false
of_one_back name m n h =
    let tied = tied_itself nat_list_cmp_total name in
    subst (λ (o : Ordering). is_lt (ordering_then o (nat_cmp n m)) ≡ false) (sym tied)
    (lt_not n m h)

of_one_by : (name : List ℕ) (n k : ℕ) → is_le (place_cmp (name, n) (name, k)) ≡ true → n ≤ k
of_one_by name n k h =
    let tied = tied_itself nat_list_cmp_total name in
    let by : is_le (nat_cmp n k) ≡ true =
    subst (λ (o : Ordering). is_le (ordering_then o (nat_cmp n k)) ≡ true) tied h in
    le_of n k by

-- of two objectives the order is that of their names
of_two : (name other : List ℕ) (m n k l : ℕ) → bytes_eq name other ≡ false
    → is_lt (place_cmp (other, n) (name, m)) ≡ false
    → is_lt (place_cmp (other, l) (name, k)) ≡ false
of_two name other m n k l apart h =
    by (slice_cmp nat_cmp other name) (is_eq-slice_cmp other name
    ∙ nat_list_eq_equiv.symm other name ∙ apart) h
  where
    by : (o : Ordering) → is_eq o ≡ false → is_lt (ordering_then o (nat_cmp n m)) ≡ false
        → is_lt (ordering_then o (nat_cmp l k)) ≡ false
    by Less e h = h
    by Equal e h = cc e
    by Greater e h = refl

-- what stands between an objective's own is the objective's
of_the_same : (name other : List ℕ) (m n k : ℕ) → is_lt (place_cmp (other, n) (name, m)) ≡ false
    → is_le (place_cmp (other, n) (name, k)) ≡ true → other ≡ name
of_the_same name other m n k h e =
    (bytes_eq-Decides other name).0 (sym (is_eq-slice_cmp other name)
    ∙ by (slice_cmp nat_cmp other name) h e)
  where
    by : (o : Ordering) → is_lt (ordering_then o (nat_cmp n m)) ≡ false
        → is_le (ordering_then o (nat_cmp n k)) ≡ true → is_eq o ≡ true
    by Less h e = cc h
    by Equal h e = refl
    by Greater h e = cc e

-- lists in order, one more in front
sorted-head : {X : Type 0} (lt : X → X → Bool) (x y : X) (xs : List X) → IsSortedBy lt (x ∷ y ∷ xs)
    → lt y x ≡ false
sorted-head lt x y xs h = h 0 x (omega arith) (omega arith)

sorted-tail : {X : Type 0} (lt : X → X → Bool) (x : X) (xs : List X) → IsSortedBy lt (x ∷ xs)
    → IsSortedBy lt xs
sorted-tail lt x xs h = λ k d low high.
    let e : suc k + 1 ≡ suc (k + 1) = omega arith in
    subst (λ (n : ℕ). lt (get_or (x ∷ xs) n d) (get_or xs k d) ≡ false) e
    (h (suc k) d (omega arith) (omega (arith, high)))

sorted-one : {X : Type 0} (lt : X → X → Bool) (x : X) → IsSortedBy lt (x ∷ [])
sorted-one lt x = λ k d low high. absurd (omega (arith, high))

sorted-cons : {X : Type 0} (lt : X → X → Bool) (x y : X) (xs : List X) → lt y x ≡ false
    → IsSortedBy lt (y ∷ xs) → IsSortedBy lt (x ∷ y ∷ xs)
sorted-cons {X} lt x y xs h rest = λ k d low high. by k d high
  where
    by : (k : ℕ) (d : X) → k + 1 < length (x ∷ y ∷ xs)
        → lt (get_or (x ∷ y ∷ xs) (k + 1) d) (get_or (x ∷ y ∷ xs) k d) ≡ false
    by zero d high = h
    by (suc k) d high =
        let e : suc (k + 1) ≡ suc k + 1 = omega arith in
        subst (λ (n : ℕ). lt (get_or (x ∷ y ∷ xs) n d) (get_or (y ∷ xs) k d) ≡ false) e
        (rest k d (omega arith) (omega (arith, high)))

-- a joined one begins where it began
joined-start : (x y : Reach) → start_of (joined x y) ≡ start_of y
joined-start x y = by (bytes_eq x.slo y.slo)
  where
    by : (b : Bool) → start_of (cond b (record {
      slo = y.slo;
      from = y.from;
      to = max y.to x.to;
    }) y) ≡ start_of y
    by true = refl
    by false = refl

-- so what is in order stays in order where the first is joined
sorted-joined : (x y : Reach) (ys : List Reach) → IsSortedBy before (y ∷ ys)
    → IsSortedBy before (joined x y ∷ ys)
sorted-joined x y [] h = sorted-one before (joined x y)
sorted-joined x y (z ∷ ys) h = sorted-cons before (joined x y) z ys
    (subst (λ (start : List ℕ × ℕ). is_lt (place_cmp (start_of z) start) ≡ false)
    (sym (joined-start x y)) (sorted-head before y z ys h)) (sorted-tail before y (z ∷ ys) h)

-- two of one objective have as many minutes where the second goes on as far as the first
joined-minutes : (own : Bool) (minute from to from' to' : ℕ) → from ≤ from' →
    (((own && nat_le from minute) && nat_lt minute to)
    || ((own && nat_le from' minute) && nat_lt minute (max to' to)))
    ≡ (((own && nat_le from minute) && nat_lt minute to)
    || ((own && nat_le from' minute) && nat_lt minute to'))
joined-minutes false minute from to from' to' h = refl
joined-minutes true minute from to from' to' h =
    by (nat_le from minute) (nat_le from' minute) (nat_lt minute to) (nat_lt minute to')
    (nat_lt minute (max to' to)) refl refl refl refl refl
  where
    by : (a b c d e : Bool) → nat_le from minute ≡ a → nat_le from' minute ≡ b
        → nat_lt minute to ≡ c → nat_lt minute to' ≡ d → nat_lt minute (max to' to) ≡ e
        → ((a && c) || (b && e)) ≡ ((a && c) || (b && d))
    by true b true d e ha hb hc hd he = refl
    by true b false true true ha hb hc hd he = refl
    by true b false true false ha hb hc hd he =
        let less = below minute to' hd in
        let end = above minute (max to' to) he in
        absurd (omega (arith, less, end))
    by true b false false true ha hb hc hd he =
        let end = below minute (max to' to) he in
        let first = above minute to hc in
        let second = above minute to' hd in
        absurd (omega (arith, end, first, second))
    by true b false false false ha hb hc hd he = refl
    by false true c d e ha hb hc hd he =
        let late = more_than from minute ha in
        let early = at_most from' minute hb in
        absurd (omega (arith, h, late, early))
    by false false c d e ha hb hc hd he = refl

joined-any : (x y : Reach) (slo : List ℕ) (minute : ℕ) → before y x ≡ false →
    (has_minute slo minute x || has_minute slo minute (joined x y))
    ≡ (has_minute slo minute x || has_minute slo minute y)
joined-any x y slo minute h = by (bytes_eq x.slo y.slo) refl
  where
    by : (b : Bool) → bytes_eq x.slo y.slo ≡ b →
        (has_minute slo minute x || has_minute slo minute (cond b (record {
          slo = y.slo;
          from = y.from;
          to = max y.to x.to;
        }) y))
        ≡ (has_minute slo minute x || has_minute slo minute y)
    by true e =
        let same : x.slo ≡ y.slo = (bytes_eq-Decides x.slo y.slo).0 e in
        let later : x.from ≤ y.from =
        of_one y.slo x.from y.from (subst (λ (name : List ℕ).
        is_lt (place_cmp (y.slo, y.from) (name, x.from)) ≡ false) same h) in
        subst (λ (name : List ℕ).
        (((bytes_eq name slo && nat_le x.from minute) && nat_lt minute x.to)
        || ((bytes_eq y.slo slo && nat_le y.from minute) && nat_lt minute (max y.to x.to)))
        ≡ (((bytes_eq name slo && nat_le x.from minute) && nat_lt minute x.to)
        || ((bytes_eq y.slo slo && nat_le y.from minute) && nat_lt minute y.to))) (sym same)
        (joined-minutes (bytes_eq y.slo slo) minute x.from x.to y.from y.to later)
    by false e = refl

or-grouped : (a b c : Bool) → ((a || b) || c) ≡ (a || (b || c))
or-grouped true b c = refl
or-grouped false b c = refl

-- what is joined has the minutes that were there
after-minutes : (x : Reach) (xs : List Reach) (slo : List ℕ) (minute : ℕ)
    → IsSortedBy before (x ∷ xs)
    → list_any (has_minute slo minute) (x ∷ joined_after x xs)
    ≡ list_any (has_minute slo minute) (x ∷ xs)
after-minutes x [] slo minute h = refl
after-minutes x (y ∷ xs) slo minute h =
    let p = has_minute slo minute in
    ap (λ (b : Bool). p x || b) (after-minutes (joined x y) xs slo minute
    (sorted-joined x y xs (sorted-tail before x (y ∷ xs) h)))
    ∙ sym (or-grouped (p x) (p (joined x y)) (list_any p xs))
    ∙ ap (λ (b : Bool). b || list_any p xs)
    (joined-any x y slo minute (sorted-head before x y xs h))
    ∙ or-grouped (p x) (p y) (list_any p xs)

joined-ends : (x y : Reach) → before y x ≡ false → sooner (joined x y) x ≡ false
joined-ends x y h = by (bytes_eq x.slo y.slo) refl
  where
    by : (b : Bool) → bytes_eq x.slo y.slo ≡ b → sooner (cond b (record {
      slo = y.slo;
      from = y.from;
      to = max y.to x.to;
    }) y) x ≡ false
    by true e =
        let same : x.slo ≡ y.slo = (bytes_eq-Decides x.slo y.slo).0 e in
        subst (λ (name : List ℕ). is_lt (place_cmp (y.slo, max y.to x.to) (name, x.to)) ≡ false)
        (sym same) (of_one_back y.slo x.to (max y.to x.to) (omega arith))
    by false e = of_two x.slo y.slo x.from y.from x.to y.to e h

after-ends : (x : Reach) (xs : List Reach) → IsSortedBy before (x ∷ xs)
    → IsSortedBy sooner (x ∷ joined_after x xs)
after-ends x [] h = sorted-one sooner x
after-ends x (y ∷ xs) h =
    sorted-cons sooner x (joined x y) (joined_after (joined x y) xs)
    (joined-ends x y (sorted-head before x y xs h))
    (after-ends (joined x y) xs (sorted-joined x y xs (sorted-tail before x (y ∷ xs) h)))

after-starts : (x : Reach) (xs : List Reach) → IsSortedBy before (x ∷ xs)
    → IsSortedBy before (x ∷ joined_after x xs)
after-starts x [] h = sorted-one before x
after-starts x (y ∷ xs) h =
    sorted-cons before x (joined x y) (joined_after (joined x y) xs)
    (subst (λ (start : List ℕ × ℕ). is_lt (place_cmp start (start_of x)) ≡ false)
    (sym (joined-start x y)) (sorted-head before x y xs h))
    (after-starts (joined x y) xs (sorted-joined x y xs (sorted-tail before x (y ∷ xs) h)))

after-length : (x : Reach) (xs : List Reach) → length (joined_after x xs) ≡ length xs
after-length x [] = refl
after-length x (y ∷ xs) = ap suc (after-length (joined x y) xs)

all-minutes : (xs : List Reach) (slo : List ℕ) (minute : ℕ) → IsSortedBy before xs
    → list_any (has_minute slo minute) (all_joined xs) ≡ list_any (has_minute slo minute) xs
all-minutes [] slo minute h = refl
all-minutes (x ∷ xs) slo minute h = after-minutes x xs slo minute h

all-ordered : (xs : List Reach) → IsSortedBy before xs → AreOrdered (all_joined xs)
all-ordered [] h = record {
  starts = λ k d low high. absurd (omega (arith, high));
  ends = λ k d low high. absurd (omega (arith, high));
}
all-ordered (x ∷ xs) h = record { starts = after-starts x xs h; ends = after-ends x xs h }

all-length : (xs : List Reach) → length (all_joined xs) ≡ length xs
all-length [] = refl
all-length (x ∷ xs) = ap suc (after-length x xs)

-- no exclusions
pub no_reaches : AreReaches [] []
no_reaches = record {
  ordered = all-ordered [] (λ k d low high. absurd (omega (arith, high)));
  minutes = λ slo minute. refl;
  few = omega arith;
}

-- the live exclusions sorted and joined are the reaches of all
pub reaches_made : (made : List (Exclusion × Bool)) (listed sorted reaches : List Reach)
    → listed ≡ live_reaches made → IsPermutation listed sorted
    → IsSortedByKey start_of place_cmp sorted → reaches ≡ all_joined sorted
    → AreReaches made reaches
reaches_made made listed sorted reaches is moved order all =
    subst (AreReaches made) (sym all) (record {
      ordered = all-ordered sorted order;
      minutes = λ slo minute. all-minutes sorted slo minute order
          ∙ sym (list_any-IsPermutation (has_minute slo minute) listed sorted moved)
          ∙ ap (list_any (has_minute slo minute)) is ∙ live-minutes made slo minute;
      few = omega (
        arith,
        all-length sorted,
        length_permutation listed sorted moved,
        ap length is,
        live-few made,
      );
    })

-- one more is joined
pub joining : (xs : List Reach) (place : ℕ) (d y : Reach) → 0 < place → place < length xs
    → y ≡ joined (get_or xs (place - 1) d) (get_or xs place d)
    → take (place + 1) (set xs place y)
    ++ joined_after (get_or (set xs place y) place d) (drop (place + 1) (set xs place y))
    ≡ take place xs ++ joined_after (get_or xs (place - 1) d) (drop place xs)
joining xs place d y some within is =
    let before_it = get_or xs (place - 1) d in
    let rest = drop (place + 1) xs in
    let first : take (place + 1) (set xs place y) ≡ take place xs ++ y ∷ [] =
    take_more_set xs place y within in
    let here : get_or (set xs place y) place d ≡ y = grind (arith, common_steps) in
    let same : drop (place + 1) (set xs place y) ≡ rest = grind (arith, common_steps) in
    let next : suc place ≡ place + 1 = omega arith in
    let split : drop place xs ≡ get_or xs place d ∷ rest = drop-cons xs place d within
    ∙ ap (λ (n : ℕ). get_or xs place d ∷ drop n xs) next in
    (λ i. first i ++ joined_after (here i) (same i))
    ∙ append_assoc (take place xs) (y ∷ []) (joined_after y rest)
    ∙ (λ i. take place xs ++ (is i ∷ joined_after (is i) rest))
    ∙ ap (λ (ys : List Reach). take place xs ++ joined_after before_it ys) (sym split)

-- a search for a minute of an objective finds where those behind it begin
pub partitioned : (slo : List ℕ) (minute : ℕ) (reaches : List Reach) → AreOrdered reaches
    → IsPartitionedBy (begins_by slo minute) reaches
partitioned slo minute reaches order = λ i j d le within begun.
    let x = get_or reaches i d in
    let y = get_or reaches j d in
    upto-le (place_cmp (start_of x) (slo, minute))
    (upto place_total (start_of x) (start_of y) (slo, minute)
    (ap is_gt (place_total.antisymm (start_of x) (start_of y))
    ∙ reversed (place_cmp (start_of y) (start_of x))
    ∙ sorted_far before (ranks_by place_total start_of) reaches order.starts i j d le within)
    (le-upto (place_cmp (start_of y) (slo, minute)) begun))
  where
    reversed : (o : Ordering) → is_gt (ordering_reverse o) ≡ is_lt o
    reversed Less = refl
    reversed Equal = refl
    reversed Greater = refl

    upto-le : (o : Ordering) → is_gt o ≡ false → is_le o ≡ true
    upto-le Less h = refl
    upto-le Equal h = refl
    upto-le Greater h = cc h

    le-upto : (o : Ordering) → is_le o ≡ true → is_gt o ≡ false
    le-upto Less h = refl
    le-upto Equal h = refl
    le-upto Greater h = cc h

-- one that is there begins by then, or doesn't
begins-there : (slo : List ℕ) (minute : ℕ) (reaches : List Reach) (place : ℕ) (d : Reach)
    → begins_at slo minute (slice_get reaches place) ≡ true
    → (place < length reaches) × (begins_by slo minute (get_or reaches place d) ≡ true)
begins-there slo minute [] place d h = cc h
begins-there slo minute (x ∷ xs) zero d h = (omega arith, h)
begins-there slo minute (x ∷ xs) (suc k) d h =
    let rest = begins-there slo minute xs k d h in (omega (arith, rest.0), rest.1)

not-there : (slo : List ℕ) (minute : ℕ) (reaches : List Reach) (place : ℕ) (d : Reach)
    → begins_at slo minute (slice_get reaches place) ≡ false → place < length reaches
    → begins_by slo minute (get_or reaches place d) ≡ false
not-there slo minute [] place d h within = absurd (omega (arith, within))
not-there slo minute (x ∷ xs) zero d h within = h
not-there slo minute (x ∷ xs) (suc k) d h within =
    not-there slo minute xs k d h (omega (arith, within))

-- where the last of so many begins by then, and the next one doesn't, just those do
pub begun_between : (slo : List ℕ) (minute : ℕ) (reaches : List Reach) (count : ℕ)
    → AreOrdered reaches
    → (0 < count → begins_at slo minute (slice_get reaches (count - 1)) ≡ true)
    → begins_at slo minute (slice_get reaches count) ≡ false
    → HaveBegun slo minute reaches count
begun_between slo minute reaches count order last next = record {
  within = few count last;
  begun = (
    λ k d low less.
        let some : 0 < count = omega (arith, less) in
        let there = begins-there slo minute reaches (count - 1) d (last some) in
        partitioned slo minute reaches order k (count - 1) d (omega (arith, less)) there.0
        there.1,
    λ k d low inside. behind k d low inside (begins_by slo minute (get_or reaches k d)) refl,
  );
}
  where
    few : (n : ℕ) → (0 < n → begins_at slo minute (slice_get reaches (n - 1)) ≡ true)
        → n ≤ length reaches
    few zero h = omega arith
    few (suc n) h =
        let e : suc n - 1 ≡ n = omega arith in
        let none : Reach = record { slo = []; from = 0; to = 0 } in
        let there = begins-there slo minute reaches n none
        (subst (λ (k : ℕ). begins_at slo minute (slice_get reaches k) ≡ true) e
        (h (omega arith))) in
        omega (arith, there.0)

    behind : (k : ℕ) (d : Reach) → count ≤ k → k < length reaches → (b : Bool)
        → begins_by slo minute (get_or reaches k d) ≡ b
        → begins_by slo minute (get_or reaches k d) ≡ false
    behind k d low inside false e = e
    behind k d low inside true e =
        let here : begins_by slo minute (get_or reaches count d) ≡ true =
        partitioned slo minute reaches order count k d low inside e in
        let no_more : begins_by slo minute (get_or reaches count d) ≡ false =
        not-there slo minute reaches count d next (omega (arith, low, inside)) in
        cc (here, no_more)

-- where none is of an objective, none has a minute of it
pub none_of : (slo : List ℕ) (minute : ℕ) (reaches : List Reach)
    → list_any (is_reach_of slo) reaches ≡ false
    → list_any (has_minute slo minute) reaches ≡ false
none_of slo minute [] h = refl
none_of slo minute (x ∷ xs) h = by (bytes_eq x.slo slo) (none_of slo minute xs) h
  where
    by : (own : Bool)
        → (list_any (is_reach_of slo) xs ≡ false → list_any (has_minute slo minute) xs ≡ false)
        → (own || list_any (is_reach_of slo) xs) ≡ false
        → (((own && nat_le x.from minute) && nat_lt minute x.to)
        || list_any (has_minute slo minute) xs) ≡ false
    by true rest h = cc h
    by false rest h = rest h

-- one that has the minute begins by then
begun : (slo : List ℕ) (minute : ℕ) (x : Reach) → has_minute slo minute x ≡ true
    → begins_by slo minute x ≡ true
begun slo minute x h =
    let parts = and_parts (bytes_eq x.slo slo && nat_le x.from minute) (nat_lt minute x.to) h in
    let first = and_parts (bytes_eq x.slo slo) (nat_le x.from minute) parts.0 in
    let same : x.slo ≡ slo = (bytes_eq-Decides x.slo slo).0 first.0 in
    let tied = tied_itself nat_list_cmp_total slo in
    let later = of_le x.from minute (at_most x.from minute first.1) in
    subst (λ (name : List ℕ). is_le (place_cmp (name, x.from) (slo, minute)) ≡ true) (sym same)
    (subst (λ (o : Ordering). is_le (ordering_then o (nat_cmp x.from minute)) ≡ true) (sym tied)
    later)

-- where none begins by then, none has the minute
pub none_begins : (slo : List ℕ) (minute : ℕ) (reaches : List Reach)
    → IsPartitionPoint (λ r. begins_by slo minute r ≡ true) (λ r. begins_by slo minute r ≡ false)
    reaches 0
    → list_any (has_minute slo minute) reaches ≡ false
none_begins slo minute reaches point =
    by (list_any (has_minute slo minute) reaches) refl
  where
    by : (b : Bool) → list_any (has_minute slo minute) reaches ≡ b → b ≡ false
    by false e = refl
    by true e =
        let found = Any-from_list_any (has_minute slo minute) reaches e in
        let x = found.1 in
        let ends : begins_by slo minute x ≡ false =
        subst (λ (r : Reach). begins_by slo minute r ≡ false) found.3
        (point.1 found.0 x (omega arith) found.2) in
        cc (begun slo minute x found.4, ends)

-- an element that is there is the same for each default
pub at_any : (xs : List Reach) (k : ℕ) (d e : Reach) → k < length xs → get_or xs k d ≡ get_or xs k e
at_any [] k d e h = absurd (omega (arith, h))
at_any (x ∷ xs) zero d e h = refl
at_any (x ∷ xs) (suc k) d e h = at_any xs k d e (omega (arith, h))

-- one that isn't before another of an objective, and begins by a minute of it, ends no sooner
ends_later : (slo : List ℕ) (minute : ℕ) (x last : Reach) → before last x ≡ false
    → sooner last x ≡ false → begins_by slo minute last ≡ true → has_minute slo minute x ≡ true
    → (bytes_eq last.slo slo && nat_lt minute last.to) ≡ true
ends_later slo minute x last starts ends begins h =
    let parts = and_parts (bytes_eq x.slo slo && nat_le x.from minute) (nat_lt minute x.to) h in
    let own : bytes_eq x.slo slo ≡ true =
    (and_parts (bytes_eq x.slo slo) (nat_le x.from minute) parts.0).0 in
    let same : x.slo ≡ slo = (bytes_eq-Decides x.slo slo).0 own in
    let one : last.slo ≡ x.slo =
    of_the_same x.slo last.slo x.from last.from minute starts (subst (λ (name : List ℕ).
    is_le (place_cmp (last.slo, last.from) (name, minute)) ≡ true) (sym same) begins) in
    let to : x.to ≤ last.to =
    of_one x.slo x.to last.to (subst (λ (name : List ℕ).
    is_lt (place_cmp (name, last.to) (x.slo, x.to)) ≡ false) one ends) in
    let inside = below minute x.to parts.1 in
    let behind = is_below minute last.to (omega (arith, to, inside)) in
    both (bytes_eq last.slo slo) (nat_lt minute last.to)
    (ap (λ (name : List ℕ). bytes_eq name slo) one ∙ own) behind
  where
    both : (a b : Bool) → a ≡ true → b ≡ true → (a && b) ≡ true
    both a b e f = rw e f

-- and has the minute itself
has_itself : (slo : List ℕ) (minute : ℕ) (last : Reach) → begins_by slo minute last ≡ true
    → bytes_eq last.slo slo ≡ true → nat_lt minute last.to ≡ true
    → has_minute slo minute last ≡ true
has_itself slo minute last begins own behind =
    let same : last.slo ≡ slo = (bytes_eq-Decides last.slo slo).0 own in
    let by : last.from ≤ minute =
    of_one_by slo last.from minute (subst (λ (name : List ℕ).
    is_le (place_cmp (name, last.from) (slo, minute)) ≡ true) same begins) in
    let from = is_at_most last.from minute by in
    all (bytes_eq last.slo slo) (nat_le last.from minute) (nat_lt minute last.to) own from behind
  where
    all : (a b c : Bool) → a ≡ true → b ≡ true → c ≡ true → ((a && b) && c) ≡ true
    all a b c e f g = rw e (rw f g)

-- else the last one that begins by then tells
pub last_tells : (slo : List ℕ) (minute next : ℕ) (reaches : List Reach) (last : Reach)
    → AreOrdered reaches → 0 < next → next ≤ length reaches
    → last ≡ get_or reaches (next - 1) last
    → IsPartitionPoint (λ r. begins_by slo minute r ≡ true) (λ r. begins_by slo minute r ≡ false)
    reaches next
    → list_any (has_minute slo minute) reaches ≡ (bytes_eq last.slo slo && nat_lt minute last.to)
last_tells slo minute next reaches last order some within is point =
    by (list_any (has_minute slo minute) reaches) (bytes_eq last.slo slo && nat_lt minute last.to)
    refl refl
  where
    begins : begins_by slo minute last ≡ true
    begins = subst (λ (r : Reach). begins_by slo minute r ≡ true) (sym is)
        (point.0 (next - 1) last (omega arith) (omega (arith, some)))

    -- one that has the minute stands at it or before it, and ends no later
    goes_on : (k : ℕ) (x : Reach) → k < length reaches → get_or reaches k x ≡ x
        → has_minute slo minute x ≡ true → (bytes_eq last.slo slo && nat_lt minute last.to) ≡ true
    goes_on k x inside at h =
        by_place (nat_lt k next) refl
      where
        found : get_or reaches k last ≡ x
        found = at_any reaches k last x inside ∙ at

        by_place : (b : Bool) → nat_lt k next ≡ b
            → (bytes_eq last.slo slo && nat_lt minute last.to) ≡ true
        by_place true e =
            let less = below k next e in
            let far : k ≤ next - 1 = omega (arith, less) in
            ends_later slo minute x last
            (subst (λ (y : Reach). before last y ≡ false) found
            (subst (λ (y : Reach). before y (get_or reaches k last) ≡ false) (sym is)
            (sorted_far before (ranks_by place_total start_of) reaches order.starts k (next - 1)
            last far (omega (arith, some, within)))))
            (subst (λ (y : Reach). sooner last y ≡ false) found
            (subst (λ (y : Reach). sooner y (get_or reaches k last) ≡ false) (sym is)
            (sorted_far sooner (ranks_by place_total end_of) reaches order.ends k (next - 1)
            last far (omega (arith, some, within)))))
            begins h
        by_place false e =
            let behind = above k next e in
            let not_yet : begins_by slo minute x ≡ false =
            subst (λ (y : Reach). begins_by slo minute y ≡ false) found
            (point.1 k last behind inside) in
            cc (begun slo minute x h, not_yet)

    by : (a b : Bool) → list_any (has_minute slo minute) reaches ≡ a
        → (bytes_eq last.slo slo && nat_lt minute last.to) ≡ b → a ≡ b
    by true true e f = refl
    by false false e f = refl
    by true false e f =
        let found = Any-from_list_any (has_minute slo minute) reaches e in
        cc (goes_on found.0 found.1 found.2 found.3 found.4, f)
    by false true e f =
        let parts = and_parts (bytes_eq last.slo slo) (nat_lt minute last.to) f in
        let has = has_itself slo minute last begins parts.0 parts.1 in
        cc (
          list_any_at (has_minute slo minute) reaches (next - 1) last (omega (arith, some))
              (subst (λ (r : Reach). has_minute slo minute r ≡ true) is has),
          e,
        )

-- the first is joined to none
pub joining_first : (xs : List Reach) (d : Reach)
    → take 1 xs ++ joined_after (get_or xs 0 d) (drop 1 xs) ≡ all_joined xs
joining_first [] d = refl
joining_first (x ∷ xs) d = refl

-- where none is left, all are joined
pub joined_all : (xs : List Reach) (place : ℕ) (d : Reach) → length xs ≤ place
    → take place xs ++ joined_after (get_or xs (place - 1) d) (drop place xs) ≡ xs
joined_all xs place d h =
    let all : take place xs ≡ xs = grind (arith, common_steps) in
    let none : drop place xs ≡ [] = grind (arith, common_steps) in
    (λ i. all i ++ joined_after (get_or xs (place - 1) d) (none i)) ∙ append-nil xs
