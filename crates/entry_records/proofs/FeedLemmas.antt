-- What a loop takes into a feed.
use Rattle.std.proofs.Common.{◌≡◌, ℕ, zero, suc, ◌+◌, ◌-◌, ◌≤◌, ◌<◌, List, [], ◌∷◌, ◌++◌, length}
use Rattle.std.proofs.Common.{drop, take, cond}
use Rattle.std.proofs.Common.{Some, None, refl, sym, ap, ◌∙◌, append_assoc, arith}
use Rattle.std.proofs.Common.{length-append}
use Rattle.std.proofs.lemmas.List.{append-nil}
use Rattle.std.proofs.Math.Seq.{take-append_seam}
use Rattle.std.proofs.lemmas.Bool.Decides.{nat_tests}
use Rattle.std.specs.Prelude.{slice_get, option_map, nat_lt, Bool, true, false}
use Rattle.std.specs.Int.{w32, to_be_bytes}
use Rattle.std.proofs.Common.{map}
use Rattle.record_form.specs.declared.Entry.{Entry}
use Rattle.record_form.specs.Records.{record_of}
use Rattle.entry_records.specs.Feeds.{fed, feed_mark, feed_of, room_behind, that_fit, with_lengths}
use Rattle.entry_records.specs.Kept.{taken_by}
use Rattle.entry_records.proofs.LawLemmas.{fed_are_most}

-- a record that is there is the first behind those before it
pub drop_there : (rs : List (List ℕ)) (i : ℕ) (r : List ℕ) → slice_get rs i ≡ Some r
    → drop i rs ≡ r ∷ drop (suc i) rs
drop_there [] i r e = absurd cc
drop_there (x ∷ rs) zero r e = ap (λ (y : List ℕ). y ∷ rs) (is e)
  where
    is : Some x ≡ Some r → x ≡ r
    is e = cc
drop_there (x ∷ rs) (suc i) r e = drop_there rs i r e

-- behind the last one there is none
pub drop_none : (rs : List (List ℕ)) (i : ℕ) → slice_get rs i ≡ None → drop i rs ≡ []
drop_none [] zero e = refl
drop_none [] (suc i) e = refl
drop_none (x ∷ rs) zero e = absurd cc
drop_none (x ∷ rs) (suc i) e = drop_none rs i e

-- its place is below the length
pub below : (rs : List (List ℕ)) (i : ℕ) (r : List ℕ) → slice_get rs i ≡ Some r → i < length rs
below [] i r e = absurd cc
below (x ∷ rs) zero r e = omega arith
below (x ∷ rs) (suc i) r e = omega (arith, below rs i r e)

-- where none is, its place is behind them
pub past : (rs : List (List ℕ)) (i : ℕ) → slice_get rs i ≡ None → length rs ≤ i
past [] i e = omega arith
past (x ∷ rs) zero e = absurd cc
past (x ∷ rs) (suc i) e = omega (arith, past rs i e)

-- a record whose bytes in a feed were counted
pub record IsThere (rs : List (List ℕ)) (i n : ℕ) : Type 0 where
  pub r : List ℕ
  pub is : slice_get rs i ≡ Some r
  pub long : n ≡ 4 + length r

pub there_is : (rs : List (List ℕ)) (i n : ℕ) → option_map taken_by (slice_get rs i) ≡ Some n
    → IsThere rs i n
there_is [] i n e = absurd cc
there_is (x ∷ rs) zero n e = record { r = x; is = refl; long = long e }
  where
    long : Some (4 + length x) ≡ Some n → n ≡ 4 + length x
    long e = cc
there_is (x ∷ rs) (suc i) n e =
    let t = there_is rs i n e in record { r = t.r; is = t.is; long = t.long }

-- and one that isn't there
pub nothing_is : (rs : List (List ℕ)) (i : ℕ) → option_map taken_by (slice_get rs i) ≡ None
    → slice_get rs i ≡ None
nothing_is [] i e = refl
nothing_is (x ∷ rs) zero e = absurd cc
nothing_is (x ∷ rs) (suc i) e = nothing_is rs i e

-- where no record is left, none goes into the feed
pub none_more : (room : ℕ) (rs : List (List ℕ)) (i : ℕ) → slice_get rs i ≡ None
    → that_fit room (drop i rs) ≡ []
none_more room rs i e = ap (that_fit room) (drop_none rs i e)

-- nor where the next one has no room
pub no_room : (room : ℕ) (rs : List (List ℕ)) (i : ℕ) (r : List ℕ) → slice_get rs i ≡ Some r
    → room < 4 + length r → that_fit room (drop i rs) ≡ []
no_room room rs i r e less = ap (that_fit room) (drop_there rs i r e)
    ∙ ap (λ (b : Bool). cond b [] (r ∷ that_fit (room - (4 + length r)) (drop (suc i) rs))) test
  where
    test : nat_lt room (4 + length r) ≡ true
    test = grind (arith, nat_tests)

-- nor where its bytes have no room
pub no_room_for : (room : ℕ) (rs : List (List ℕ)) (i n : ℕ)
    → option_map taken_by (slice_get rs i) ≡ Some n → room < n → that_fit room (drop i rs) ≡ []
no_room_for room rs i n e less =
    let t = there_is rs i n e in no_room room rs i t.r t.is (omega (arith, t.long, less))

-- the first one goes in
pub first_counted : (rs : List (List ℕ)) (from n : ℕ)
    → option_map taken_by (slice_get rs from) ≡ Some n
    → 1 + length (that_fit (room_behind n) (drop (from + 1) rs)) ≡ length (fed (drop from rs))
first_counted rs from n e =
    let t = there_is rs from n e in
    let all : fed (drop from rs) ≡ t.r ∷ that_fit (room_behind n) (drop (from + 1) rs) =
    ap fed (drop_there rs from t.r t.is ∙ ap (λ (k : ℕ). t.r ∷ drop k rs) next)
    ∙ ap (λ (m : ℕ). t.r ∷ that_fit (room_behind m) (drop (from + 1) rs)) (sym t.long) in
    omega (arith, ap length all)
  where
    next : suc from ≡ from + 1
    next = omega arith

-- and each next one that fits
pub one_counted : (rs : List (List ℕ)) (from count size n all : ℕ)
    → option_map taken_by (slice_get rs (from + count)) ≡ Some n → n ≤ room_behind size
    → count + length (that_fit (room_behind size) (drop (from + count) rs)) ≡ all
    → count + 1 + length (that_fit (room_behind (size + n)) (drop (from + (count + 1)) rs)) ≡ all
one_counted rs from count size n all e fits far =
    let t = there_is rs (from + count) n e in
    let before = room_behind size in
    let room : before - (4 + length t.r) ≡ room_behind (size + n) = omega (arith, t.long, fits) in
    let more = that_fit (room_behind (size + n)) (drop (from + (count + 1)) rs) in
    let step : that_fit before (drop (from + count) rs) ≡ t.r ∷ more =
    ap (that_fit before) (drop_there rs (from + count) t.r t.is)
    ∙ ap (λ (b : Bool). cond b [] (t.r ∷ that_fit (before - (4 + length t.r))
    (drop (suc (from + count)) rs))) (test t.r t.long)
    ∙ ap (λ (m : ℕ). t.r ∷ that_fit m (drop (suc (from + count)) rs)) room
    ∙ ap (λ (m : ℕ). t.r ∷ that_fit (room_behind (size + n)) (drop m rs)) next in
    omega (arith, ap length step, far)
  where
    next : suc (from + count) ≡ from + (count + 1)
    next = omega arith

    test : (r : List ℕ) → n ≡ 4 + length r → nat_lt (room_behind size) (4 + length r) ≡ false
    test r long = grind (arith, nat_tests)

-- where none goes in any more, all are counted
pub all_counted : (count all : ℕ) (more : List (List ℕ)) → count + length more ≡ all → more ≡ []
    → count ≡ all
all_counted count all more far e = omega (arith, ap length e, far)

-- those that go into a feed are the first ones
pub fed_first : (rs : List (List ℕ)) → take (length (fed rs)) rs ≡ fed rs
fed_first rs = let into = fed_are_most rs in
    ap (λ (all : List (List ℕ)). take (length (fed rs)) all) into.front
    ∙ take-append_seam (fed rs) into.left

pub fed_few : (rs : List (List ℕ)) → length (fed rs) ≤ length rs
fed_few rs = let into = fed_are_most rs in
    omega (arith, ap length into.front, length-append (fed rs) into.left)

-- what is put into a feed, and what is left to put
abbrev pub with_left : List ℕ → ℕ → ℕ → List (List ℕ) → List ℕ
with_left out place until rs = out ++ with_lengths (take (until - place) (drop place rs)) []

-- one record is put into it
pub one_put : (rs : List (List ℕ)) (place until : ℕ) (r out out' all : List ℕ)
    → slice_get rs place ≡ Some r → place < until
    → out' ≡ out ++ (to_be_bytes w32 (length r) ++ r) → with_left out place until rs ≡ all
    → with_left out' (place + 1) until rs ≡ all
one_put rs place until r out out' all e less is far =
    let more = take (until - (place + 1)) (drop (place + 1) rs) in
    let first : take (until - place) (drop place rs) ≡ r ∷ more =
    ap (take (until - place)) (drop_there rs place r e)
    ∙ ap (λ (m : ℕ). take m (r ∷ drop (suc place) rs)) count
    ∙ ap (λ (m : ℕ). r ∷ take (until - (place + 1)) (drop m rs)) next in
    ap (λ (b : List ℕ). b ++ with_lengths more []) is
    ∙ append_assoc out (to_be_bytes w32 (length r) ++ r) (with_lengths more [])
    ∙ ap (λ (b : List ℕ). out ++ b)
    (append_assoc (to_be_bytes w32 (length r)) r (with_lengths more []))
    ∙ ap (λ (ms : List (List ℕ)). out ++ with_lengths ms []) (sym first) ∙ far
  where
    count : until - place ≡ suc (until - (place + 1))
    count = omega (arith, less)

    next : suc place ≡ place + 1
    next = omega arith

-- where none is left, all is put
pub all_put : (rs : List (List ℕ)) (place until : ℕ) (out all : List ℕ) → until ≤ place
    → with_left out place until rs ≡ all → out ≡ all
all_put rs place until out all end far =
    sym (append-nil out)
    ∙ ap (λ (n : ℕ). out ++ with_lengths (take n (drop place rs)) []) (sym none) ∙ far
  where
    none : until - place ≡ 0
    none = omega (arith, end)

-- at the first one all is left
pub all_left : (rs : List (List ℕ)) (from count : ℕ) (out : List ℕ)
    → with_left out from (from + count) rs
    ≡ out ++ with_lengths (take count (drop from rs)) []
all_left rs from count out =
    ap (λ (n : ℕ). out ++ with_lengths (take n (drop from rs)) []) same
  where
    same : from + count - from ≡ count
    same = omega arith

drop_map : (i : ℕ) (h : List Entry) → drop i (map record_of h) ≡ map record_of (drop i h)
drop_map zero h = refl
drop_map (suc i) [] = refl
drop_map (suc i) (e ∷ h) = drop_map i h

-- head and records are the feed
pub feed_is : (text head : List ℕ) (origin from count : ℕ) (rs : List (List ℕ))
    → count ≡ length (fed rs)
    → head ≡ feed_mark ++ (to_be_bytes w32 origin
    ++ (to_be_bytes w32 from ++ to_be_bytes w32 count))
    → text ≡ head ++ with_lengths (take count rs) [] → text ≡ feed_of origin from rs
feed_is text head origin from count rs counted begun is =
    is ∙ ap (λ (h : List ℕ). h ++ with_lengths (take count rs) []) begun
    ∙ ap (λ (n : ℕ). (feed_mark ++ (to_be_bytes w32 origin
    ++ (to_be_bytes w32 from ++ to_be_bytes w32 n))) ++ with_lengths (take n rs) []) counted
    ∙ ap (λ (ms : List (List ℕ)). (feed_mark ++ (to_be_bytes w32 origin
    ++ (to_be_bytes w32 from ++ to_be_bytes w32 (length (fed rs))))) ++ with_lengths ms [])
    (fed_first rs)
    ∙ joined_to (to_be_bytes w32 origin) (to_be_bytes w32 from)
    (to_be_bytes w32 (length (fed rs))) (with_lengths (fed rs) [])
  where
    joined_to : (a b c d : List ℕ) → (feed_mark ++ (a ++ (b ++ c))) ++ d
        ≡ feed_mark ++ (a ++ (b ++ (c ++ d)))
    joined_to a b c d = simp append_assoc refl

-- the feed of a history's records
pub feed_of_history : (text : List ℕ) (origin from : ℕ) (h : List Entry)
    → text ≡ feed_of origin from (drop from (map record_of h))
    → text ≡ feed_of origin from (map record_of (drop from h))
feed_of_history text origin from h is = is ∙ ap (feed_of origin from) (drop_map from h)
