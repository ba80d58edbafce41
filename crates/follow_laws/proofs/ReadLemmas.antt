-- What is read.
use Rattle.std.proofs.Common.{◌≡◌, ℕ, ◌+◌, ◌<◌, ◌≤◌, Bool, true, false, not, ◌&&◌, cond}
use Rattle.std.proofs.Common.{nat_lt}
use Rattle.std.proofs.Common.{nat_le, List, [], ◌++◌, length, refl, sym, ap, ◌∙◌, arith}
use Rattle.std.proofs.Common.{append-nil, take, Ok, Err, Some}
use Rattle.std.proofs.Common.{None}
use Rattle.std.proofs.Common.{Option, Result, bytes_eq, min}
use Rattle.std.specs.Prelude.{◌==◌, ◌^◌}
use Rattle.std.specs.Int.{w32, to_be_bytes}
use Rattle.std.proofs.lemmas.Bool.{le-ltb, eq-eqb, eqb-true}
use Rattle.std.proofs.lemmas.Bool.Decides.{nat_tests}
use Rattle.std.proofs.lemmas.Nat.{from_be_bytes-to_be_bytes_4}
use Rattle.std.proofs.lemmas.Slice.Eq.{bytes_eq-Decides}
use Rattle.std.proofs.Math.Seq.{take-append_seam}
use Rattle.slo_limits.specs.declared.TheConstants.{MAX_RECORD_BYTES}
use Rattle.record_form.specs.declared.Entry.{Entry}
use Rattle.record_form.specs.Records.{entry_of, record_of, whole}
use Rattle.record_form.specs.Ranges.{FitsRecord}
use Rattle.record_form.specs.Laws.{EntriesAreReadBack}
use Rattle.office_history.specs.History.{Office}
use Rattle.follow_terms.specs.declared.FollowEnd.{FollowEnd}
use Rattle.follow_terms.specs.declared.FollowEnd.TheVariants as ends
use Rattle.entry_records.specs.Feeds.{feed_mark, feed_text}
use Rattle.follow_terms.specs.Pieces.{head_read, length_read, record_read, numeral, behind}
use Rattle.follow_terms.specs.Pieces.{piece_end}
use Rattle.follow_terms.specs.Pieces.{end_where, entry_or}
use Rattle.entry_records.specs.declared.limits.TheConstants.{MAX_FEEDS_BYTES}

pub passed : {A : Type 0} (fault : Option FollowEnd) (read : Result A FollowEnd) (x : A)
    → behind fault read ≡ Ok x → read ≡ Ok x
passed None read x e = e
passed (Some end) read x e = absurd cc

ok_is : {A : Type 0} (x y : A) → ◌≡◌ {A = Result A FollowEnd} (Ok x) (Ok y) → x ≡ y
ok_is x y e = cc e

pub head_says : (o : Office) (at : ℕ) (left : List ℕ) (first count : ℕ)
    → head_read o at left ≡ Ok (first, count)
    → ◌≡◌ {A = ℕ × ℕ} (numeral 12 left, numeral 16 left) (first, count)
head_says o at left first count h =
    ok_is (numeral 12 left, numeral 16 left) (first, count)
    (passed (end_where (nat_lt (length o.history) (numeral 12 left)) (ends.Gap (numeral 12 left))) _
    _
    (passed (end_where (not (numeral 8 left == o.origin)) (ends.OtherOrigin (numeral 8 left))) _ _
    (passed (end_where (not (bytes_eq (take 8 left) feed_mark)) (ends.Broken at)) _ _
    (passed (piece_end at 20 left) _ _ h))))

marked : {A : Type 0} (b : Bool) (end : FollowEnd) (read : Result A FollowEnd) (x : A)
    → behind (end_where (not b) end) read ≡ Ok x → b ≡ true
marked true end read x e = refl
marked false end read x e = absurd cc

pub head_marked : (o : Office) (at : ℕ) (left : List ℕ) (first count : ℕ)
    → head_read o at left ≡ Ok (first, count) → take 8 left ≡ feed_mark
head_marked o at left first count h = (bytes_eq-Decides (take 8 left) feed_mark).0
    (marked (bytes_eq (take 8 left) feed_mark) (ends.Broken at) _ _
    (passed (piece_end at 20 left) _ _ h))

-- a head that is read is of the office's origin
pub head_own : (o : Office) (at : ℕ) (left : List ℕ) (first count : ℕ)
    → head_read o at left ≡ Ok (first, count) → numeral 8 left ≡ o.origin
head_own o at left first count h = eqb-true (numeral 8 left) o.origin
    (marked (numeral 8 left == o.origin) (ends.OtherOrigin (numeral 8 left)) _ _
    (passed (end_where (not (bytes_eq (take 8 left) feed_mark)) (ends.Broken at)) _ _
    (passed (piece_end at 20 left) _ _ h)))

within : (b : Bool) (n size at : ℕ) → cond b (Ok n) (Err (ends.Broken at)) ≡ Ok size → n ≡ size
within true n size at e = ok_is n size e
within false n size at e = absurd cc

pub length_says : (at : ℕ) (left : List ℕ) (size : ℕ) → length_read at left ≡ Ok size
    → numeral 0 left ≡ size
length_says at left size h =
    within (nat_le 1 (numeral 0 left) && nat_le (numeral 0 left) MAX_RECORD_BYTES)
    (numeral 0 left) size at (passed (piece_end at 4 left) _ _ h)

entry_there : (found : Option Entry) (at : ℕ) (e : Entry) → entry_or (ends.Broken at) found ≡ Ok e
    → found ≡ Some e
entry_there None at e h = absurd cc
entry_there (Some f) at e h = ap Some (ok_is f e h)

pub record_says : (at size : ℕ) (left : List ℕ) (e : Entry) → record_read at size left ≡ Ok e
    → entry_of (take size left) ≡ Some e
record_says at size left e h = entry_there (entry_of (take size left)) at e
    (passed (piece_end (at + 4) size left) _ _ h)

-- the only end is too much
abbrev pub IsPassed : Option FollowEnd → Type 0
IsPassed fault = (end : FollowEnd) → fault ≡ Some end → end ≡ ends.TooLarge

some_end : (a b : FollowEnd) → Some a ≡ Some b → b ≡ a
some_end a b e = cc e

by_tests : (past short : Bool) (end : FollowEnd) → short ≡ false
    → cond past (Some ends.TooLarge) (cond short (Some ends.Cut) None) ≡ Some end
    → end ≡ ends.TooLarge
by_tests true short end e h = some_end ends.TooLarge end h
by_tests false true end e h = absurd cc
by_tests false false end e h = absurd cc

pub whole_piece : (at size : ℕ) (left : List ℕ) → size ≤ length left
    → IsPassed (piece_end at size left)
whole_piece at size left le end h =
    by_tests (nat_lt MAX_FEEDS_BYTES (at + min size (length left))) (nat_lt (length left) size) end
    (le-ltb (length left) size le) h

abbrev head_of : Option FollowEnd → Office → ℕ → List ℕ → ℕ → ℕ → ℕ → Result (ℕ × ℕ) FollowEnd
head_of piece o at front origin first count =
    behind piece
    (behind (end_where (not (bytes_eq front feed_mark)) (ends.Broken at))
    (behind (end_where (not (origin == o.origin)) (ends.OtherOrigin origin))
    (behind (end_where (nat_lt (length o.history) first) (ends.Gap first))
    (Ok (first, count)))))

-- what a true head comes to
abbrev pub true_head : Option FollowEnd → Office → ℕ → ℕ → Result (ℕ × ℕ) FollowEnd
true_head piece o first count =
    behind piece (behind (end_where (nat_lt (length o.history) first) (ends.Gap first))
    (Ok (first, count)))

pub head_is : (o : Office) (at first : ℕ) (records : List (List ℕ)) (rest : List ℕ)
    → o.origin < 2 ^ 32 → first < 2 ^ 32 → length records < 2 ^ 32
    → head_read o at (feed_text o.origin first records rest)
    ≡ true_head (piece_end at 20 (feed_text o.origin first records rest)) o first (length records)
head_is o at first records rest a b c =
    let text = feed_text o.origin first records rest in
    let x : numeral 8 text ≡ o.origin = from_be_bytes-to_be_bytes_4 o.origin a in
    let y : numeral 12 text ≡ first = from_be_bytes-to_be_bytes_4 first b in
    let z : numeral 16 text ≡ length records = from_be_bytes-to_be_bytes_4 (length records) c in
    let read : head_read o at text
    ≡ head_of (piece_end at 20 text) o at feed_mark o.origin first (length records) =
    λ i. head_of (piece_end at 20 text) o at feed_mark (x i) (y i) (z i) in
    read ∙ ap (λ (b : Bool). behind (piece_end at 20 text)
    (behind (end_where (not b) (ends.OtherOrigin o.origin))
    (behind (end_where (nat_lt (length o.history) first) (ends.Gap first))
    (Ok (first, length records))))) (eq-eqb o.origin o.origin refl)

fits_32 : (n : ℕ) → n ≤ MAX_RECORD_BYTES → n < 2 ^ 32
fits_32 n le = omega (arith, le)

size_test : (n : ℕ) → 1 ≤ n → n ≤ MAX_RECORD_BYTES
    → (nat_le 1 n && nat_le n MAX_RECORD_BYTES) ≡ true
size_test n one most = grind (arith, nat_tests)

pub length_is : (at n : ℕ) (rest : List ℕ) → 1 ≤ n → n ≤ MAX_RECORD_BYTES
    → length_read at (to_be_bytes w32 n ++ rest)
    ≡ behind (piece_end at 4 (to_be_bytes w32 n ++ rest)) (Ok n)
length_is at n rest one most =
    let text = to_be_bytes w32 n ++ rest in
    let x : numeral 0 text ≡ n = from_be_bytes-to_be_bytes_4 n (fits_32 n most) in
    let read : length_read at text ≡ behind (piece_end at 4 text)
    (cond (nat_le 1 n && nat_le n MAX_RECORD_BYTES) (Ok n) (Err (ends.Broken at))) =
    λ i. behind (piece_end at 4 text)
    (cond (nat_le 1 (x i) && nat_le (x i) MAX_RECORD_BYTES) (Ok (x i)) (Err (ends.Broken at))) in
    read ∙ ap (λ (b : Bool). behind (piece_end at 4 text) (cond b (Ok n) (Err (ends.Broken at))))
    (size_test n one most)

pub record_is : EntriesAreReadBack → (at : ℕ) (e : Entry) (rest : List ℕ) → FitsRecord e
    → record_read at (length (record_of e)) (record_of e ++ rest)
    ≡ behind (piece_end (at + 4) (length (record_of e)) (record_of e ++ rest)) (Ok e)
record_is law at e rest fits =
    let one : take (length (record_of e)) (record_of e ++ rest) ≡ record_of e =
    take-append_seam (record_of e) rest in
    let two : entry_of (record_of e) ≡ Some e =
    ap entry_of (sym (append-nil (record_of e))) ∙ ap whole (law e [] fits) in
    ap (λ (found : Option Entry). behind
    (piece_end (at + 4) (length (record_of e)) (record_of e ++ rest))
    (entry_or (ends.Broken at) found))
    (ap entry_of one ∙ two)
