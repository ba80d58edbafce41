-- Records at their places.
use Rattle.std.proofs.Common.{◌≡◌, ℕ, zero, suc, ◌+◌, ◌-◌, ◌≤◌, ◌<◌, List, [], ◌∷◌, ◌++◌, length}
use Rattle.std.proofs.Common.{take}
use Rattle.std.proofs.Common.{drop, Some, None, refl, sym, ap, subst, ◌∙◌, append_assoc}
use Rattle.std.proofs.Common.{arith}
use Rattle.std.proofs.Common.{length-append}
use Rattle.std.specs.Prelude.{slice_get, slice_index, option_map}
use Rattle.std.proofs.Math.Seq.{take-append_seam, drop-append-add}
use Rattle.std.proofs.lemmas.List.{append-nil}
use Rattle.std.proofs.Common.{map}
use Rattle.std.proofs.lemmas.List.{length-map, map-append}
use Rattle.record_form.specs.declared.Entry.{Entry}
use Rattle.record_form.specs.Records.{record_of}
use Rattle.record_form.specs.Ranges.{IsRecord}
use Rattle.record_form.specs.Histories.{AreRecords, history_of}
use Rattle.record_form.specs.Laws.{OneRecordMore, RecordsHaveSizes}
use Rattle.entry_records.specs.Kept.{joined, ends_from, start_of, Holds, IsAt, IsKept, records_in}

-- one record more behind the others
pub joined_more : (rs : List (List ℕ)) (r : List ℕ) → joined (rs ++ r ∷ []) ≡ joined rs ++ r
joined_more [] r = append-nil r
joined_more (x ∷ rs) r = ap (λ (more : List ℕ). x ++ more) (joined_more rs r) ∙ sym
    (append_assoc x (joined rs) r)

-- and its end
pub ends_more : (at : ℕ) (rs : List (List ℕ)) (r : List ℕ) →
    ends_from at (rs ++ r ∷ []) ≡ ends_from at rs ++ (at + length (joined rs) + length r) ∷ []
ends_more at [] r = ap (λ (n : ℕ). n ∷ []) (omega arith)
ends_more at (x ∷ rs) r = ap (λ (more : List ℕ). (at + length x) ∷ more)
    (ends_more (at + length x) rs r ∙ ap (λ (n : ℕ). ends_from (at + length x) rs ++ n ∷ []) same)
  where
    same : at + length x + length (joined rs) + length r ≡ at + length (x ++ joined rs) + length r
    same = omega (arith, length-append x (joined rs))

-- there are as many ends as records
pub as_many : (at : ℕ) (rs : List (List ℕ)) → length (ends_from at rs) ≡ length rs
as_many at [] = refl
as_many at (r ∷ rs) = ap suc (as_many (at + length r) rs)

-- no end, no record
pub none_there : (at : ℕ) (rs : List (List ℕ)) (i : ℕ) → slice_get (ends_from at rs) i ≡ None
    → slice_get rs i ≡ None
none_there at [] i e = refl
none_there at (r ∷ rs) zero e = absurd cc
none_there at (r ∷ rs) (suc i) e = none_there (at + length r) rs i e

-- the record at a place of the joined ones
pub record IsPiece (at : ℕ) (rs : List (List ℕ)) (i end start : ℕ) : Type 0 where
  pub begun : at ≤ start
  pub ordered : start ≤ end
  pub within : end ≤ at + length (joined rs)
  pub piece : slice_get rs i ≡ Some (take (end - start) (drop (start - at) (joined rs)))

-- an end is that of the record at its place
pub there : (at : ℕ) (rs : List (List ℕ)) (i end : ℕ) → slice_get (ends_from at rs) i ≡ Some end
    → IsPiece at rs i end (start_of at rs i)
there at [] i end e = absurd cc
there at (r ∷ rs) zero end e =
    let is : end ≡ at + length r = cc (sym e) in
    record {
      begun = omega arith;
      ordered = omega (arith, is);
      within = omega (arith, is, length-append r (joined rs));
      piece = ap Some (sym (ap (λ (n : ℕ). take n (drop (at - at) (r ++ joined rs))) long
          ∙ ap (λ (n : ℕ). take (length r) (drop n (r ++ joined rs))) none ∙ take-append_seam r
          (joined rs)));
    }
  where
    none : at - at ≡ 0
    none = omega arith

    long : end - at ≡ length r
    long = let is : end ≡ at + length r = cc (sym e) in omega (arith, is)
there at (r ∷ rs) (suc i) end e =
    let p = there (at + length r) rs i end e in
    let start = start_of (at + length r) rs i in
    let back : start - at ≡ length r + (start - (at + length r)) = omega (arith, p.begun) in
    record {
      begun = omega (arith, p.begun);
      ordered = p.ordered;
      within = omega (arith, p.within, length-append r (joined rs));
      piece = p.piece ∙ ap (λ (bytes : List ℕ). Some (take (end - start) bytes))
          (sym (ap (λ (n : ℕ). drop n (r ++ joined rs)) back
          ∙ drop-append-add r (joined rs) (start - (at + length r))));
    }

pub begins : (at : ℕ) (rs : List (List ℕ)) (i : ℕ) → suc i < length (ends_from at rs)
    → slice_index (ends_from at rs) i ≡ start_of at rs (suc i)
begins at [] i few = absurd (omega (arith, few))
begins at (r ∷ []) i few = absurd (omega (arith, few))
begins at (r ∷ q ∷ rs) zero few = refl
begins at (r ∷ q ∷ rs) (suc i) few = begins (at + length r) (q ∷ rs) i (omega (arith, few))

pub begins_at : (at : ℕ) (rs : List (List ℕ)) (place : ℕ) → (place ≡ 0 → ⊥)
    → place < length (ends_from at rs) → slice_index (ends_from at rs) (place - 1)
    ≡ start_of at rs place
begins_at at rs zero e few = absurd (e refl)
begins_at at rs (suc i) e few = ap (slice_index (ends_from at rs)) (omega arith) ∙ begins at rs i
    few

pub at_place : (bytes ends : List ℕ) (rs : List (List ℕ)) (i end start : ℕ) → Holds bytes ends rs
    → slice_get ends i ≡ Some end → start ≡ start_of 0 rs i → IsAt bytes rs i end start
at_place bytes ends rs i end start h e is =
    let p = there 0 rs i end (ap (λ (ns : List ℕ). slice_get ns i) (sym h.ends_are) ∙ e) in
    record {
      ordered = omega (arith, is, p.ordered);
      within = omega (arith, p.within, ap length h.bytes_are);
      piece = p.piece ∙ ap (λ (n : ℕ). Some
          (take (end - n) (drop (start_of 0 rs i - 0) (joined rs)))) (sym is)
          ∙ ap (λ (n : ℕ). Some (take (end - start) (drop n (joined rs)))) (omega (arith, is))
          ∙ ap (λ (bs : List ℕ). Some (take (end - start) (drop start bs))) (sym h.bytes_are);
    }

pub nothing_at : (bytes ends : List ℕ) (rs : List (List ℕ)) (i : ℕ) → Holds bytes ends rs
    → slice_get ends i ≡ None → slice_get rs i ≡ None
nothing_at bytes ends rs i h e = none_there 0 rs i
    (ap (λ (ns : List ℕ). slice_get ns i) (sym h.ends_are) ∙ e)

pub kept_length : (bytes ends : List ℕ) → IsKept bytes ends
    → length ends ≡ length (history_of bytes)
kept_length bytes ends k = ap length k.holds.ends_are ∙ as_many 0 (records_in bytes)
    ∙ length-map (history_of bytes) record_of

pub kept_few : (bytes ends : List ℕ) → IsKept bytes ends → length ends ≤ 4294967295
kept_few bytes ends k = omega (arith, kept_length bytes ends k, k.few, k.counted)

pub get_map : (h : List Entry) (i : ℕ) → slice_get (map record_of h) i
    ≡ option_map record_of (slice_get h i)
get_map [] i = refl
get_map (e ∷ h) zero = refl
get_map (e ∷ h) (suc i) = get_map h i

pub kept_push : OneRecordMore → RecordsHaveSizes
    → (bytes bytes' piece ends ends' : List ℕ) (e : Entry)
    → IsKept bytes ends → IsRecord piece e → bytes' ≡ bytes ++ piece
    → ends' ≡ ends ++ length bytes' ∷ [] → length bytes' ≤ 4294967295 → IsKept bytes' ends'
kept_push law sizes bytes bytes' piece ends ends' e k is added told few =
    let one = law bytes e k.records is.fits in
    let grown : bytes' ≡ bytes ++ record_of e = added ∙ ap (λ (p : List ℕ). bytes ++ p) is.spelled
    in
    let history : history_of bytes' ≡ history_of bytes ++ e
    ∷ [] = ap history_of grown ∙ one.history in
    let rs : records_in bytes' ≡ records_in bytes ++ record_of e ∷ [] =
    ap (map record_of) history ∙ map-append record_of (history_of bytes) (e ∷ []) in
    let long : length bytes' ≡ length bytes + length (record_of e) =
    ap length grown ∙ length-append bytes (record_of e) in
    record {
      records = subst AreRecords (sym grown) one.records;
      holds = record {
        bytes_are = grown ∙ ap (λ (bs : List ℕ). bs ++ record_of e) k.holds.bytes_are
            ∙ sym (joined_more (records_in bytes) (record_of e)) ∙ ap joined (sym rs);
        ends_are = told ∙ ap (λ (n : ℕ). ends ++ n ∷ [])
            (omega (arith, long, ap length k.holds.bytes_are))
            ∙ ap (λ (ns : List ℕ). ns ++ (0 + length (joined (records_in bytes))
            + length (record_of e)) ∷ [])
            k.holds.ends_are
            ∙ sym (ends_more 0 (records_in bytes) (record_of e)) ∙ ap (ends_from 0) (sym rs);
      };
      few = few;
      counted = omega (
        arith,
        ap length history,
        length-append (history_of bytes) (e ∷ []),
        long,
        k.counted,
        (sizes e is.fits).least,
      );
    }

pub kept_records : (bytes ends : List ℕ) → IsKept bytes ends
    → length ends ≡ length (records_in bytes)
kept_records bytes ends k = ap length k.holds.ends_are ∙ as_many 0 (records_in bytes)
