-- A head that is read, or isn't.
use Rattle.std.proofs.Common.{◌≡◌, inl, inr, ℕ, ◌≤◌, not, nat_lt, Bool, List, ◌++◌, length}
use Rattle.std.proofs.Common.{true, false}
use Rattle.std.proofs.Common.{Option, Some, None, Result, Ok, Err, refl, sym, ap, ◌∙◌, arith, take}
use Rattle.std.proofs.Common.{drop, bytes_eq, length-append}
use Rattle.std.specs.Prelude.{◌==◌, IfErr, IfOk}
use Rattle.std.proofs.lemmas.Bool.{ltb-false}
use Rattle.std.proofs.lemmas.List.{take-append-le}
use Rattle.std.proofs.Math.Seq.{drop-append_seam}
use Rattle.office_outside.specs.Told.{HasNothingLeft}
use Rattle.entry_records.specs.Feeds.{feed_mark}
use Rattle.office_history.specs.History.{Office}
use Rattle.follow_terms.specs.declared.FollowEnd.{FollowEnd}
use Rattle.follow_terms.specs.declared.FollowEnd.TheVariants as ends
use Rattle.follow_terms.specs.Pieces.{behind, end_where, head_read, numeral, piece_end}
use Rattle.office_follow.specs.Heads.{IsHeadRead, LacksHead, head_of}
use Rattle.office_follow.specs.Pieces.{IsTaken, LacksPiece}
use Rattle.office_follow.proofs.PieceLemmas.{numeral_front}

abbrev head_by : Office → ℕ → List ℕ → ℕ → ℕ → ℕ → Result (ℕ × ℕ) FollowEnd
head_by o at front origin first count =
    behind {A = ℕ × ℕ} (end_where (not (bytes_eq front feed_mark)) (ends.Broken at))
    (behind {A = ℕ × ℕ} (end_where (not (origin == o.origin)) (ends.OtherOrigin origin))
    (behind {A = ℕ × ℕ} (end_where (nat_lt (length o.history) first) (ends.Gap first))
    (Ok (first, count))))

-- the bytes of a head say the same with what follows
head_front : (o : Office) (at : ℕ) (piece rest : List ℕ) → length piece ≡ 20
    → head_of o at (piece ++ rest) ≡ head_of o at piece
head_front o at piece rest long =
    let m : take 8 (piece ++ rest) ≡ take 8 piece =
    take-append-le 8 piece rest (omega (arith, long)) in
    let x = numeral_front 8 piece rest (omega (arith, long)) in
    let y = numeral_front 12 piece rest (omega (arith, long)) in
    let z = numeral_front 16 piece rest (omega (arith, long)) in
    λ i. head_by o at (m i) (x i) (y i) (z i)

head_is : (o : Office) (at : ℕ) (piece left rest : List ℕ) (read : Result (ℕ × ℕ) FollowEnd)
    → ◌≡◌ {A = Option FollowEnd} (piece_end at 20 left) None → left ≡ piece ++ rest
    → length piece ≡ 20 → read ≡ head_of o at piece → head_read o at left ≡ read
head_is o at piece left rest read whole is long read-is =
    ap (λ (end : Option FollowEnd). behind {A = ℕ × ℕ} end (head_of o at left)) whole
    ∙ ap (head_of o at) is ∙ head_front o at piece rest long ∙ sym read-is

some_left : (piece left rest : List ℕ) → left ≡ piece ++ rest → length piece ≡ 20 → 1 ≤ length left
some_left piece left rest is long = omega (arith, ap length is, length-append piece rest, long)

pub head_read_here : (o : Office) (at : ℕ) (piece : List ℕ) (head : ℕ × ℕ)
    (old new : Option (List ℕ)) → IsTaken at 20 piece old new → length piece ≡ 20
    → ◌≡◌ {A = Result (ℕ × ℕ) FollowEnd} (Ok head) (head_of o at piece)
    → IsHeadRead o at head old new
head_read_here o at piece head None None taken long read = tt
head_read_here o at piece head None (Some rest) taken long read = absurd taken
head_read_here o at piece head (Some left) None taken long read = absurd taken
head_read_here o at piece head (Some left) (Some rest) taken long read = (
  some_left piece left rest taken.1 long,
  head_is o at piece left rest (Ok head) taken.0 taken.1 long read,
  sym (drop-append_seam piece rest)
      ∙ ap (λ (n : ℕ). drop n (piece ++ rest)) long ∙ ap (drop 20) (sym taken.1),
)

pub no_head_here : (o : Office) (at : ℕ) (piece : List ℕ) (end : FollowEnd)
    (old new : Option (List ℕ)) → IsTaken at 20 piece old new → length piece ≡ 20
    → ◌≡◌ {A = Result (ℕ × ℕ) FollowEnd} (Err end) (head_of o at piece)
    → LacksHead o at old end
no_head_here o at piece end None new taken long read = inr tt
no_head_here o at piece end (Some left) None taken long read = absurd taken
no_head_here o at piece end (Some left) (Some rest) taken long read = inr (inr (
  some_left piece left rest taken.1 long,
  head_is o at piece left rest (Err end) taken.0 taken.1 long read,
))

pub heads_read : (o : Office) (at : ℕ) (piece : List ℕ) (old new : Option (List ℕ))
    (r : Result (ℕ × ℕ) FollowEnd) → IsTaken at 20 piece old new → length piece ≡ 20
    → r ≡ head_of o at piece → IfOk r (λ head. IsHeadRead o at head old new)
heads_read o at piece old new (Ok head) taken long read =
    head_read_here o at piece head old new taken long read
heads_read o at piece old new (Err end) taken long read = tt

pub heads_lack : (o : Office) (at : ℕ) (piece : List ℕ) (old new : Option (List ℕ))
    (r : Result (ℕ × ℕ) FollowEnd) → IsTaken at 20 piece old new → length piece ≡ 20
    → r ≡ head_of o at piece → IfErr r (LacksHead o at old)
heads_lack o at piece old new (Ok head) taken long read = tt
heads_lack o at piece old new (Err end) taken long read =
    no_head_here o at piece end old new taken long read

pub lacks_head : (o : Office) (at : ℕ) (old : Option (List ℕ)) (end : FollowEnd)
    → LacksPiece at 20 old end → LacksHead o at old end
lacks_head o at old end (inl out) = inl out
lacks_head o at None end (inr lacks) = inr tt
lacks_head o at (Some left) end (inr lacks) = inr (inr (
  lacks.0,
  ap (λ (end : Option FollowEnd). behind {A = ℕ × ℕ} end (head_of o at left)) lacks.1,
))

pub done_here : (o : Office) (at : ℕ) (old : Option (List ℕ)) → HasNothingLeft old
    → LacksHead o at old ends.Done
done_here o at None none = inr tt
done_here o at (Some left) none = inr (inl (none, refl))

-- a head that is read begins within the history
pub head_within : (o : Office) (at : ℕ) (piece : List ℕ) (head : ℕ × ℕ)
    → ◌≡◌ {A = Result (ℕ × ℕ) FollowEnd} (Ok head) (head_of o at piece)
    → head.0 ≤ length o.history
head_within o at piece head read = by (bytes_eq (take 8 piece) feed_mark)
    (numeral 8 piece == o.origin) (nat_lt (length o.history) (numeral 12 piece)) refl read
  where
    by : (a b c : Bool) → nat_lt (length o.history) (numeral 12 piece) ≡ c
        → ◌≡◌ {A = Result (ℕ × ℕ) FollowEnd} (Ok head)
        (behind {A = ℕ × ℕ} (end_where (not a) (ends.Broken at))
        (behind {A = ℕ × ℕ} (end_where (not b) (ends.OtherOrigin (numeral 8 piece)))
        (behind {A = ℕ × ℕ} (end_where c (ends.Gap (numeral 12 piece)))
        (Ok (numeral 12 piece, numeral 16 piece)))))
        → head.0 ≤ length o.history
    by false b c test is = absurd cc
    by true false c test is = absurd cc
    by true true true test is = absurd cc
    by true true false test is =
        let same : head ≡ (numeral 12 piece, numeral 16 piece) = cc is in
        omega (
          arith,
          ap (λ (h : ℕ × ℕ). h.0) same,
          ltb-false (length o.history) (numeral 12 piece) test,
        )
