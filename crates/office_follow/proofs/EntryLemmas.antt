-- An entry that is read, or isn't.
use Rattle.std.proofs.Common.{◌≡◌, inl, inr, ℕ, ◌+◌, ◌≤◌, ◌&&◌, Bool, true, false, cond}
use Rattle.std.proofs.Common.{nat_le}
use Rattle.std.proofs.Common.{List, [], ◌++◌, length, Option, Some, None, Ok, Err}
use Rattle.std.proofs.Common.{sym, ap, ◌∙◌, subst, arith, take, drop}
use Rattle.std.proofs.lemmas.Bool.Decides.{nat_tests}
use Rattle.std.proofs.Math.Seq.{take-append_seam, drop-append_seam}
use Rattle.slo_limits.specs.declared.TheConstants.{MAX_RECORD_BYTES}
use Rattle.office_outside.specs.Told.{HasNothingLeft}
use Rattle.entry_records.specs.declared.limits.TheConstants.{MAX_FEEDS_BYTES}
use Rattle.record_form.specs.declared.Entry.{Entry}
use Rattle.record_form.specs.Records.{entry_of}
use Rattle.follow_terms.specs.declared.FollowEnd.{FollowEnd}
use Rattle.follow_terms.specs.declared.FollowEnd.TheVariants as ends
use Rattle.follow_terms.specs.Pieces.{behind, entry_or, length_read, numeral, piece_end}
use Rattle.follow_terms.specs.Pieces.{record_read}
use Rattle.office_follow.specs.Pieces.{EndsEntry, IsEntryRead, IsSizeRead, IsTaken}
use Rattle.office_follow.specs.Pieces.{IsNoEntry, LacksEntry, LacksPiece, LacksSize}
use Rattle.office_follow.proofs.PieceLemmas.{numeral_front, piece_cut}

-- a size, by whether it fits
size_of : (at : ℕ) (piece left rest : List ℕ) (size : ℕ) (fits : Bool)
    → ◌≡◌ {A = Option FollowEnd} (piece_end at 4 left) None → left ≡ piece ++ rest
    → length piece ≡ 4 → size ≡ numeral 0 piece
    → (nat_le 1 size && nat_le size MAX_RECORD_BYTES) ≡ fits
    → length_read at left ≡ cond fits (Ok size) (Err (ends.Broken at))
size_of at piece left rest size fits whole is long read test =
    let same : numeral 0 left ≡ size = ap (numeral 0) is
    ∙ numeral_front 0 piece rest (omega (arith, long)) ∙ sym read in
    ap (λ (end : Option FollowEnd). behind end
    (cond (nat_le 1 (numeral 0 left) && nat_le (numeral 0 left) MAX_RECORD_BYTES)
    (Ok (numeral 0 left)) (Err (ends.Broken at)))) whole
    ∙ ap (λ (n : ℕ). cond (nat_le 1 n && nat_le n MAX_RECORD_BYTES) (Ok n) (Err (ends.Broken at)))
    same
    ∙ ap (λ (b : Bool). cond b (Ok size) (Err (ends.Broken at))) test

pub size_read : (at size : ℕ) (piece : List ℕ) (old new : Option (List ℕ))
    → IsTaken at 4 piece old new → length piece ≡ 4 → size ≡ numeral 0 piece → 1 ≤ size
    → size ≤ MAX_RECORD_BYTES → IsSizeRead at size old new
size_read at size piece None None taken long read one most = tt
size_read at size piece None (Some rest) taken long read one most = absurd taken
size_read at size piece (Some left) None taken long read one most = absurd taken
size_read at size piece (Some left) (Some rest) taken long read one most = (
  size_of at piece left rest size true taken.0 taken.1 long read test,
  sym (drop-append_seam piece rest)
      ∙ ap (λ (n : ℕ). drop n (piece ++ rest)) long ∙ ap (drop 4) (sym taken.1),
)
  where
    test : (nat_le 1 size && nat_le size MAX_RECORD_BYTES) ≡ true
    test = grind (arith, nat_tests)

pub no_size : (at size : ℕ) (piece : List ℕ) (old new : Option (List ℕ))
    → IsTaken at 4 piece old new → length piece ≡ 4 → size ≡ numeral 0 piece
    → (nat_le 1 size && nat_le size MAX_RECORD_BYTES) ≡ false
    → LacksSize at old (ends.Broken at)
no_size at size piece None None taken long read test = inr tt
no_size at size piece None (Some rest) taken long read test = absurd taken
no_size at size piece (Some left) None taken long read test = absurd taken
no_size at size piece (Some left) (Some rest) taken long read test =
    inr (size_of at piece left rest size false taken.0 taken.1 long read test)

pub lacks_size : (at : ℕ) (old : Option (List ℕ)) (end : FollowEnd) → LacksPiece at 4 old end
    → LacksSize at old end
lacks_size at old end (inl out) = inl out
lacks_size at None end (inr lacks) = inr tt
lacks_size at (Some left) end (inr lacks) =
    inr (ap (λ (end : Option FollowEnd). behind end
    (cond (nat_le 1 (numeral 0 left) && nat_le (numeral 0 left) MAX_RECORD_BYTES)
    (Ok (numeral 0 left)) (Err (ends.Broken at)))) lacks.1)

-- where nothing is left the feed is cut
cut_here : (at size : ℕ) (left : List ℕ) → left ≡ [] → at ≤ MAX_FEEDS_BYTES → 1 ≤ size
    → piece_end at size left ≡ Some ends.Cut
cut_here at size left none few some =
    piece_cut at size left (omega (arith, ap length none, few))
    (omega (arith, ap length none, some))

pub cut_size : (at : ℕ) (old : Option (List ℕ)) → HasNothingLeft old → at ≤ MAX_FEEDS_BYTES
    → LacksSize at old ends.Cut
cut_size at None none few = inr tt
cut_size at (Some left) none few =
    inr (ap (λ (end : Option FollowEnd). behind end
    (cond (nat_le 1 (numeral 0 left) && nat_le (numeral 0 left) MAX_RECORD_BYTES)
    (Ok (numeral 0 left)) (Err (ends.Broken at)))) (cut_here at 4 left none few (omega arith)))

-- the record of that size
record_of_size : (at size : ℕ) (piece left rest : List ℕ) (found : Option Entry)
    → ◌≡◌ {A = Option FollowEnd} (piece_end (at + 4) size left) None → left ≡ piece ++ rest
    → length piece ≡ size → entry_of piece ≡ found
    → record_read at size left ≡ entry_or (ends.Broken at) found
record_of_size at size piece left rest found whole is long read =
    let front : take size left ≡ piece = ap (take size) is
    ∙ ap (λ (n : ℕ). take n (piece ++ rest)) (sym long) ∙ take-append_seam piece rest in
    ap (λ (end : Option FollowEnd). behind end
    (entry_or (ends.Broken at) (entry_of (take size left))))
    whole
    ∙ ap (λ (bs : List ℕ). entry_or (ends.Broken at) (entry_of bs)) front
    ∙ ap (entry_or (ends.Broken at)) read

rest_is : (size : ℕ) (piece left rest : List ℕ) → left ≡ piece ++ rest → length piece ≡ size
    → rest ≡ drop size left
rest_is size piece left rest is long = sym (drop-append_seam piece rest)
    ∙ ap (λ (n : ℕ). drop n (piece ++ rest)) long ∙ ap (drop size) (sym is)

-- facts of what is left, told of the input behind the length
pub entry_read : (at size : ℕ) (e : Entry) (piece : List ℕ) (old mid new : Option (List ℕ))
    → IsSizeRead at size old mid → IsTaken (at + 4) size piece mid new → length piece ≡ size
    → entry_of piece ≡ Some e → IsEntryRead at size e old new
entry_read at size e piece None None None read taken long is = tt
entry_read at size e piece None None (Some rest) read taken long is = absurd taken
entry_read at size e piece None (Some m) new read taken long is = absurd read
entry_read at size e piece (Some left) None new read taken long is = absurd read
entry_read at size e piece (Some left) (Some m) None read taken long is = absurd taken
entry_read at size e piece (Some left) (Some m) (Some rest) read taken long is = (
  read.0,
  ap (record_read at size) (sym read.1)
      ∙ record_of_size at size piece m rest (Some e) taken.0 taken.1 long is,
  rest_is size piece m rest taken.1 long ∙ ap (drop size) read.1,
)

no_entry_here : (at size : ℕ) (piece : List ℕ) (old mid new : Option (List ℕ))
    → IsSizeRead at size old mid → IsTaken (at + 4) size piece mid new → length piece ≡ size
    → entry_of piece ≡ None → EndsEntry at old (ends.Broken at)
no_entry_here at size piece None mid new read taken long is = tt
no_entry_here at size piece (Some left) None new read taken long is = absurd read
no_entry_here at size piece (Some left) (Some m) None read taken long is = absurd taken
no_entry_here at size piece (Some left) (Some m) (Some rest) read taken long is =
    inr (
      size,
      read.0,
      ap (record_read at size) (sym read.1)
          ∙ record_of_size at size piece m rest None taken.0 taken.1 long is,
    )

pub no_entry : (at size : ℕ) (piece : List ℕ) (old mid new : Option (List ℕ)) (end : FollowEnd)
    → IsSizeRead at size old mid → IsTaken (at + 4) size piece mid new → length piece ≡ size
    → IsNoEntry at piece end → LacksEntry at old end
no_entry at size piece old mid new end read taken long (inl out) = inl out
no_entry at size piece old mid new end read taken long (inr is) =
    inr (subst (EndsEntry at old) (sym is.0)
    (no_entry_here at size piece old mid new read taken long is.1))

ends_record : (at size : ℕ) (left m : List ℕ) (end : FollowEnd) → m ≡ drop 4 left
    → piece_end (at + 4) size m ≡ Some end → record_read at size (drop 4 left) ≡ Err end
ends_record at size left m end is ended =
    ap (record_read at size) (sym is)
    ∙ ap (λ (end : Option FollowEnd). behind end
    (entry_or (ends.Broken at) (entry_of (take size m))))
    ended

pub lacks_record : (at size : ℕ) (old mid : Option (List ℕ)) (end : FollowEnd)
    → IsSizeRead at size old mid → LacksPiece (at + 4) size mid end → LacksEntry at old end
lacks_record at size old mid end read (inl out) = inl out
lacks_record at size None mid end read (inr lacks) = inr tt
lacks_record at size (Some left) None end read (inr lacks) = absurd read
lacks_record at size (Some left) (Some m) end read (inr lacks) =
    inr (inr (size, read.0, ends_record at size left m end read.1 lacks.1))

pub cut_record : (at size : ℕ) (old mid : Option (List ℕ)) → IsSizeRead at size old mid
    → HasNothingLeft mid → at + 4 ≤ MAX_FEEDS_BYTES → 1 ≤ size → LacksEntry at old ends.Cut
cut_record at size None mid read none few some = inr tt
cut_record at size (Some left) None read none few some = absurd read
cut_record at size (Some left) (Some m) read none few some =
    inr (inr (
      size,
      read.0,
      ends_record at size left m ends.Cut read.1
          (cut_here (at + 4) size m none few some),
    ))

pub lacks_entry : (at : ℕ) (old : Option (List ℕ)) (end : FollowEnd) → LacksSize at old end
    → LacksEntry at old end
lacks_entry at old end (inl out) = inl out
lacks_entry at None end (inr lacks) = inr tt
lacks_entry at (Some left) end (inr lacks) = inr (inl lacks)
