-- What a piece comes to.
use Rattle.std.proofs.Common.{◌≡◌, ℕ, ◌+◌, ◌-◌, ◌<◌, ◌≤◌, min, Bool, true, false, cond}
use Rattle.std.proofs.Common.{nat_lt, List, [], ◌++◌, length, Option, Some, None, ap, ◌∙◌}
use Rattle.std.proofs.Common.{arith}
use Rattle.std.proofs.Common.{length-append, take, drop}
use Rattle.std.proofs.lemmas.Bool.Decides.{nat_tests}
use Rattle.std.proofs.lemmas.List.{drop-append-le, take-append-le}
use Rattle.std.proofs.lemmas.Grind.{common_steps}
use Rattle.std.specs.Int.{w32, from_be_bytes}
use Rattle.office_outside.specs.Told.{HasNothingLeft, Lost}
use Rattle.entry_records.specs.declared.limits.TheConstants.{MAX_FEEDS_BYTES}
use Rattle.follow_terms.specs.declared.FollowEnd.{FollowEnd}
use Rattle.follow_terms.specs.declared.FollowEnd.TheVariants as ends
use Rattle.follow_terms.specs.Pieces.{numeral, piece_end}
use Rattle.office_follow.specs.Pieces.{EndsPiece, IsTaken}

-- the tests of a piece
by_tests : (past short a b : Bool) → past ≡ a → short ≡ b
    → ◌≡◌ {A = Option FollowEnd}
    (cond past (Some ends.TooLarge) (cond short (Some ends.Cut) None))
    (cond a (Some ends.TooLarge) (cond b (Some ends.Cut) None))
by_tests past short a b is also =
    λ i. cond (is i) (Some ends.TooLarge) (cond (also i) (Some ends.Cut) None)

pub piece_cut : (at size : ℕ) (left : List ℕ) → at + length left ≤ MAX_FEEDS_BYTES
    → length left < size → piece_end at size left ≡ Some ends.Cut
piece_cut at size left few short =
    by_tests (nat_lt MAX_FEEDS_BYTES (at + min size (length left))) (nat_lt (length left) size)
    false true past less
  where
    past : nat_lt MAX_FEEDS_BYTES (at + min size (length left)) ≡ false
    past = grind (arith, nat_tests)

    less : nat_lt (length left) size ≡ true
    less = grind (arith, nat_tests)

pub piece_large : (at size : ℕ) (left : List ℕ)
    → MAX_FEEDS_BYTES < at + min size (length left) → piece_end at size left ≡ Some ends.TooLarge
piece_large at size left many =
    ap (λ (b : Bool). cond b (Some ends.TooLarge)
    (cond (nat_lt (length left) size) (Some ends.Cut) None)) past
  where
    past : nat_lt MAX_FEEDS_BYTES (at + min size (length left)) ≡ true
    past = grind (arith, nat_tests)

pub piece_whole : (at size : ℕ) (left : List ℕ) → size ≤ length left
    → at + size ≤ MAX_FEEDS_BYTES → ◌≡◌ {A = Option FollowEnd} (piece_end at size left) None
piece_whole at size left whole few =
    by_tests (nat_lt MAX_FEEDS_BYTES (at + min size (length left))) (nat_lt (length left) size)
    false false past less
  where
    past : nat_lt MAX_FEEDS_BYTES (at + min size (length left)) ≡ false
    past = grind (arith, nat_tests)

    less : nat_lt (length left) size ≡ false
    less = grind (arith, nat_tests)

-- what was read is all that was left
pub none_left : (out : List ℕ) (old new : Option (List ℕ)) → out ≡ [] → Lost out old new
    → HasNothingLeft new → HasNothingLeft old
none_left out None new empty lost none = tt
none_left out (Some left) None empty lost none = absurd lost
none_left out (Some left) (Some rest) empty lost none =
    lost ∙ ap (λ (bs : List ℕ). bs ++ rest) empty ∙ none

pub cut_ends : (out : List ℕ) (old new : Option (List ℕ)) (at size room most : ℕ)
    → Lost out old new → HasNothingLeft new → 1 ≤ length out → length out < most
    → most ≡ min size room → room ≡ MAX_FEEDS_BYTES + 1 - at → at ≤ MAX_FEEDS_BYTES
    → EndsPiece at size old ends.Cut
cut_ends out None new at size room most lost none some less is room-is few = tt
cut_ends out (Some left) None at size room most lost none some less is room-is few = absurd lost
cut_ends out (Some left) (Some rest) at size room most lost none some less is room-is few =
    let long : length left ≡ length out =
    omega (arith, ap length lost, length-append out rest, ap length none) in (
      omega (arith, long, some),
      piece_cut at size left (omega (arith, long, less, is, room-is, few))
          (omega (arith, long, less, is)),
    )

pub large_ends : (out : List ℕ) (old new : Option (List ℕ)) (at size room most : ℕ)
    → Lost out old new → 1 ≤ length out → most ≤ length out → most ≡ min size room → room ≤ size
    → room ≡ MAX_FEEDS_BYTES + 1 - at → at ≤ MAX_FEEDS_BYTES
    → EndsPiece at size old ends.TooLarge
large_ends out None new at size room most lost some more is within room-is few = tt
large_ends out (Some left) None at size room most lost some more is within room-is few =
    absurd lost
large_ends out (Some left) (Some rest) at size room most lost some more is within room-is few =
    let long : length left ≡ length out + length rest =
    ap length lost ∙ length-append out rest in (
      omega (arith, long, some),
      piece_large at size left (omega (arith, long, more, is, within, room-is, few)),
    )

pub whole_taken : (out : List ℕ) (old new : Option (List ℕ)) (at size : ℕ) → Lost out old new
    → length out ≡ size → at + size ≤ MAX_FEEDS_BYTES → IsTaken at size out old new
whole_taken out None None at size lost whole few = tt
whole_taken out None (Some rest) at size lost whole few = absurd lost
whole_taken out (Some left) None at size lost whole few = absurd lost
whole_taken out (Some left) (Some rest) at size lost whole few = (
  piece_whole at size left (omega (arith, ap length lost, length-append out rest, whole)) few,
  lost,
)

-- a number of a piece is the input's
pub numeral_front : (place : ℕ) (piece rest : List ℕ) → place + 4 ≤ length piece
    → numeral place (piece ++ rest) ≡ numeral place piece
numeral_front place piece rest le =
    ap (λ (bs : List ℕ). from_be_bytes w32 (take 4 bs))
    (drop-append-le place piece rest (omega (arith, le)))
    ∙ ap (from_be_bytes w32) (take-append-le 4 (drop place piece) rest four)
  where
    four : 4 ≤ length (drop place piece)
    four = grind (arith, common_steps, le)
