-- Pieces of an input, where the input tells what it has left.
use Rattle.std.specs.Prelude.{◌≡◌, ◌⊎◌, ℕ, ◌≤◌, List, ◌++◌, Option, Some, None, drop, length, Ok}
use Rattle.std.specs.Prelude.{Err}
use Rattle.std.specs.Prelude.{⊤}
use Rattle.record_form.specs.declared.Entry.{Entry}
use Rattle.record_form.specs.Records.{entry_of}
use Rattle.follow_terms.specs.declared.FollowEnd.{FollowEnd}
use Rattle.follow_terms.specs.declared.FollowEnd.TheVariants as ends
use Rattle.follow_terms.specs.Follows.{IsOutside}
use Rattle.follow_terms.specs.Pieces.{length_read, piece_end, record_read}

-- a whole piece of that size was taken from the front
abbrev pub IsTaken : ℕ → ℕ → List ℕ → Option (List ℕ) → Option (List ℕ) → Type 0
IsTaken at size piece None None = ⊤
IsTaken at size piece None (Some rest) = ⊥
IsTaken at size piece (Some left) None = ⊥
IsTaken at size piece (Some left) (Some rest) =
    (◌≡◌ {A = Option FollowEnd} (piece_end at size left) None) × (left ≡ piece ++ rest)

-- there is a piece of that size that isn't whole, and so following ends
abbrev pub EndsPiece : ℕ → ℕ → Option (List ℕ) → FollowEnd → Type 0
EndsPiece at size None end = ⊤
EndsPiece at size (Some left) end = (1 ≤ length left) × (piece_end at size left ≡ Some end)

-- the piece isn't there, for want of a part of it or because the outside ended it
abbrev pub LacksPiece : ℕ → ℕ → Option (List ℕ) → FollowEnd → Type 0
LacksPiece at size left end = IsOutside end ⊎ EndsPiece at size left end

-- the size of the record at the front is read
abbrev pub IsSizeRead : ℕ → ℕ → Option (List ℕ) → Option (List ℕ) → Type 0
IsSizeRead at size None None = ⊤
IsSizeRead at size None (Some rest) = ⊥
IsSizeRead at size (Some left) None = ⊥
IsSizeRead at size (Some left) (Some rest) =
    (length_read at left ≡ Ok size) × (rest ≡ drop 4 left)

-- it isn't, and so following ends
abbrev pub EndsSize : ℕ → Option (List ℕ) → FollowEnd → Type 0
EndsSize at None end = ⊤
EndsSize at (Some left) end = length_read at left ≡ Err end

abbrev pub LacksSize : ℕ → Option (List ℕ) → FollowEnd → Type 0
LacksSize at left end = IsOutside end ⊎ EndsSize at left end

-- the bytes are no record, or memory ran out
abbrev pub IsNoEntry : ℕ → List ℕ → FollowEnd → Type 0
IsNoEntry at piece end =
    IsOutside end ⊎ ((end ≡ ends.Broken at) × (entry_of piece ≡ None))

-- The entry at the front is read: its length, and then its record of so many bytes.
abbrev pub IsEntryRead : ℕ → ℕ → Entry → Option (List ℕ) → Option (List ℕ) → Type 0
IsEntryRead at size e None None = ⊤
IsEntryRead at size e None (Some rest) = ⊥
IsEntryRead at size e (Some left) None = ⊥
IsEntryRead at size e (Some left) (Some rest) = (length_read at left ≡ Ok size)
    × (record_read at size (drop 4 left) ≡ Ok e) × (rest ≡ drop size (drop 4 left))

-- no entry is read at the front, and so following ends
abbrev pub EndsEntry : ℕ → Option (List ℕ) → FollowEnd → Type 0
EndsEntry at None end = ⊤
EndsEntry at (Some left) end = (length_read at left ≡ Err end)
    ⊎ ((size : ℕ) × (length_read at left ≡ Ok size)
    × (record_read at size (drop 4 left) ≡ Err end))

abbrev pub LacksEntry : ℕ → Option (List ℕ) → FollowEnd → Type 0
LacksEntry at left end = IsOutside end ⊎ EndsEntry at left end
