-- Heads of feeds.
use Rattle.std.specs.Prelude.{◌≡◌, ◌⊎◌, ℕ, ◌≤◌, not, nat_lt, ◌==◌, List, [], Option, Some, None}
use Rattle.std.specs.Prelude.{Result}
use Rattle.std.specs.Prelude.{Ok, Err, drop, take, length, bytes_eq, ⊤}
use Rattle.entry_records.specs.Feeds.{feed_mark}
use Rattle.office_history.specs.History.{Office}
use Rattle.follow_terms.specs.declared.FollowEnd.{FollowEnd}
use Rattle.follow_terms.specs.declared.FollowEnd.TheVariants as ends
use Rattle.follow_terms.specs.Follows.{IsOutside}
use Rattle.follow_terms.specs.Pieces.{behind, end_where, head_read, numeral}

-- what the bytes of a head come to, which stand at that place
abbrev pub head_of : Office → ℕ → List ℕ → Result (ℕ × ℕ) FollowEnd
head_of o at head = behind {A = ℕ × ℕ} (end_where (not (bytes_eq (take 8 head) feed_mark))
    (ends.Broken at))
    (behind {A = ℕ × ℕ} (end_where (not (numeral 8 head == o.origin))
    (ends.OtherOrigin (numeral 8 head)))
    (behind {A = ℕ × ℕ} (end_where (nat_lt (length o.history) (numeral 12 head))
    (ends.Gap (numeral 12 head)))
    (Ok (numeral 12 head, numeral 16 head))))

-- the head at the front is read, where the input tells
abbrev pub IsHeadRead : Office → ℕ → ℕ × ℕ → Option (List ℕ) → Option (List ℕ) → Type 0
IsHeadRead o at head None None = ⊤
IsHeadRead o at head None (Some rest) = ⊥
IsHeadRead o at head (Some left) None = ⊥
IsHeadRead o at head (Some left) (Some rest) =
    (1 ≤ length left) × (head_read o at left ≡ Ok head) × (rest ≡ drop 20 left)

-- no head is read at the front, and so following ends; it is done where nothing is left
abbrev pub EndsHead : Office → ℕ → Option (List ℕ) → FollowEnd → Type 0
EndsHead o at None end = ⊤
EndsHead o at (Some left) end = ((left ≡ []) × (end ≡ ends.Done))
    ⊎ ((1 ≤ length left) × (head_read o at left ≡ Err end))

abbrev pub LacksHead : Office → ℕ → Option (List ℕ) → FollowEnd → Type 0
LacksHead o at left end = IsOutside end ⊎ EndsHead o at left end
