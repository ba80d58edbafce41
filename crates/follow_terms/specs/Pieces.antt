-- The pieces in which an input is read, and what each says.
use Rattle.std.specs.Prelude.{ℕ, Bool, not, cond, nat_lt, nat_le, ◌&&◌, ◌==◌, ◌+◌, min, List, take}
use Rattle.std.specs.Prelude.{drop, length, bytes_eq, Option, Some, None, Result, Ok, Err}
use Rattle.std.specs.Int.{w32, from_be_bytes}
use Rattle.slo_limits.specs.declared.TheConstants.{MAX_RECORD_BYTES}
use Rattle.record_form.specs.declared.Entry.{Entry}
use Rattle.record_form.specs.Records.{entry_of}
use Rattle.office_history.specs.History.{Office}
use Rattle.entry_records.specs.declared.limits.TheConstants.{MAX_FEEDS_BYTES}
use Rattle.entry_records.specs.Feeds.{feed_mark}
use Rattle.follow_terms.specs.declared.follow_end.FollowEnd.{FollowEnd}
use Rattle.follow_terms.specs.declared.follow_end.FollowEnd.TheVariants as ends

-- The end at a piece of that size which isn't whole: so many bytes were read before it, and these
-- are left. An input that is too large is found before one that is cut.
abbrev pub piece_end : ℕ → ℕ → List ℕ → Option FollowEnd
piece_end at size left =
    cond (nat_lt MAX_FEEDS_BYTES (at + min size (length left))) (Some ends.TooLarge)
    (cond (nat_lt (length left) size) (Some ends.Cut) None)

-- an end where a test holds
abbrev pub end_where : Bool → FollowEnd → Option FollowEnd
end_where test end = cond test (Some end) None

-- what is read where no end came
abbrev pub behind : {A : Type 0} → Option FollowEnd → Result A FollowEnd → Result A FollowEnd
behind None read = read
behind (Some end) read = Err end

-- the number of four bytes behind so many
abbrev pub numeral : ℕ → List ℕ → ℕ
numeral place bytes = from_be_bytes w32 (take 4 (drop place bytes))

-- A feed's head: the position of its first record, and how many it has.
abbrev pub head_read : Office → ℕ → List ℕ → Result (ℕ × ℕ) FollowEnd
head_read o at left = behind (piece_end at 20 left)
    (behind (end_where (not (bytes_eq (take 8 left) feed_mark)) (ends.Broken at))
    (behind (end_where (not (numeral 8 left == o.origin)) (ends.OtherOrigin (numeral 8 left)))
    (behind (end_where (nat_lt (length o.history) (numeral 12 left)) (ends.Gap (numeral 12 left)))
    (Ok (numeral 12 left, numeral 16 left)))))

-- The length of a record, which is from 1 to as many bytes as a record may have.
abbrev pub length_read : ℕ → List ℕ → Result ℕ FollowEnd
length_read at left = behind (piece_end at 4 left)
    (cond (nat_le 1 (numeral 0 left) && nat_le (numeral 0 left) MAX_RECORD_BYTES)
    (Ok (numeral 0 left)) (Err (ends.Broken at)))

-- an entry, or this end
abbrev pub entry_or : FollowEnd → Option Entry → Result Entry FollowEnd
entry_or end None = Err end
entry_or end (Some e) = Ok e

-- The entry whose record has so many bytes, behind its length, which stands at this place.
abbrev pub record_read : ℕ → ℕ → List ℕ → Result Entry FollowEnd
record_read at size left =
    behind (piece_end (at + 4) size left) (entry_or (ends.Broken at) (entry_of (take size left)))
