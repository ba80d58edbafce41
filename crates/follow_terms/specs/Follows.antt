-- What following comes to over an input.
use Rattle.std.specs.Prelude.{◌≡◌, ℕ, suc, ◌≤◌, ◌+◌, List, [], drop, length, Some, Ok, Err}
use Rattle.std.specs.Prelude.{slice_get, take}
use Rattle.record_form.specs.declared.Entry.{Entry}
use Rattle.record_form.specs.Records.{record_of, entry_of}
use Rattle.office_history.specs.History.{Office, with_entry}
use Rattle.office_history.specs.Legal.{MayFollow}
use Rattle.entry_records.specs.Feeds.{feed_mark}
use Rattle.follow_terms.specs.declared.follow_end.FollowEnd.{FollowEnd}
use Rattle.follow_terms.specs.declared.follow_end.FollowEnd.TheVariants as ends
use Rattle.follow_terms.specs.Pieces.{head_read, length_read, numeral, record_read}

-- Where following stands: between feeds, or inside one of which so many entries are left, and the
-- position of the next.
pub data Place : Type 0 where
  Between : Place
  Inside : ℕ → ℕ → Place

-- ends of the outside, which may come at any place
pub data IsOutside : FollowEnd → Type 0 where
  read_fault : IsOutside ends.ReadFault
  no_memory : IsOutside ends.NoMemory

-- ends of the journal, which come where an entry may follow, and leave it out
pub data IsDiskEnd : FollowEnd → Type 0 where
  journal_full : IsDiskEnd ends.JournalFull
  disk_fault : IsDiskEnd ends.DiskFault

-- What following comes to from a place on, over an office, with so many bytes read and these left:
-- the office, and the end. Each piece's ends come in the order of its definition.
pub data Follows : Place → Office → ℕ → List ℕ → Office → FollowEnd → Type 0 where
  done : {o : Office} {at : ℕ} {left : List ℕ} → left ≡ [] → Follows Between o at left o ends.Done
  outside : {place : Place} {o : Office} {at : ℕ} {left : List ℕ} {end : FollowEnd} → IsOutside end
      → Follows place o at left o end
  head_ends : {o : Office} {at : ℕ} {left : List ℕ} {end : FollowEnd} → 1 ≤ length left
      → head_read o at left ≡ Err end → Follows Between o at left o end
  head_passes : {o : Office} {at : ℕ} {left : List ℕ} {last : Office} {end : FollowEnd}
      {first count : ℕ} → 1 ≤ length left → head_read o at left ≡ Ok (first, count)
      → Follows (Inside count first) o (at + 20) (drop 20 left) last end
      → Follows Between o at left last end
  feed_ends : {o : Office} {at : ℕ} {left : List ℕ} {last : Office} {end : FollowEnd} {position : ℕ}
      → Follows Between o at left last end → Follows (Inside 0 position) o at left last end
  length_ends : {o : Office} {at : ℕ} {left : List ℕ} {end : FollowEnd} {count position : ℕ}
      → length_read at left ≡ Err end → Follows (Inside (suc count) position) o at left o end
  record_ends : {o : Office} {at : ℕ} {left : List ℕ} {end : FollowEnd} {count position size : ℕ}
      → length_read at left ≡ Ok size → record_read at size (drop 4 left) ≡ Err end
      → Follows (Inside (suc count) position) o at left o end
  differs : {o : Office} {at : ℕ} {left : List ℕ} {count position size : ℕ} {e held : Entry}
      → length_read at left ≡ Ok size → record_read at size (drop 4 left) ≡ Ok e
      → slice_get o.history position ≡ Some held → (record_of held ≡ record_of e → ⊥)
      → Follows (Inside (suc count) position) o at left o (ends.Diverges position)
  is_held : {o : Office} {at : ℕ} {left : List ℕ} {last : Office} {end : FollowEnd}
      {count position size : ℕ} {e held : Entry}
      → length_read at left ≡ Ok size → record_read at size (drop 4 left) ≡ Ok e
      → slice_get o.history position ≡ Some held → record_of held ≡ record_of e
      → Follows (Inside count (suc position)) o (at + 4 + size) (drop size (drop 4 left)) last end
      → Follows (Inside (suc count) position) o at left last end
  illegal : {o : Office} {at : ℕ} {left : List ℕ} {count position size : ℕ} {e : Entry}
      → length_read at left ≡ Ok size → record_read at size (drop 4 left) ≡ Ok e
      → position ≡ length o.history → (MayFollow o e → ⊥)
      → Follows (Inside (suc count) position) o at left o (ends.Illegal position)
  disk_ends : {o : Office} {at : ℕ} {left : List ℕ} {end : FollowEnd} {count position size : ℕ}
      {e : Entry}
      → length_read at left ≡ Ok size → record_read at size (drop 4 left) ≡ Ok e
      → position ≡ length o.history → MayFollow o e → IsDiskEnd end
      → Follows (Inside (suc count) position) o at left o end
  taken : {o : Office} {at : ℕ} {left : List ℕ} {last : Office} {end : FollowEnd}
      {count position size : ℕ} {e : Entry}
      → length_read at left ≡ Ok size → record_read at size (drop 4 left) ≡ Ok e
      → position ≡ length o.history → MayFollow o e
      → Follows (Inside count (suc position)) (with_entry o e) (at + 4 + size)
      (drop size (drop 4 left)) last end
      → Follows (Inside (suc count) position) o at left last end

-- The input, read as feeds of an office of this origin from a place on, says at a position the
-- record of that entry.
pub data Says (origin : ℕ) : Place → List ℕ → ℕ → Entry → Type 0 where
  from_head : {left : List ℕ} {position : ℕ} {e : Entry} → take 8 left ≡ feed_mark
      → numeral 8 left ≡ origin
      → Says origin (Inside (numeral 16 left) (numeral 12 left)) (drop 20 left) position e
      → Says origin Between left position e
  from_next : {left : List ℕ} {last position : ℕ} {e : Entry} → Says origin Between left position e
      → Says origin (Inside 0 last) left position e
  is_here : {left : List ℕ} {count position : ℕ} {e : Entry}
      → entry_of (take (numeral 0 left) (drop 4 left)) ≡ Some e
      → Says origin (Inside (suc count) position) left position e
  from_later : {left : List ℕ} {count here position : ℕ} {e : Entry}
      → Says origin (Inside count (suc here)) (drop (numeral 0 left) (drop 4 left)) position e
      → Says origin (Inside (suc count) here) left position e
