-- How a reading stands to what is kept at its moment, and whether it has room.
use Rattle.std.specs.Prelude.{ℕ, Bool, true, false, ◌&&◌, ◌||◌, ◌==◌, nat_lt, nat_le, length}
use Rattle.std.specs.Prelude.{Option, Some, None, if◌then◌else◌}
use Rattle.slo_limits.specs.declared.TheConstants.{MAX_PUTS, MAX_READINGS}
use Rattle.counter_book.specs.declared.reading.Count.{Count}
use Rattle.counter_book.specs.declared.reading.CounterReading.{CounterReading}
use Rattle.counter_book.specs.declared.reading.Kept.{Kept}
use Rattle.counter_book.specs.declared.reading.Standing.{Standing}
use Rattle.counter_book.specs.declared.reading.Standing.TheVariants.{Conflict, Fresh, Newer}
use Rattle.counter_book.specs.declared.reading.Standing.TheVariants.{Repeated, Superseded}
use Rattle.counter_book.specs.Book.{Book, kept_at}
use Rattle.counter_book.specs.Differences.{count_of}

abbrev pub same_count : Count → Count → Bool
same_count a b = a.good == b.good && a.total == b.total

-- The greater revision is the newer one; of equal revisions the numbers are the same, or it is a
-- conflict with the kept reading.
abbrev pub standing_of : Option Kept → CounterReading → Standing
standing_of None r = Fresh
standing_of (Some kept) r =
    if nat_lt kept.revision r.revision then Newer
    else if nat_lt r.revision kept.revision then Superseded
    else if same_count kept.count (count_of r) then Repeated
    else Conflict (record {
      source = r.source;
      minute = r.minute;
      revision = kept.revision;
      good = kept.count.good;
      total = kept.count.total;
    })

abbrev pub standing_in : Book → CounterReading → Standing
standing_in book r = standing_of (kept_at book r.source r.minute) r

-- whether a reading is new or newer
abbrev pub is_put : Standing → Bool
is_put Fresh = true
is_put Newer = true
is_put Repeated = false
is_put Superseded = false
is_put (Conflict kept) = false

-- Whether a reading that stands so has no room behind so many readings: for a new minute, or for
-- one more that is new or newer.
abbrev pub is_full_at : Standing → ℕ → ℕ → Bool
is_full_at Fresh readings puts = nat_le MAX_READINGS readings || nat_le MAX_PUTS puts
is_full_at Newer readings puts = nat_le MAX_PUTS puts
is_full_at Repeated readings puts = false
is_full_at Superseded readings puts = false
is_full_at (Conflict kept) readings puts = false

abbrev pub is_full : Standing → Book → Bool
is_full standing book = is_full_at standing (length book.entries) book.puts
