-- The counts of each slice of time, kept day by day.
use Rattle.std.specs.Prelude.{ℕ, Bool, ◌+◌, ◌-◌, ◌*◌, ◌/◌, ◌%◌, ◌≤◌, ◌≡◌, ◌==◌, ◌&&◌, nat_eq}
use Rattle.std.specs.Prelude.{nat_le, nat_lt, true, false, IsTrue, List, All, length, map}
use Rattle.std.specs.Prelude.{slice_set}
use Rattle.std.specs.Prelude.{if◌then◌else◌}
use Rattle.std.specs.Int.{◌∣◌}
use Rattle.std.specs.Map.{set_value, values_of}
use Rattle.slo_limits.specs.declared.TheConstants.{MINUTES_A_DAY}
use Rattle.slice_method.specs.declared.amount.Counts.{Counts}
use Rattle.slice_method.specs.declared.method.Method.{Method}
use Rattle.slice_method.specs.declared.method.Method.TheVariants.{Occurrences, Timeslices}
use Rattle.slice_method.specs.declared.method.Method.TheVariants.{RatioTimeslices}
use Rattle.slice_method.specs.Leaves.{leaf}
use Rattle.exact_fraction.specs.declared.leaf.Leaf.{Leaf}
use Rattle.sum_pages.specs.DayTables.{is_day_of, value_at, values_of_day}
use Rattle.sum_pages.specs.Pages as paged
use Rattle.slo_terms.specs.Sums.{AreFew, most_events, sum_over}

-- how many minutes a slice has (OpenSLO v1, `timeSliceWindow`); events are counted minute by minute
abbrev pub width_of : Method → ℕ
width_of Occurrences = 1
width_of (Timeslices width target) = width
width_of (RatioTimeslices width) = width

-- how many slices a day has
abbrev pub slices_a_day : Method → ℕ
slices_a_day method = 24 * (60 / width_of method)

-- the day that a minute lies in
abbrev pub day_of : ℕ → ℕ
day_of minute = minute / MINUTES_A_DAY

-- the slice that a minute lies in
abbrev pub slice_of : Method → ℕ → ℕ
slice_of method minute = minute / width_of method

-- The method, and of each day that is there the counts of its slices, in the order in which
-- the days came.
pub record CountedDays : Type 0 where
  pub method : Method
  pub days : List (ℕ × List Counts)

-- the counts of a slice in which nothing was counted
abbrev pub no_counts : Counts
no_counts = record { good = 0; total = 0 }

-- the counts of a slice
abbrev pub counts_of : CountedDays → ℕ → Counts
counts_of sums slice = value_at no_counts (slices_a_day sums.method) sums.days slice

-- the leaf of a slice
abbrev pub leaf_at : CountedDays → ℕ → Leaf
leaf_at sums slice = leaf sums.method (counts_of sums slice)

-- whether a day is there
abbrev pub has_day : CountedDays → ℕ → Bool
has_day sums day = is_day_of sums.days day

-- counts that lose `before` and gain `after`
abbrev pub new_counts : Counts → Counts → Counts → Counts
new_counts counts before after =
    record {
      good = counts.good - before.good + after.good;
      total = counts.total - before.total + after.total;
    }

-- the counts have `before`, and are a part of few events with `after`
pub record MayExchange (counts before after : Counts) : Type 0 where
  pub good : before.good ≤ counts.good
  pub total : before.total ≤ counts.total
  pub part : (new_counts counts before after).good ≤ (new_counts counts before after).total
  pub few : (new_counts counts before after).total ≤ most_events

-- the counts of each slice once the slice of a minute has lost `before` and gained `after`
abbrev pub counts_after : CountedDays → ℕ → Counts → Counts → ℕ → Counts
counts_after sums minute before after slice =
    if slice == slice_of sums.method minute then new_counts (counts_of sums slice) before after
    else counts_of sums slice

-- a slice lies wholly in a range of minutes
abbrev pub is_whole : ℕ → ℕ → ℕ → ℕ → Bool
is_whole width from to slice = nat_le from (slice * width) && nat_le (slice * width + width) to

-- the counts of each slice once nothing is counted in those that lie wholly in a range
abbrev pub counts_outside : CountedDays → ℕ → ℕ → ℕ → Counts
counts_outside sums from to slice =
    if is_whole (width_of sums.method) from to slice then no_counts else counts_of sums slice

-- so it is once nothing is counted in the slices from the first up to another
abbrev pub counts_without : CountedDays → ℕ → ℕ → ℕ → Counts
counts_without sums first end slice =
    if nat_le first slice && nat_lt slice end then no_counts else counts_of sums slice

-- the good events are a part of all
abbrev pub IsPart : Counts → Type 0
IsPart counts = counts.good ≤ counts.total

-- what is kept of the counts of each slice
pub record AreSoundCounts (method : Method) (counts : ℕ → Counts) : Type 0 where
  pub parts : (slice : ℕ) → IsPart (counts slice)
  pub events : AreFew (λ slice. (counts slice).total)
  pub leaves : AreFew (λ slice. (leaf method (counts slice)).den)

-- the counts are parts, all slices together have so many events at most, and so does the den
-- of their leaves
pub record HasAtMost (method : Method) (counts : ℕ → Counts) (most : ℕ) : Type 0 where
  pub parts : (slice : ℕ) → IsPart (counts slice)
  pub events : (first count : ℕ) → sum_over (λ slice. (counts slice).total) first count ≤ most
  pub leaves : (first count : ℕ)
      → sum_over (λ slice. (leaf method (counts slice)).den) first count ≤ most

-- what is kept of the counts
pub record AreCounted (sums : CountedDays) : Type 0 where
  pub divides : width_of sums.method ∣ 60
  pub sound : AreSoundCounts sums.method (counts_of sums)

-- what is kept of the sums: pages that have the leaf of each slice, and each day that is there
pub record CountsAreKept (sums : CountedDays) (pages : paged.LeafDays) : Type 0 where
  pub counted : AreCounted sums
  pub hour : pages.per_hour ≡ 60 / width_of sums.method
  pub leaves : (slice : ℕ) → paged.leaf_at pages slice ≡ leaf_at sums slice
  pub ready : (day : ℕ) → IsTrue (has_day sums day) → IsTrue (paged.has_day pages day)

-- whether events are counted, so that the leaf of a slice is its counts
abbrev pub counts_events : Method → Bool
counts_events Occurrences = true
counts_events (Timeslices width target) = false
counts_events (RatioTimeslices width) = false

-- the counts that stand in a leaf of events
abbrev pub leaf_counts : Leaf → Counts
leaf_counts events = record { good = events.num; total = events.den }

-- so they do in the leaves of each day
abbrev pub leaf_days : List (ℕ × List Leaf) → List (ℕ × List Counts)
leaf_days days = map (λ day. (day.0, map leaf_counts day.1)) days

-- the counts of each day: where events are counted those in the leaves of the pages, and else those
-- that are kept beside the pages
abbrev pub counted_days : Method → List (ℕ × List Counts) → paged.LeafDays → CountedDays
counted_days method days pages =
    record { method = method; days = if counts_events method then leaf_days pages.days else days }

-- what is kept beside the pages once the counts of a slice are others
abbrev pub days_with : Method → List (ℕ × List Counts) → ℕ → Counts → List (ℕ × List Counts)
days_with method days slice counts =
    if counts_events method then days
    else set_value (nat_eq (slice / slices_a_day method)) days
    (slice_set (values_of_day days (slice / slices_a_day method)) (slice % slices_a_day method)
    counts)

-- what is kept of the days and the pages: the counts, and beside the pages those of all slices
-- of a day
pub record DaysAreKept (method : Method) (days : List (ℕ × List Counts)) (pages : paged.LeafDays)
    : Type 0 where
  pub counts : CountsAreKept (counted_days method days pages) pages
  pub whole : All (λ slices. length slices ≡ slices_a_day method) (values_of days)
