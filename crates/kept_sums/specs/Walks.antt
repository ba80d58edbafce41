-- Walks over linked rows, from the last to the first, in which what they count for changes.
use Rattle.std.specs.Prelude.{◌≡◌, ◌≢◌, ℕ, suc, ◌<◌, ◌&&◌, nat_le, nat_lt, not, Bool, true, false}
use Rattle.std.specs.Prelude.{List, [], ◌∷◌, ◌++◌, take, drop, length, slice_get, Option, Some}
use Rattle.std.specs.Prelude.{None, if◌then◌else◌}
use Rattle.slice_method.specs.declared.Counts.{Counts}
use Rattle.sample_book.specs.declared.Exclusion.{Exclusion}
use Rattle.sample_book.specs.declared.Row.{Row}
use Rattle.sample_book.specs.Counting.{is_of}
use Rattle.window_sums.specs.Shares.{IsSumOf, Share}
use Rattle.window_sums.specs.Slices.{CountedDays, slice_of}
use Rattle.office_history.specs.declared.Measure.{Measure}
use Rattle.kept_sums.specs.Sums.{row_counts, shares_by}

-- the first rows count by f still, those from a place on by h
abbrev pub walked_shares : (Row → Counts) → (Row → Counts) → ℕ → List Row → List Share
walked_shares f h place rows = shares_by f (take place rows) ++ shares_by h (drop place rows)

-- how many rows stand up to a place, that one with them
abbrev pub rows_until : Option ℕ → ℕ
rows_until None = 0
rows_until (Some place) = suc place

-- a place is none, or that of a row of the key
abbrev pub IsOnKey : (Row → Bool) → List Row → Option ℕ → Type 0
IsOnKey key rows None = Unit {0}
IsOnKey key rows (Some place) = (place < length rows)
    × ((row : Row) → slice_get rows place ≡ Some row → key row ≡ true)

-- A walk that stands before a place: the rows up to it count by f, those behind it by h.
pub record IsWalking (key : Row → Bool) (f h : Row → Counts) (rows : List Row) (next : Option ℕ)
    (sums : CountedDays) : Type 0 where
  pub place : IsOnKey key rows next
  pub counted : IsSumOf sums (walked_shares f h (rows_until next) rows)

-- the exclusions with one more, or without it
abbrev pub made_on : List (Exclusion × Bool) → Exclusion → Bool → List (Exclusion × Bool)
made_on made value taken = if taken then made ++ (value, true) ∷ [] else made

-- a row is of this indicator, in the minutes from the first up to another
abbrev pub is_within : List ℕ → ℕ → ℕ → Row → Bool
is_within sli first end row = is_of sli row && (nat_le first row.minute && nat_lt row.minute end)

-- the rows of these minutes count by g, the others by f
abbrev pub up_to : List ℕ → ℕ → ℕ → (Row → Counts) → (Row → Counts) → Row → Counts
up_to sli first end f g row = if is_within sli first end row then g row else f row

-- What rows count for on the way: those of the range's minutes up to this one have followed an
-- exclusion that is made (`taken`), or one that is lifted, and the others haven't.
abbrev pub followed : Measure → List (Exclusion × Bool) → Exclusion → Bool → ℕ → Row → Counts
followed m made value taken minute =
    up_to m.sli value.from minute (row_counts m (made_on made value (not taken)))
    (row_counts m (made_on made value taken))

-- a row that an exclusion changes lies in a slice: it counts otherwise with it than without it
pub record IsChanged (m : Measure) (made : List (Exclusion × Bool)) (value : Exclusion)
    (rows : List Row)
    (slice : ℕ) : Type 0 where
  pub place : ℕ
  pub row : Row
  pub here : slice_get rows place ≡ Some row
  pub changed : row_counts m (made_on made value false) row ≢ row_counts m (made_on made value true)
      row
  pub lies : slice_of m.method row.minute ≡ slice
