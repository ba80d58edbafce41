-- Sums over the slices of a range of time.
use Rattle.std.specs.Prelude.{ℕ, zero, suc, nat_le, nat_lt, ◌&&◌, ◌+◌, ◌-◌, ◌/◌, ◌≤◌}
use Rattle.std.specs.Prelude.{List, sum_by, ◌==◌, if◌then◌else◌}
use Rattle.slo_limits.specs.declared.TheConstants.{MAX_SUM}
use Rattle.exact_fraction.specs.declared.Leaf.{Leaf}

-- what f gives at `count` places from `first` on, added up
unfoldable pub sum_over : (ℕ → ℕ) → ℕ → ℕ → ℕ
sum_over f first zero = 0
sum_over f first (suc count) = sum_over f first count + f (first + count)

-- Slice k of a width is the minutes from k * width up to (k + 1) * width.
-- The first slice that begins at a minute or after it.
abbrev pub slice_from : ℕ → ℕ → ℕ
slice_from width minute = (minute + (width - 1)) / width

-- how many slices end at a minute or before it
abbrev pub slices_until : ℕ → ℕ → ℕ
slices_until width minute = minute / width

-- the leaves of `count` slices from `first` on, added up
abbrev pub leaves_over : (ℕ → Leaf) → ℕ → ℕ → Leaf
leaves_over leaf first count =
    record {
      num = sum_over (λ k. (leaf k).num) first count;
      den = sum_over (λ k. (leaf k).den) first count;
    }

-- The sum over a range: the leaves of all slices that lie wholly in it.
abbrev pub sum_of_slices : ℕ → (ℕ → Leaf) → ℕ → ℕ → Leaf
sum_of_slices width leaf from to =
    let first = slice_from width from in leaves_over leaf first (slices_until width to - first)

-- the most events of all slices together: with that many, burn rates fit 128 bits
abbrev pub most_events : ℕ
most_events = MAX_SUM

-- What f gives for all slices together is at most that: so it is over any slices, however many.
abbrev pub AreFew : (ℕ → ℕ) → Type 0
AreFew f = (first count : ℕ) → sum_over f first count ≤ most_events

-- Leaves that can be added up and compared: each is a part of a whole, and the wholes are few.
pub record AreSound (leaf : ℕ → Leaf) : Type 0 where
  pub parts : (slice : ℕ) → (leaf slice).num ≤ (leaf slice).den
  pub few : AreFew (λ slice. (leaf slice).den)

-- What the rows of one minute add up to.
abbrev pub amount_at : {A : Type 0} → (A → ℕ) → (A → ℕ) → List A → ℕ → ℕ
amount_at minute_of amount_of rows minute =
    sum_by (λ row. if minute_of row == minute then amount_of row else 0) rows

-- the amount of a row whose minute lies in [from, to)
abbrev pub share_within : {A : Type 0} → (A → ℕ) → (A → ℕ) → ℕ → ℕ → A → ℕ
share_within minute_of amount_of from to row =
    if nat_le from (minute_of row) && nat_lt (minute_of row) to then amount_of row else 0
