-- Slices whose counts are the sums of what rows count for.
use Rattle.std.specs.Prelude.{ℕ, ◌≤◌, ◌≡◌, List, length}
use Rattle.std.specs.List.{AllByRecursion}
use Rattle.slo_limits.specs.declared.TheConstants.{MAX_AMOUNT, MAX_SUMMED_ROWS}
use Rattle.slice_method.specs.declared.amount.Counts.{Counts}
use Rattle.slice_method.specs.declared.method.Method.{Method}
use Rattle.slo_terms.specs.Sums.{amount_at}
use Rattle.window_sums.specs.Slices.{CountedDays, counts_of, slice_of}

-- What one row adds to its minute.
pub record Share : Type 0 where
  pub minute : ℕ
  pub counts : Counts

-- The counts of a slice: the shares of its minutes, added up.
abbrev pub slice_counts : Method → List Share → ℕ → Counts
slice_counts method shares slice = record {
  good =
      amount_at (λ share. slice_of method share.minute) (λ share. share.counts.good) shares slice;
  total =
      amount_at (λ share. slice_of method share.minute) (λ share. share.counts.total) shares slice;
}

-- the sums have of each slice these counts
abbrev pub IsSumOf : CountedDays → List Share → Type 0
IsSumOf sums shares = (slice : ℕ) → counts_of sums slice ≡ slice_counts sums.method shares slice

-- a part of at most as many events as a row may have
pub record IsSmall (share : Share) : Type 0 where
  pub part : share.counts.good ≤ share.counts.total
  pub few : share.counts.total ≤ MAX_AMOUNT

-- shares of at most as many rows as are added up
pub record AreSmall (shares : List Share) : Type 0 where
  pub each : AllByRecursion IsSmall shares
  pub few : length shares ≤ MAX_SUMMED_ROWS
