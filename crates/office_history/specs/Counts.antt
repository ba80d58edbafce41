-- What the rows count for in an objective, minute by minute and slice by slice.
use Rattle.std.specs.Prelude.{ℕ, ◌*◌, Bool, List}
use Rattle.exact_fraction.specs.declared.Leaf.{Leaf}
use Rattle.slice_method.specs.declared.Counts.{Counts}
use Rattle.slice_method.specs.Leaves.{leaf}
use Rattle.slo_terms.specs.Sums.{sum_over, sum_of_slices}
use Rattle.sample_book.specs.declared.Row.{Row}
use Rattle.sample_book.specs.declared.Exclusion.{Exclusion}
use Rattle.sample_book.specs.Counting.{counted_in_minute}
use Rattle.window_sums.specs.Slices.{width_of}
use Rattle.office_history.specs.declared.measure.Measure.{Measure}

-- What stands of a history's samples: the current rows, and the exclusions, each with whether
-- it is live.
pub record Samples : Type 0 where
  pub rows : List Row
  pub exclusions : List (Exclusion × Bool)

-- the counts of a minute: none where it is excluded for the SLO, else the sums over the current
-- rows of its indicator
abbrev pub counts_at : Samples → Measure → ℕ → Counts
counts_at s m minute =
    counted_in_minute m.reading m.op m.value s.exclusions s.rows m.slo m.sli minute

-- the counts of a slice: the sums over its minutes
abbrev pub slice_counts : Samples → Measure → ℕ → Counts
slice_counts s m slice =
    let width = width_of m.method in
    record {
      good = sum_over (λ minute. (counts_at s m minute).good) (slice * width) width;
      total = sum_over (λ minute. (counts_at s m minute).total) (slice * width) width;
    }

-- the leaf of a slice
abbrev pub leaf_at : Samples → Measure → ℕ → Leaf
leaf_at s m slice = leaf m.method (slice_counts s m slice)

-- the sum over [from, to): num and den of all slices that lie wholly in it
abbrev pub sum_between : Samples → Measure → ℕ → ℕ → Leaf
sum_between s m from to = sum_of_slices (width_of m.method) (leaf_at s m) from to
