-- What an objective's sums are.
use Rattle.std.specs.Prelude.{◌≡◌, ℕ}
use Rattle.sample_book.specs.Book.{Book}
use Rattle.window_sums.specs.Slices.{CountedDays, leaf_at as leaf_of_days}
use Rattle.catalog_measures.specs.Measures.{IsMeasure}
use Rattle.office_history.specs.declared.Measure.{Measure}
use Rattle.burn_core.specs.Alert.{IsRule}
use Rattle.office_history.specs.Counts.{Samples, leaf_at}
use Rattle.office_history.specs.Alerts.{Watch}

-- what stands of a book's samples
abbrev pub samples_of : Book → Samples
samples_of book = record { rows = book.rows; exclusions = book.exclusions }

-- The sums are those of an objective: each slice has the leaf that the samples give it.
pub record AreSums (s : Samples) (m : Measure) (sums : CountedDays) : Type 0 where
  pub method : sums.method ≡ m.method
  pub leaves : (slice : ℕ) → leaf_of_days sums slice ≡ leaf_at s m slice

-- what is known of a watched alert
pub record IsWatch (w : Watch) : Type 0 where
  pub measure : IsMeasure w.measure
  pub rule : IsRule w.rule
