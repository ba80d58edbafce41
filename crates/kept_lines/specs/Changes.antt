-- What becomes of a book's samples, and of lines, as rows or an exclusion come.
use Rattle.std.specs.Prelude.{◌≡◌, ◌++◌, ℕ, Bool, List}
use Rattle.sample_book.specs.Book.{Book}
use Rattle.sample_book.specs.declared.Exclusion.{Exclusion}
use Rattle.sample_book.specs.declared.Row.{Row}
use Rattle.sample_book.specs.declared.RowVerdict.{RowVerdict}
use Rattle.sample_book.specs.Rows.{current_rows}
use Rattle.window_sums.specs.Slices.{width_of}
use Rattle.office_history.specs.Alerts.{Watch}
use Rattle.office_history.specs.Counts.{Samples}
use Rattle.kept_sums.specs.Replacing.{HasMoved}
use Rattle.kept_sums.specs.Walks.{IsChanged, made_on}
use Rattle.line_forgetting.specs.Touched.{Forgets}
use Rattle.kept_lines.specs.Known.{EachBecomes}
use Rattle.kept_lines.specs.declared.kept.WatchLine.{WatchLine}

-- the samples of a book with the rows of a batch
abbrev pub samples_with : Book → List Row → Samples
samples_with book rows =
    record { rows = current_rows (book.rows ++ rows); exclusions = book.exclusions }

-- the samples of a book with an exclusion more (`taken`), or without it
abbrev pub samples_on : Book → Exclusion → Bool → Samples
samples_on book value taken =
    record { rows = book.rows; exclusions = made_on book.exclusions value taken }

-- the slices of an alert's objective in which rows of a batch move
abbrev pub IsMovedBy : List Row → List RowVerdict → Watch → ℕ → Type 0
IsMovedBy rows verdicts w = HasMoved w.measure rows verdicts

-- the slices of an alert's objective in which an exclusion changes rows
abbrev pub IsChangedBy : Book → Exclusion → Watch → ℕ → Type 0
IsChangedBy book value w = IsChanged w.measure book.exclusions value book.rows

-- a line forgets what is near the slices that are touched, and nothing else
pub record ForgetsNear (touched : Watch → ℕ → Type 0) (before after : WatchLine) : Type 0 where
  pub watch : after.watch ≡ before.watch
  pub line : Forgets (touched before.watch) (width_of before.watch.measure.method) before.line
      after.line

-- so does each of the lines
abbrev pub AllForget : (Watch → ℕ → Type 0) → List WatchLine → List WatchLine → Type 0
AllForget touched old new = EachBecomes (ForgetsNear touched) old new
