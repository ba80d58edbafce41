-- The lines that `budget` prints.
use Rattle.std.specs.Prelude.{ℕ, [], ◌∷◌, ◌++◌, List, length, codes, count_by, Option, Some}
use Rattle.std.specs.Fmt.{decimal}
use Rattle.exact_fraction.specs.declared.Leaf.{Leaf}
use Rattle.exact_fraction.specs.Ratio.{Ratio, fraction_text}
use Rattle.sample_book.specs.declared.Row.{Row}
use Rattle.sample_book.specs.Rows.{current_rows}
use Rattle.slo_terms.specs.Sums.{amount_at, sum_of_slices}
use Rattle.slo_terms.specs.Budget.{burn_of, remaining_of}
use Rattle.budget_command.specs.Records.{good_of, is_newer, is_repeated, is_superseded, total_of}
use Rattle.budget_command.specs.Records.{verdicts}
use Rattle.budget_command.specs.declared.order.BudgetOrder.{BudgetOrder}

-- a word, a text and a line feed, and then more lines
abbrev pub line : List ℕ → List ℕ → List ℕ → List ℕ
line word text more = word ++ (text ++ 10 ∷ more)

-- the events of a minute: those of its rows, of all sources
abbrev pub events_at : List Row → ℕ → Leaf
events_at rows minute =
    record {
      num = amount_at (λ r. r.minute) good_of rows minute;
      den = amount_at (λ r. r.minute) total_of rows minute;
    }

-- the good and total events of the minutes in the order's range, by the current rows
abbrev pub events_in : BudgetOrder → List Row → Leaf
events_in order rows = sum_of_slices 1 (events_at (current_rows rows)) order.from order.to

-- the budget of a sum of events, or that there is none
abbrev pub lines_with : Leaf → Option Ratio → Option Ratio → List ℕ
lines_with sum (Some burn) (Some remaining) =
    line (codes "good ") (decimal sum.num) (line (codes "total ") (decimal sum.den)
    (line (codes "burn ") (fraction_text burn)
    (line (codes "remaining ") (fraction_text remaining) [])))
lines_with sum _ _ = codes "no data\n"

unfoldable pub sum_lines : ℕ → Leaf → List ℕ
sum_lines target sum = lines_with sum (burn_of sum target) (remaining_of sum target)

-- how many cells there are, and how many rows corrected, repeated or were superseded by another
pub record Tallies : Type 0 where
  pub cells : ℕ
  pub corrected : ℕ
  pub repeated : ℕ
  pub superseded : ℕ

abbrev pub tallies_of : List Row → Tallies
tallies_of rows = record {
  cells = length (current_rows rows);
  corrected = count_by is_newer (verdicts rows);
  repeated = count_by is_repeated (verdicts rows);
  superseded = count_by is_superseded (verdicts rows);
}

-- all lines
abbrev pub lines_of : Tallies → ℕ → Leaf → List ℕ
lines_of tallies target sum =
    line (codes "cells ") (decimal tallies.cells)
    (line (codes "corrected ") (decimal tallies.corrected)
    (line (codes "repeated ") (decimal tallies.repeated)
    (line (codes "superseded ") (decimal tallies.superseded)
    (sum_lines target sum))))

-- What `budget` prints for these rows.
abbrev pub budget_lines : BudgetOrder → List Row → List ℕ
budget_lines order rows = lines_of (tallies_of rows) order.target (events_in order rows)
