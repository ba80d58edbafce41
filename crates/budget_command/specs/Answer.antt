-- What `budget` answers on the bytes of its input.
use Rattle.std.specs.Prelude.{◌≡◌, ℕ, ◌<◌, ◌≤◌, List, length, Result, Ok, Err}
use Rattle.csv_records.specs.Records.{csv_records}
use Rattle.slo_terms.specs.Judged.{AreKept, IsFirstFault}
use Rattle.sample_book.specs.declared.Row.{Row}
use Rattle.budget_command.specs.Records.{outcome}
use Rattle.budget_command.specs.Lines.{budget_lines}
use Rattle.budget_command.specs.declared.fault.BudgetFault.{BudgetFault}
use Rattle.budget_command.specs.declared.fault.BudgetFault.TheVariants.{TooLarge, BadRecord}
use Rattle.budget_command.specs.declared.TheConstants.{MAX_INPUT_BYTES}
use Rattle.budget_command.specs.declared.order.BudgetOrder.{BudgetOrder}

-- The lines for the rows of its records, or why the input is refused: its size is tried first, and
-- then the records in their order.
abbrev pub IsBudgetAnswer : BudgetOrder → List ℕ → Result (List ℕ) BudgetFault → Type 0
IsBudgetAnswer order bytes (Ok text) =
    (length bytes ≤ MAX_INPUT_BYTES) × (rows : List Row) × AreKept outcome (csv_records bytes) rows
    × (text ≡ budget_lines order rows)
IsBudgetAnswer order bytes (Err TooLarge) = MAX_INPUT_BYTES < length bytes
IsBudgetAnswer order bytes (Err (BadRecord number fault)) =
    (length bytes ≤ MAX_INPUT_BYTES) × IsFirstFault outcome (csv_records bytes) number fault
