-- The words for why the input of `budget` is refused.
use Rattle.std.specs.Prelude.{ℕ, List, ◌++◌, codes}
use Rattle.std.specs.Fmt.{decimal}
use Rattle.exact_fraction.specs.DecimalText.{decimal_text}
use Rattle.event_fields.specs.Events.{words_of_event}
use Rattle.slice_method.specs.declared.Amount.{Amount}
use Rattle.slice_method.specs.declared.Amount.TheVariants.{Counts, Value, Withdrawn}
use Rattle.budget_command.specs.declared.fault.RecordFault.{RecordFault}
use Rattle.budget_command.specs.declared.fault.RecordFault.TheVariants as fault
use Rattle.budget_command.specs.declared.fault.BudgetFault.{BudgetFault}
use Rattle.budget_command.specs.declared.fault.BudgetFault.TheVariants.{TooLarge, BadRecord}

-- the words for a conflict with a kept amount
abbrev pub words_of_amount : Amount → List ℕ
words_of_amount (Counts part total) =
    codes "conflict " ++ (decimal part ++ (codes "," ++ decimal total))
words_of_amount (Value value) = codes "conflict " ++ decimal_text value
words_of_amount Withdrawn = codes "conflict withdrawn"

-- the words for what is wrong with a record
abbrev pub words_of_record : RecordFault → List ℕ
words_of_record (fault.Event event) = words_of_event event
words_of_record (fault.Conflict kept) = words_of_amount kept
words_of_record fault.Limit = codes "limit"

-- the words for an input that is refused
abbrev pub words_of_fault : BudgetFault → List ℕ
words_of_fault TooLarge = codes "input too large"
words_of_fault (BadRecord number fault) =
    codes "record " ++ (decimal number ++ (codes ": " ++ words_of_record fault))
