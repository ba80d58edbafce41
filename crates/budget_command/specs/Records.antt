-- The rows that records stand for, and what is wrong with a record.
use Rattle.std.specs.Prelude.{ℕ, Bool, true, false, List, [], ◌∷◌, ◌++◌, Result}
use Rattle.std.specs.Prelude.{Ok, Err, codes, length, nat_lt, ◌≤◌, if◌then◌else◌}
use Rattle.csv_records.specs.Records.{Fields}
use Rattle.event_fields.specs.Events.{event_of}
use Rattle.event_fields.specs.declared.Event.{Event}
use Rattle.event_fields.specs.declared.EventFault.{EventFault}
use Rattle.slice_method.specs.declared.Amount.{Amount}
use Rattle.slice_method.specs.declared.Amount.TheVariants.{Counts, Value, Withdrawn}
use Rattle.sample_book.specs.declared.Row.{Row}
use Rattle.sample_book.specs.declared.RowVerdict.{RowVerdict}
use Rattle.sample_book.specs.declared.RowVerdict.TheVariants.{New, Newer, Repeated, Superseded}
use Rattle.sample_book.specs.declared.RowVerdict.TheVariants.{Conflict}
use Rattle.sample_book.specs.Rows.{current_rows, verdict_of}
use Rattle.slo_limits.specs.declared.TheConstants.{MAX_AMOUNT, MAX_CELLS}
use Rattle.budget_command.specs.declared.fault.RecordFault.{RecordFault}
use Rattle.budget_command.specs.declared.fault.RecordFault.TheVariants as faults

-- the one indicator of `budget`
abbrev pub BUDGET : List ℕ
BUDGET = codes "budget"

-- the row of an event, under the one indicator
abbrev pub row_of : Event → Row
row_of event = record {
  sli = BUDGET;
  source = event.source;
  minute = event.minute;
  revision = event.revision;
  amount = Counts event.good event.total;
}

-- the row that a record stands for by itself, or the rule that its fields break
abbrev pub row_read : Result Event EventFault → Result Row RecordFault
row_read (Err fault) = Err (faults.Event fault)
row_read (Ok event) = Ok (row_of event)

-- A row is taken, unless the kept row of its cell has the same revision and another amount, or it
-- would make one cell more than there may be.
abbrev pub row_by_verdict : ℕ → RowVerdict → Row → Result Row RecordFault
row_by_verdict cells New row = if nat_lt cells MAX_CELLS then Ok row else Err faults.Limit
row_by_verdict cells (Newer old) row = Ok row
row_by_verdict cells Repeated row = Ok row
row_by_verdict cells (Superseded revision) row = Ok row
row_by_verdict cells (Conflict kept) row = Err (faults.Conflict kept.amount)

abbrev pub of_row : List Row → Result Row RecordFault → Result Row RecordFault
of_row current (Err fault) = Err fault
of_row current (Ok row) = row_by_verdict (length current) (verdict_of current row) row

-- What a record comes to over the current rows. Its good and total are at most 10^9.
abbrev pub outcome_over : List Row → Fields → Result Row RecordFault
outcome_over current fields = of_row current (row_read (event_of MAX_AMOUNT fields))

-- What a record comes to behind the rows that came before it: a row, or the first rule that it
-- breaks, in the order: five fields, the source, the minute, the revision, the counts, no conflict
-- with the current row of its cell, and not too many cells.
abbrev pub outcome : List Row → Fields → Result Row RecordFault
outcome before fields = outcome_over (current_rows before) fields

-- what became of each row, behind those before it
abbrev pub verdicts_from : List Row → List Row → List RowVerdict
verdicts_from before [] = []
verdicts_from before (row ∷ rows) =
    verdict_of (current_rows before) row ∷ verdicts_from (before ++ row ∷ []) rows

abbrev pub verdicts : List Row → List RowVerdict
verdicts rows = verdicts_from [] rows

-- the row took the place of one of a lower revision
abbrev pub is_newer : RowVerdict → Bool
is_newer (Newer old) = true
is_newer _ = false

-- the row says again what its cell's row says
abbrev pub is_repeated : RowVerdict → Bool
is_repeated Repeated = true
is_repeated _ = false

-- the cell's row has a greater revision
abbrev pub is_superseded : RowVerdict → Bool
is_superseded (Superseded revision) = true
is_superseded _ = false

-- the good and the total events of a row
abbrev pub good_in : Amount → ℕ
good_in (Counts good total) = good
good_in (Value value) = 0
good_in Withdrawn = 0

abbrev pub good_of : Row → ℕ
good_of row = good_in row.amount

abbrev pub total_in : Amount → ℕ
total_in (Counts good total) = total
total_in (Value value) = 0
total_in Withdrawn = 0

abbrev pub total_of : Row → ℕ
total_of row = total_in row.amount

-- events are few enough to be added up, and the good ones among them
pub record IsCountedAmount (amount : Amount) : Type 0 where
  pub part : good_in amount ≤ total_in amount
  pub few : total_in amount ≤ MAX_AMOUNT

-- a row's events are so
abbrev pub IsCounted : Row → Type 0
IsCounted row = IsCountedAmount row.amount
