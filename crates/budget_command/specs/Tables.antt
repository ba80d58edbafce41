-- What is kept of the rows that came, while the records of a text are judged one after another.
use Rattle.std.specs.Prelude.{◌≡◌, ◌+◌, ◌≤◌, ℕ, Bool, List, [], ◌∷◌, ◌++◌, Option, Some, None}
use Rattle.std.specs.Prelude.{Ok, Err, All, count_by}
use Rattle.std.specs.Prelude.{drop, length, if◌then◌else◌}
use Rattle.csv_records.specs.Parts.{PartsAreRead}
use Rattle.csv_records.specs.Records.{Fields, csv_records}
use Rattle.exact_fraction.specs.Label.{label_of}
use Rattle.event_lines.specs.Lines.{event_with}
use Rattle.event_lines.specs.declared.EventLine.{EventLine}
use Rattle.plain_fields.specs.Lines.{StandsBehindFeed}
use Rattle.slo_limits.specs.declared.TheConstants.{MAX_CELLS}
use Rattle.slo_terms.specs.Judged.{judged_from}
use Rattle.sample_book.specs.declared.Row.{Row}
use Rattle.sample_book.specs.History.{is_put}
use Rattle.sample_book.specs.Rows.{current_rows, verdict_of}
use Rattle.budget_command.specs.Records.{IsCounted, is_newer, is_repeated, is_superseded, outcome}
use Rattle.budget_command.specs.Records.{outcome_over, row_of, verdicts}
use Rattle.budget_command.specs.declared.fault.RecordFault.{RecordFault}
use Rattle.budget_command.specs.declared.judging.Judging.{Judging}
use Rattle.budget_command.specs.declared.table.Table.{Table}

-- the current rows after a row came
abbrev pub rows_after : List Row → Row → List Row
rows_after current row =
    if is_put (verdict_of current row) then current_rows (current ++ row ∷ []) else current

-- how many rows corrected, repeated or were superseded by another
abbrev pub tallies_in : Table → ℕ
tallies_in table = table.corrected + table.repeated + table.superseded

-- one where it is so
abbrev pub one_if : Bool → ℕ
one_if so = if so then 1 else 0

-- a table that no row came to
pub record IsEmpty (table : Table) : Type 0 where
  pub rows : table.book.rows ≡ []
  pub newer : table.corrected ≡ 0
  pub again : table.repeated ≡ 0
  pub older : table.superseded ≡ 0

-- A table with one more row: it is kept by its verdict, and what became of it is counted.
pub record HasTaken (row : Row) (old new : Table) : Type 0 where
  pub rows : new.book.rows ≡ rows_after old.book.rows row
  pub newer : new.corrected ≡ old.corrected + one_if (is_newer (verdict_of old.book.rows row))
  pub again : new.repeated ≡ old.repeated + one_if (is_repeated (verdict_of old.book.rows row))
  pub older :
      new.superseded ≡ old.superseded + one_if (is_superseded (verdict_of old.book.rows row))

-- A table with the row of one more record, which keeps the rules.
pub record HasTakenRecord (fields : Fields) (old new : Table) : Type 0 where
  pub row : Row
  pub judged : outcome_over old.book.rows fields ≡ Ok row
  pub counted : IsCounted row
  pub taken : HasTaken row old new

-- the row of a line, whose source is a label
pub record IsDraft (line : EventLine) (row : Row) : Type 0 where
  pub label : List ℕ
  pub source : label_of line.source.now ≡ Some label
  pub row_is : row ≡ row_of (event_with label line)
  pub counted : IsCounted row

-- A table with the row of one more line of a part, which keeps the rules; the next line begins
-- behind it.
pub record HasTakenLine (part : List ℕ) (at end : ℕ) (old new : Table) : Type 0 where
  pub fields : Fields
  pub line : csv_records (10 ∷ drop at part) ≡ fields ∷ csv_records (10 ∷ drop end part)
  pub behind : StandsBehindFeed part end
  pub taken : HasTakenRecord fields old new

-- the line at a place of a part breaks a rule over a table
pub record BreaksRule (part : List ℕ) (at : ℕ) (table : Table) (fault : RecordFault) : Type 0 where
  pub fields : Fields
  pub end : ℕ
  pub line : csv_records (10 ∷ drop at part) ≡ fields ∷ csv_records (10 ∷ drop end part)
  pub broken : outcome_over table.book.rows fields ≡ Err fault

-- The rows that came of the records so far are kept as their current rows, with what became of
-- them.
pub record AreKeptAs (rows : List Row) (corrected repeated superseded : ℕ) (came : List Row) :
    Type 0 where
  pub current : rows ≡ current_rows came
  pub newer : corrected ≡ count_by is_newer (verdicts came)
  pub again : repeated ≡ count_by is_repeated (verdicts came)
  pub older : superseded ≡ count_by is_superseded (verdicts came)

-- So far the records before these have been judged; what comes of all is what comes of these behind
-- them.
pub record IsSoFar (records left : List Fields) (number : ℕ) (rows : List Row)
    (corrected repeated superseded : ℕ) : Type 0 where
  pub came : List Row
  pub kept : AreKeptAs rows corrected repeated superseded came
  pub judged : judged_from outcome [] 1 records ≡ judged_from outcome came number left
  pub numbered : number ≡ length came + 1
  pub shorter : corrected + repeated + superseded ≤ length came

-- the events of rows are few enough to be added up: those of each, and how many rows there are
pub record IsFit (rows : List Row) : Type 0 where
  pub counted : All IsCounted rows
  pub few : length rows ≤ MAX_CELLS

-- More records can be judged: the events of the rows fit, and the counts leave room.
pub record CanGoOn (table : Table) (number : ℕ) : Type 0 where
  pub fit : IsFit table.book.rows
  pub tallied : tallies_in table + 1 ≤ number

-- All of these records keep the rules, and their rows are kept.
abbrev pub AreAll : List Fields → ℕ → Table → Type 0
AreAll records next table =
    IsSoFar records [] next table.book.rows table.corrected table.repeated table.superseded

-- The lines of a part up to this place keep the rules, and their rows are kept.
pub record HaveTakenLines (part : List ℕ) (number : ℕ) (old : Table) (at next : ℕ) (new : Table) :
    Type 0 where
  pub behind : StandsBehindFeed part at
  pub records : List Fields
  pub split : csv_records part ≡ records ++ csv_records (10 ∷ drop at part)
  pub all : (before : List Fields) → AreAll before number old → AreAll (before ++ records) next new
  pub fit : IsFit new.book.rows
  pub tallied : tallies_in new + 1 ≤ next
  pub numbered : next + length (csv_records (10 ∷ drop at part))
      ≤ number + length (csv_records part)

-- Behind records that keep the rules, whose rows are kept, the record of this number is the first
-- of all that breaks one.
abbrev pub IsBroken : List ℕ → ℕ → Table → ℕ → RecordFault → Type 0
IsBroken part number table at fault =
    ((before : List Fields) → AreAll before number table →
    judged_from outcome [] 1 (before ++ csv_records part) ≡ Err (at, fault))
    × (at ≤ number + length (csv_records part))

-- What came of records: all keep the rules, or the one of this number is the first that breaks one.
abbrev pub ComesTo : List Fields → Option RecordFault → ℕ → Table → Type 0
ComesTo records None number table = AreAll records number table
ComesTo records (Some fault) number table =
    judged_from outcome [] 1 records ≡ Err (number, fault)

-- These records were judged, and this is what came of them.
pub record HasJudged (records : List Fields) (judging : Judging) : Type 0 where
  pub comes : ComesTo records judging.fault judging.number judging.table
  pub going : judging.fault ≡ None → CanGoOn judging.table judging.number
  pub numbered : judging.number ≤ length records + 1

-- Of the bytes seen so far all records were judged but those of the bytes that wait.
pub record HasJudgedTo (seen waiting : List ℕ) (judging : Judging) : Type 0 where
  pub records : List Fields
  pub read : PartsAreRead seen records waiting
  pub judged : HasJudged records judging
