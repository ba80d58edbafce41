-- Inside: a run that is underway.
use Rattle.std.specs.Prelude.{◌≡◌, ◌+◌, ◌⊎◌, ℕ, List, ◌++◌, length, Option}
use Rattle.csv_records.specs.Records.{Fields}
use Rattle.office_outside.specs.Faults.{Rose}
use Rattle.office_outside.specs.Told.{Gained, GainedPrefix}
use Rattle.counter_book.specs.Book.{Book}
use Rattle.counter_book.specs.declared.Difference.{Difference}
use Rattle.counters_command.specs.declared.fault.CountersEnd.{CountersEnd}
use Rattle.counters_command.specs.declared.fault.CountersEnd.TheVariants.{WriteFault}
use Rattle.counters_command.specs.Rows.{rows_of}
use Rattle.counters_command.specs.Taking.{AreTaken}

-- The records but those that are left were taken; of their rows all were written but the page.
pub record IsUnderway (sli : List ℕ) (records left : List Fields) (number : ℕ) (book : Book)
    (page : List ℕ) (old now : Option (List ℕ)) : Type 0 where
  pub before : List Fields
  pub given : List Difference
  pub written : List ℕ
  pub parted : records ≡ before ++ left
  pub numbered : number ≡ length before + 1
  pub taken : AreTaken before given book
  pub rows : rows_of sli given ≡ written ++ page
  pub gained : Gained written old now

-- The last page is written and the run ends so; or a write failed, which the output counted, behind
-- a prefix of the page.
abbrev pub EndsPage : List ℕ → CountersEnd → CountersEnd → Option (List ℕ) → Option (List ℕ)
    → ℕ → ℕ → Type 0
EndsPage page end result old new before now = ((result ≡ end) × Gained page old new)
    ⊎ ((result ≡ WriteFault) × GainedPrefix page old new × Rose before now)
