-- What the rows of `counters` are, from scratch.
use Rattle.std.specs.Prelude.{◌≡◌, ◌≤◌, ℕ, List, ◌++◌, map, length, filter, Ok, Option}
use Rattle.std.specs.List.{find}
use Rattle.csv_records.specs.Records.{Fields, csv_records}
use Rattle.office_outside.specs.Told.{Gained}
use Rattle.counter_book.specs.Differences.{difference_at}
use Rattle.counter_book.specs.Laws.{current_differences, row_at}
use Rattle.counter_book.specs.Puts.{is_difference_at}
use Rattle.counter_book.specs.declared.CounterReading.{CounterReading}
use Rattle.counter_book.specs.declared.Difference.{Difference}
use Rattle.counters_command.specs.Rows.{rows_of}
use Rattle.counters_command.specs.Taking.{GivesRows, reading_of}
use Rattle.counters_command.specs.declared.TheConstants.{MAX_INPUT_BYTES}

-- The text is the rows of differences; their current rows are the differences from scratch over the
-- readings for which the records stand, each at the revision that says how often it was given.
pub record AreDifferences (sli : List ℕ) (records : List Fields) (text : List ℕ) : Type 0 where
  pub came : List CounterReading
  pub given : List Difference
  pub read : map reading_of records ≡ map Ok came
  pub text_is : text ≡ rows_of sli given
  pub current : (source : List ℕ) (minute : ℕ) →
      find (is_difference_at source minute) (current_differences given)
      ≡ row_at source minute (length (filter (is_difference_at source minute) given))
      (difference_at came source minute)

-- The records of these bytes were all taken, and the output gained their rows: the differences.
pub record GainsDifferences (sli bytes : List ℕ) (old new : Option (List ℕ)) : Type 0 where
  pub small : length bytes ≤ MAX_INPUT_BYTES
  pub text : List ℕ
  pub rows : GivesRows sli (csv_records bytes) text
  pub differences : AreDifferences sli (csv_records bytes) text
  pub gained : Gained text old new

-- The text begins with the rows of these records.
pub record BeginsWithRows (sli : List ℕ) (records : List Fields) (text : List ℕ) : Type 0 where
  pub front : List ℕ
  pub rest : List ℕ
  pub rows : GivesRows sli records front
  pub parted : text ≡ front ++ rest
