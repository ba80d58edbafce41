-- The readings for which records stand, and the rows that a book gives for them.
use Rattle.std.specs.Prelude.{◌≡◌, ◌+◌, ℕ, List, ◌∷◌, ◌++◌, length, map, Result, Ok, Err}
use Rattle.csv_records.specs.Records.{Fields}
use Rattle.event_fields.specs.Events.{event_of}
use Rattle.event_fields.specs.declared.Event.{Event}
use Rattle.event_fields.specs.declared.EventFault.{EventFault}
use Rattle.counter_book.specs.Book.{Book}
use Rattle.counter_book.specs.Laws.{HoldsReadings}
use Rattle.counter_book.specs.Puts.{IsRefused, Puts, listed}
use Rattle.counter_book.specs.declared.Changes.{Changes}
use Rattle.counter_book.specs.declared.CounterFault.TheVariants as refused
use Rattle.counter_book.specs.declared.CounterReading.{CounterReading}
use Rattle.counter_book.specs.declared.Difference.{Difference}
use Rattle.slo_limits.specs.declared.TheConstants.{MAX_COUNTER}
use Rattle.counters_command.specs.declared.fault.ReadingFault.{ReadingFault}
use Rattle.counters_command.specs.declared.fault.ReadingFault.TheVariants as fault
use Rattle.counters_command.specs.Rows.{rows_of}

-- what an event says as a reading
abbrev pub of_event : Result Event EventFault → Result CounterReading EventFault
of_event (Err fault) = Err fault
of_event (Ok event) = Ok (record {
  source = event.source;
  minute = event.minute;
  revision = event.revision;
  good = event.good;
  total = event.total;
})

-- The reading for which a record stands, or the first rule that it breaks by itself: five fields, a
-- source, a minute, a revision, and numbers of at most 10^18 with good at most total.
abbrev pub reading_of : Fields → Result CounterReading EventFault
reading_of fields = of_event (event_of MAX_COUNTER fields)

-- The record stands for a reading that changes this in a book.
pub record TakesRecord (before : Book) (fields : Fields) (changes : Changes) (after : Book) :
    Type 0 where
  pub reading : CounterReading
  pub read : reading_of fields ≡ Ok reading
  pub put : Puts before reading changes after

-- So, and the rows of the differences that it changes stand behind a page.
pub record TakesRows (sli : List ℕ) (before : Book) (page : List ℕ) (fields : Fields)
    (after : Book) (longer : List ℕ) : Type 0 where
  pub changes : Changes
  pub taken : TakesRecord before fields changes after
  pub page_is : longer ≡ page ++ rows_of sli (listed changes)

-- The record stands for a reading that a book refuses so.
pub record IsRefusedAs (book : Book) (fields : Fields) (why : CounterReading → Type 0) :
    Type 0 where
  pub reading : CounterReading
  pub read : reading_of fields ≡ Ok reading
  pub refused : why reading

-- Why a record isn't taken behind those before it: it is no reading, or the book refuses it.
abbrev pub Breaks : Book → Fields → ReadingFault → Type 0
Breaks book fields (fault.Event event) = reading_of fields ≡ Err event
Breaks book fields (fault.Conflict kept) =
    IsRefusedAs book fields (λ r. IsRefused book r (refused.Conflict kept))
Breaks book fields fault.Limit = IsRefusedAs book fields (λ r. IsRefused book r refused.Limit)
Breaks book fields (fault.Jump minute) =
    IsRefusedAs book fields (λ r. (total : ℕ) × IsRefused book r (refused.Jump minute total))

-- Each of these records stands for a reading, a book that was empty took these readings one behind
-- another, and gave these differences.
pub record AreTaken (records : List Fields) (given : List Difference) (book : Book) : Type 0 where
  pub came : List CounterReading
  pub read : map reading_of records ≡ map Ok came
  pub holds : HoldsReadings came given book

-- These are the rows of these records, which are all taken.
pub record GivesRows (sli : List ℕ) (records : List Fields) (text : List ℕ) : Type 0 where
  pub given : List Difference
  pub book : Book
  pub taken : AreTaken records given book
  pub text_is : text ≡ rows_of sli given

-- The record of this number, counted from 1, is the first that isn't taken, for this reason, and
-- these are the rows of those before it.
pub record IsFirstBroken (sli : List ℕ) (records : List Fields) (number : ℕ) (fault : ReadingFault)
    (text : List ℕ) : Type 0 where
  pub before : List Fields
  pub broken : Fields
  pub after : List Fields
  pub given : List Difference
  pub book : Book
  pub parted : records ≡ before ++ broken ∷ after
  pub numbered : number ≡ length before + 1
  pub taken : AreTaken before given book
  pub breaks : Breaks book broken fault
  pub text_is : text ≡ rows_of sli given
