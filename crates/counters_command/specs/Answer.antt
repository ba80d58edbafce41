-- How `counters` ends on the bytes of its input, and what its output gains.
use Rattle.std.specs.Prelude.{◌≡◌, ◌<◌, ◌≤◌, ℕ, List, ◌++◌, length, Option, Some, None, ⊤}
use Rattle.csv_records.specs.Records.{Fields, csv_records}
use Rattle.office_outside.specs.Told.{Gained, GainedPrefix}
use Rattle.counters_command.specs.declared.TheConstants.{MAX_INPUT_BYTES}
use Rattle.counters_command.specs.declared.fault.CountersEnd.{CountersEnd}
use Rattle.counters_command.specs.declared.fault.CountersEnd.TheVariants as end
use Rattle.counters_command.specs.declared.fault.CountersFault.TheVariants.{BadRecord, TooLarge}
use Rattle.counters_command.specs.declared.fault.ReadingFault.{ReadingFault}
use Rattle.counters_command.specs.Taking.{GivesRows, IsFirstBroken}

-- the output gained the rows of all records
pub record GainsRows (sli : List ℕ) (records : List Fields) (old new : Option (List ℕ)) :
    Type 0 where
  pub text : List ℕ
  pub rows : GivesRows sli records text
  pub gained : Gained text old new

-- the output gained the rows of the records before the first that isn't taken
pub record GainsBefore (sli : List ℕ) (records : List Fields) (number : ℕ) (fault : ReadingFault)
    (old new : Option (List ℕ)) : Type 0 where
  pub text : List ℕ
  pub rows : IsFirstBroken sli records number fault text
  pub gained : Gained text old new

-- the output gained a prefix of the rows of a front of the records
pub record GainsFront (sli : List ℕ) (records : List Fields) (old new : Option (List ℕ)) :
    Type 0 where
  pub before : List Fields
  pub after : List Fields
  pub text : List ℕ
  pub parted : records ≡ before ++ after
  pub rows : GivesRows sli before text
  pub gained : GainedPrefix text old new

-- How a run over records ends: each end says what the output gained.
abbrev pub EndsRecords : List ℕ → List Fields → CountersEnd → Option (List ℕ) → Option (List ℕ)
    → Type 0
EndsRecords sli records end.Done old new = GainsRows sli records old new
EndsRecords sli records (end.Refused TooLarge) old new = ⊥
EndsRecords sli records (end.Refused (BadRecord number fault)) old new =
    GainsBefore sli records number fault old new
EndsRecords sli records end.ReadFault old new = ⊥
EndsRecords sli records end.WriteFault old new = GainsFront sli records old new
EndsRecords sli records end.NoMemory old new = GainsFront sli records old new

-- How a run over these bytes ends: they are all read and counted first, and then come the records
-- in their order. Where bytes weren't read, nothing is written.
abbrev pub EndsOver : List ℕ → List ℕ → CountersEnd → Option (List ℕ) → Option (List ℕ) → Type 0
EndsOver sli bytes (end.Refused TooLarge) old new =
    (MAX_INPUT_BYTES < length bytes) × (new ≡ old)
EndsOver sli bytes end.ReadFault old new = new ≡ old
EndsOver sli bytes end.NoMemory old new = GainsFront sli (csv_records bytes) old new
EndsOver sli bytes end.WriteFault old new = GainsFront sli (csv_records bytes) old new
EndsOver sli bytes end.Done old new =
    (length bytes ≤ MAX_INPUT_BYTES) × GainsRows sli (csv_records bytes) old new
EndsOver sli bytes (end.Refused (BadRecord number fault)) old new =
    (length bytes ≤ MAX_INPUT_BYTES) × GainsBefore sli (csv_records bytes) number fault old new

-- The same over the bytes that a source has left, where it tells them.
abbrev pub EndsCounters : List ℕ → Option (List ℕ) → CountersEnd → Option (List ℕ)
    → Option (List ℕ) → Type 0
EndsCounters sli None end old new = ⊤
EndsCounters sli (Some bytes) end old new = EndsOver sli bytes end old new
