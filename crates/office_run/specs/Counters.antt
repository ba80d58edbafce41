-- How `counters` ends, in statuses and lines.
use Rattle.std.specs.Prelude.{◌≡◌, ◌+◌, ◌⊎◌, ℕ, List, ◌++◌, Option, codes}
use Rattle.office_outside.specs.Told.{HasNothingLeft}
use Rattle.counters_command.specs.Answer.{EndsCounters}
use Rattle.counters_command.specs.Inputs.{TakesAtMost}
use Rattle.counters_command.specs.Words.{words_of_fault}
use Rattle.counters_command.specs.declared.CountersEnd.{CountersEnd}
use Rattle.counters_command.specs.declared.CountersEnd.TheVariants.{Done, Refused, ReadFault}
use Rattle.counters_command.specs.declared.CountersEnd.TheVariants.{WriteFault, NoMemory}
use Rattle.counters_command.specs.declared.CountersFault.{CountersFault}
use Rattle.counters_command.specs.declared.CountersFault.TheVariants.{TooLarge}
use Rattle.counters_command.specs.declared.TheConstants.{MAX_INPUT_BYTES}
use Rattle.office_run.specs.Runs.{EndsSaying, EndsWith}
use Rattle.office_run.specs.declared.ending.TheConstants as statuses

-- the line for an input that is refused
abbrev pub refusal_line : CountersFault → List ℕ
refusal_line fault = codes "slo_office: " ++ (words_of_fault fault ++ codes "\n")

-- The faults sink tells why the input is refused; where the line can't be made for want of memory,
-- that is the ending.
abbrev pub SettledRefusal : CountersFault → ℕ → Option (List ℕ) → Option (List ℕ) → ℕ → ℕ → Type 0
SettledRefusal fault status old new before now =
    EndsSaying statuses.REFUSED (refusal_line fault) status old new before now
    ⊎ EndsWith statuses.NO_MEMORY status old new before now

-- Each end has its status, and the faults sink tells its line; where all rows were written, it
-- tells nothing.
abbrev pub SettledCounters : CountersEnd → ℕ → Option (List ℕ) → Option (List ℕ) → ℕ → ℕ → Type 0
SettledCounters Done status old new before now = (status ≡ statuses.DONE) × (new ≡ old)
SettledCounters (Refused fault) status old new before now =
    SettledRefusal fault status old new before now
SettledCounters ReadFault status old new before now =
    EndsWith statuses.READ_FAULT status old new before now
SettledCounters WriteFault status old new before now =
    EndsWith statuses.WRITE_FAULT status old new before now
SettledCounters NoMemory status old new before now =
    EndsWith statuses.NO_MEMORY status old new before now

-- What each end says of the input and of the output.
pub record WritesRows (sli : List ℕ) (end : CountersEnd) (left left_after : Option (List ℕ))
    (held held_after : Option (List ℕ)) : Type 0 where
  pub ends : EndsCounters sli left end held held_after
  -- no row is written where the input isn't read to its end, or is too large
  pub unread : end ≡ ReadFault → held_after ≡ held
  pub large : end ≡ Refused TooLarge → held_after ≡ held
  -- the input is read to its end where all rows are written
  pub ended : end ≡ Done → HasNothingLeft left_after
  -- of an input that is too large one more byte is taken than it may have
  pub takes : TakesAtMost (MAX_INPUT_BYTES + 1) left left_after
