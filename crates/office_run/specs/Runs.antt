-- What a run leaves on its output and on the faults sink, and the status that it ends with.
use Rattle.std.specs.Prelude.{◌≡◌, ℕ, List, Option, Some, None, Result, Ok, Err, ◌⊎◌}
use Rattle.office_outside.specs.Told.{Gained, GainedPrefix}
use Rattle.office_outside.specs.Faults.{Rose}
use Rattle.office_run.specs.Answer.{Answers}
use Rattle.office_run.specs.Endings.{line_of_status, refusal_line_of}
use Rattle.office_run.specs.declared.ending.Ending.{Ending}
use Rattle.office_run.specs.declared.ending.Ending.TheVariants.{Done, Usage, ReadFault}
use Rattle.office_run.specs.declared.ending.Ending.TheVariants.{WriteFault, NoMemory, Refused}
use Rattle.command_words.specs.declared.InputCommand.{InputCommand}
use Rattle.office_run.specs.declared.ending.RunRefusal.{RunRefusal}
use Rattle.office_run.specs.declared.ending.TheConstants.{DONE, USAGE, READ_FAULT}
use Rattle.office_run.specs.declared.ending.TheConstants.{WRITE_FAULT, NO_MEMORY, REFUSED}

-- The words ask for a command, and this is its answer on the bytes that are left.
abbrev pub AsksFor : Option InputCommand → Option (List ℕ) → Result (List ℕ) RunRefusal → Type 0
AsksFor None left answer = ⊥
AsksFor (Some command) left answer = Answers command left answer

-- The output gained the answer's lines.
pub record Prints (asked : Option InputCommand) (left old new : Option (List ℕ)) : Type 0 where
  pub text : List ℕ
  pub answer : AsksFor asked left (Ok text)
  pub gained : Gained text old new

-- The output gained a prefix of the answer's lines.
pub record PrintsPart (asked : Option InputCommand) (left old new : Option (List ℕ)) : Type 0 where
  pub text : List ℕ
  pub answer : AsksFor asked left (Ok text)
  pub gained : GainedPrefix text old new

-- The faults sink gained this line; or it counted a fault, and gained a prefix of the line.
abbrev pub GainsLine : List ℕ → Option (List ℕ) → Option (List ℕ) → ℕ → ℕ → Type 0
GainsLine line old new before now = Gained line old new
    ⊎ (Rose before now × GainedPrefix line old new)

-- The run ends with this status, and the faults sink tells this line.
abbrev pub EndsSaying : ℕ → List ℕ → ℕ → Option (List ℕ) → Option (List ℕ) → ℕ → ℕ → Type 0
EndsSaying ending line status old new before now =
    (status ≡ ending) × GainsLine line old new before now

-- The run ends with this status, and the faults sink tells its line.
abbrev pub EndsWith : ℕ → ℕ → Option (List ℕ) → Option (List ℕ) → ℕ → ℕ → Type 0
EndsWith ending status old new before now =
    EndsSaying ending (line_of_status ending) status old new before now

-- The answer is a refusal, and the faults sink tells it.
pub record TellsRefusal (asked : Option InputCommand) (left old new : Option (List ℕ))
    (before now : ℕ) : Type 0 where
  pub refusal : RunRefusal
  pub answer : AsksFor asked left (Err refusal)
  pub told : GainsLine (refusal_line_of refusal) old new before now

-- the status of an answer that was given
abbrev pub status_of : Result (List ℕ) RunRefusal → ℕ
status_of (Ok text) = DONE
status_of (Err refusal) = REFUSED

-- The status is that of the answer; or memory ran out, or the source or the sink counted a fault in
-- this run. Without words of a command it is USAGE.
abbrev pub IsStatus : Option InputCommand → Option (List ℕ) → Type 0 → Type 0 → ℕ → Type 0
IsStatus None left read write status = status ≡ USAGE
IsStatus (Some command) left read write status =
    ((answer : Result (List ℕ) RunRefusal) × Answers command left answer
    × (status ≡ status_of answer))
    ⊎ ((status ≡ NO_MEMORY) ⊎ (((status ≡ READ_FAULT) × read) ⊎ ((status ≡ WRITE_FAULT) × write)))

-- An ending has its status, and the faults sink tells its line; where the line can't be made for
-- want of memory, that is the ending.
abbrev pub Settled : Ending → ℕ → Option (List ℕ) → Option (List ℕ) → ℕ → ℕ → Type 0
Settled Done status old new before now = (status ≡ DONE) × (new ≡ old) × (now ≡ before)
Settled (Refused refusal) status old new before now =
    EndsSaying REFUSED (refusal_line_of refusal) status old new before now
    ⊎ EndsWith NO_MEMORY status old new before now
Settled Usage status old new before now = EndsWith USAGE status old new before now
Settled ReadFault status old new before now = EndsWith READ_FAULT status old new before now
Settled WriteFault status old new before now = EndsWith WRITE_FAULT status old new before now
Settled NoMemory status old new before now = EndsWith NO_MEMORY status old new before now
