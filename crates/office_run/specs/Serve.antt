-- How `serve` ends, in statuses and lines.
use Rattle.std.specs.Prelude.{◌≡◌, ◌≢◌, ℕ, List, Option, Some, Result, Ok, Err}
use Rattle.office_keep.specs.Opening.{IsBad, Opens}
use Rattle.office_keep.specs.declared.KeepFault.{KeepFault}
use Rattle.office_doors.specs.declared.Visit.{Visit}
use Rattle.office_serving.specs.Serving.{ServingWorld, IsServed}
use Rattle.office_serving.specs.Workers.{DeskSenses}
use Rattle.office_serving.specs.declared.ServeEnd.{ServeEnd}
use Rattle.office_serving.specs.declared.ServeEnd.TheVariants as serving
use Rattle.journal_commands.specs.Doors.{EndsServer}
use Rattle.office_run.specs.Runs.{EndsWith}
use Rattle.office_run.specs.Unopened.{SettledUnopened}
use Rattle.office_run.specs.declared.ending.TheConstants as statuses
use Rattle.office_outside.specs.Senses.{DiskSenses}

-- Each end of a serving has its status, and the faults sink tells its line; where it is done, it
-- tells nothing.
abbrev pub SettledServing : ServeEnd → ℕ → Option (List ℕ) → Option (List ℕ) → ℕ → ℕ → Type 0
SettledServing serving.Done status old new before now = (status ≡ statuses.DONE) × (new ≡ old)
SettledServing serving.WriteFault status old new before now =
    EndsWith statuses.WRITE_FAULT status old new before now
SettledServing serving.DoorsFault status old new before now =
    EndsWith statuses.DOORS_FAULT status old new before now
SettledServing serving.NoMemory status old new before now =
    EndsWith statuses.NO_MEMORY status old new before now

-- The serving of a journal that was opened ends so, and a journal that wasn't opened so.
abbrev pub SettledServer : Result ServeEnd KeepFault → ℕ → Option (List ℕ) → Option (List ℕ) → ℕ
    → ℕ → Type 0
SettledServer (Ok end) status old new before now = SettledServing end status old new before now
SettledServer (Err why) status old new before now = SettledUnopened why status old new before now

-- A run of `serve` at a port, by how the serving of the journal ended: what the faults sink was
-- told, and what became of the doors, the output and the disk.
pub record RunsServe {D A I O C : Type 0} (S : DiskSenses D) (worker : DeskSenses A I O C)
    (port status : ℕ) (said said_after : Option (List ℕ)) (tellings tellings_after : ℕ)
    (old new : ServingWorld A (Visit I O C)) (before after : D) : Type 0 where
  pub end : Result ServeEnd KeepFault
  pub settled : SettledServer end status said said_after tellings tellings_after
  pub serves : EndsServer S worker port end old new before after

-- What the status of a run of `serve` says: BAD_FILE only where the file has no header, or is
-- damaged; DONE only where the office for which the file stands was served until each door had
-- handed out all its visits. It is never REFUSED.
pub record SaysServeStatus {D A I O C : Type 0} (S : DiskSenses D) (worker : DeskSenses A I O C)
    (port status : ℕ) (old new : ServingWorld A (Visit I O C)) (before after : D) : Type 0 where
  pub bad_file : status ≡ statuses.BAD_FILE → (file : List ℕ) → S.content before ≡ Some file →
      IsBad file
  pub done : status ≡ statuses.DONE →
      Opens S (λ office. IsServed S worker port office serving.Done old new after) before
  pub unrefused : status ≢ statuses.REFUSED

-- Each run of `serve` ends with a status that says so.
abbrev pub ServeStatusesSay : {D A I O C : Type 0} → DiskSenses D → DeskSenses A I O C → Type 0
ServeStatusesSay {D} {A} {I} {O} {C} S worker =
    (port status : ℕ) (said said_after : Option (List ℕ)) (tellings tellings_after : ℕ)
    (old new : ServingWorld A (Visit I O C)) (before after : D) →
    RunsServe S worker port status said said_after tellings tellings_after old new before after →
    SaysServeStatus S worker port status old new before after
