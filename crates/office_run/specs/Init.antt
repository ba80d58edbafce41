-- How `init` ends, in statuses and lines.
use Rattle.std.specs.Prelude.{◌≡◌, ℕ, List, Option, codes}
use Rattle.journal_commands.specs.declared.InitEnd.{InitEnd}
use Rattle.journal_commands.specs.declared.InitEnd.TheVariants.{Done, OriginAboveClock}
use Rattle.journal_commands.specs.declared.InitEnd.TheVariants.{AlreadyThere, DiskFault}
use Rattle.journal_commands.specs.declared.InitEnd.TheVariants.{WriteFault, NoMemory}
use Rattle.office_run.specs.Runs.{EndsSaying, EndsWith}
use Rattle.office_run.specs.Unopened.{already_there_line}
use Rattle.office_run.specs.declared.ending.TheConstants as statuses

-- Each end has its status, and the faults sink tells its line; where the journal was made and its
-- origin was told, it tells nothing.
abbrev pub SettledInit : InitEnd → ℕ → Option (List ℕ) → Option (List ℕ) → ℕ → ℕ → Type 0
SettledInit Done status old new before now = (status ≡ statuses.DONE) × (new ≡ old)
SettledInit OriginAboveClock status old new before now =
    EndsSaying statuses.REFUSED (codes "slo_office: origin above clock\n") status old new before now
SettledInit AlreadyThere status old new before now =
    EndsSaying statuses.BAD_FILE already_there_line status old new before now
SettledInit DiskFault status old new before now =
    EndsWith statuses.DISK_FAULT status old new before now
SettledInit WriteFault status old new before now =
    EndsWith statuses.WRITE_FAULT status old new before now
SettledInit NoMemory status old new before now =
    EndsWith statuses.NO_MEMORY status old new before now
