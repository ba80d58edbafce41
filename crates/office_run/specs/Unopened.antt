-- How a journal that couldn't be opened ends the commands that open one, in statuses and lines.
use Rattle.std.specs.Prelude.{◌⊎◌, ℕ, List, ◌++◌, Option, codes}
use Rattle.std.specs.Fmt.{decimal}
use Rattle.office_keep.specs.declared.KeepFault.{KeepFault}
use Rattle.office_keep.specs.declared.KeepFault.TheVariants.{AlreadyThere, NotAJournal, Damaged}
use Rattle.office_keep.specs.declared.KeepFault.TheVariants.{DiskFault, NoMemory}
use Rattle.office_run.specs.Runs.{EndsSaying, EndsWith}
use Rattle.office_run.specs.declared.ending.TheConstants as statuses

-- The line for a file in which a journal stands already.
abbrev pub already_there_line : List ℕ
already_there_line = codes "slo_office: file already there\n"

-- The line for a file that isn't a journal.
abbrev pub no_journal_line : List ℕ
no_journal_line = codes "slo_office: file not a journal\n"

-- The line for a file that is damaged at a place.
abbrev pub damaged_line : ℕ → List ℕ
damaged_line at = codes "slo_office: file damaged at " ++ (decimal at ++ codes "\n")

-- Each cause has its status, and the faults sink tells its line; where the line can't be made for
-- want of memory, that is the ending.
abbrev pub SettledUnopened : KeepFault → ℕ → Option (List ℕ) → Option (List ℕ) → ℕ → ℕ → Type 0
SettledUnopened AlreadyThere status old new before now =
    EndsSaying statuses.BAD_FILE already_there_line status old new before now
SettledUnopened NotAJournal status old new before now =
    EndsSaying statuses.BAD_FILE no_journal_line status old new before now
SettledUnopened (Damaged at) status old new before now =
    EndsSaying statuses.BAD_FILE (damaged_line at) status old new before now
    ⊎ EndsWith statuses.NO_MEMORY status old new before now
SettledUnopened DiskFault status old new before now =
    EndsWith statuses.DISK_FAULT status old new before now
SettledUnopened NoMemory status old new before now =
    EndsWith statuses.NO_MEMORY status old new before now
