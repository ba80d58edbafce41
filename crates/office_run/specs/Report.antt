-- How `report` ends, in statuses and lines.
use Rattle.std.specs.Prelude.{◌≡◌, ℕ, List, Option, codes}
use Rattle.journal_commands.specs.declared.PrintEnd.{PrintEnd}
use Rattle.journal_commands.specs.declared.PrintEnd.TheVariants as printing
use Rattle.journal_commands.specs.declared.ReportEnd.{ReportEnd}
use Rattle.journal_commands.specs.declared.ReportEnd.TheVariants.{Opened, Unopened}
use Rattle.office_run.specs.Runs.{EndsSaying, EndsWith}
use Rattle.office_run.specs.Unopened.{SettledUnopened}
use Rattle.office_run.specs.declared.ending.TheConstants as statuses

-- Each end of the printing has its status, and the faults sink tells its line; where the report was
-- printed, it tells nothing.
abbrev pub SettledPrinting : PrintEnd → ℕ → Option (List ℕ) → Option (List ℕ) → ℕ → ℕ → Type 0
SettledPrinting printing.Done status old new before now = (status ≡ statuses.DONE) × (new ≡ old)
SettledPrinting printing.OutOfRange status old new before now =
    EndsSaying statuses.REFUSED (codes "slo_office: AT out of range\n") status old new before now
SettledPrinting printing.WriteFault status old new before now =
    EndsWith statuses.WRITE_FAULT status old new before now
SettledPrinting printing.NoMemory status old new before now =
    EndsWith statuses.NO_MEMORY status old new before now

-- A printing over the journal that was opened ends so, and a journal that wasn't opened so.
abbrev pub SettledReport : ReportEnd → ℕ → Option (List ℕ) → Option (List ℕ) → ℕ → ℕ → Type 0
SettledReport (Opened end) status old new before now = SettledPrinting end status old new before now
SettledReport (Unopened why) status old new before now =
    SettledUnopened why status old new before now
