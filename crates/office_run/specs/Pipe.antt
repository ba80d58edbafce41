-- How `pipe` ends, in statuses and lines.
use Rattle.std.specs.Prelude.{◌≡◌, ℕ, List, Option, codes}
use Rattle.message_session.specs.declared.SessionEnd.{SessionEnd}
use Rattle.message_session.specs.declared.SessionEnd.TheVariants as session
use Rattle.journal_commands.specs.declared.PipeEnd.{PipeEnd}
use Rattle.journal_commands.specs.declared.PipeEnd.TheVariants.{Served, Unopened}
use Rattle.office_run.specs.Runs.{EndsSaying, EndsWith}
use Rattle.office_run.specs.Unopened.{SettledUnopened}
use Rattle.office_run.specs.declared.ending.TheConstants as statuses

-- Each end of a session has its status, and the faults sink tells its line; where it is done, it
-- tells nothing.
abbrev pub SettledSession : SessionEnd → ℕ → Option (List ℕ) → Option (List ℕ) → ℕ → ℕ → Type 0
SettledSession session.Done status old new before now = (status ≡ statuses.DONE) × (new ≡ old)
SettledSession session.Cut status old new before now =
    EndsSaying statuses.REFUSED (codes "slo_office: cut\n") status old new before now
SettledSession session.ReadFault status old new before now =
    EndsWith statuses.READ_FAULT status old new before now
SettledSession session.WriteFault status old new before now =
    EndsWith statuses.WRITE_FAULT status old new before now
SettledSession session.NoMemory status old new before now =
    EndsWith statuses.NO_MEMORY status old new before now

-- A session that was served ends so, and a journal that wasn't opened so.
abbrev pub SettledPipe : PipeEnd → ℕ → Option (List ℕ) → Option (List ℕ) → ℕ → ℕ → Type 0
SettledPipe (Served end) status old new before now = SettledSession end status old new before now
SettledPipe (Unopened why) status old new before now =
    SettledUnopened why status old new before now
