-- How `export` ends, in statuses and lines.
use Rattle.std.specs.Prelude.{◌≡◌, ◌⊎◌, ◌++◌, ℕ, List, Option, Result, Ok, Err, codes}
use Rattle.object_terms.specs.Scalars.{kind_word}
use Rattle.object_terms.specs.declared.Kind.{Kind}
use Rattle.office_export.specs.declared.ExportFault.{ExportFault}
use Rattle.office_export.specs.declared.ExportFault.TheVariants as faults
use Rattle.journal_commands.specs.declared.ExportEnd.{ExportEnd}
use Rattle.journal_commands.specs.declared.ExportEnd.TheVariants.{Opened, Unopened}
use Rattle.office_run.specs.Runs.{EndsSaying, EndsWith}
use Rattle.office_run.specs.Unopened.{SettledUnopened}
use Rattle.office_run.specs.declared.ending.TheConstants as statuses

-- The line for an object that is too large for a request.
abbrev pub too_large_line : Kind → List ℕ → List ℕ
too_large_line kind name =
    codes "slo_office: object too large " ++ (kind_word kind ++ (codes " " ++ (name ++ codes "\n")))

-- The faults sink tells which object is too large; where the line can't be made for want of memory,
-- that is the ending.
abbrev pub SettledTooLarge : Kind → List ℕ → ℕ → Option (List ℕ) → Option (List ℕ) → ℕ → ℕ → Type 0
SettledTooLarge kind name status old new before now =
    EndsSaying statuses.REFUSED (too_large_line kind name) status old new before now
    ⊎ EndsWith statuses.NO_MEMORY status old new before now

-- Each fault of a part has its status, and the faults sink tells its line.
abbrev pub SettledFault : ExportFault → ℕ → Option (List ℕ) → Option (List ℕ) → ℕ → ℕ → Type 0
SettledFault (faults.ObjectTooLarge kind name) status old new before now =
    SettledTooLarge kind name status old new before now
SettledFault faults.WriteFault status old new before now =
    EndsWith statuses.WRITE_FAULT status old new before now
SettledFault faults.NoMemory status old new before now =
    EndsWith statuses.NO_MEMORY status old new before now

-- A part that was written tells nothing, and one that wasn't its fault.
abbrev pub SettledPart : {T : Type 0} → Result T ExportFault → ℕ → Option (List ℕ)
    → Option (List ℕ) → ℕ → ℕ → Type 0
SettledPart (Ok done) status old new before now = (status ≡ statuses.DONE) × (new ≡ old)
SettledPart (Err fault) status old new before now = SettledFault fault status old new before now

-- An export over the journal that was opened ends so, and a journal that wasn't opened so.
abbrev pub SettledExport : ExportEnd → ℕ → Option (List ℕ) → Option (List ℕ) → ℕ → ℕ → Type 0
SettledExport (Opened end) status old new before now = SettledPart end status old new before now
SettledExport (Unopened why) status old new before now =
    SettledUnopened why status old new before now
