-- What the statuses of `export` say.
use Rattle.std.proofs.Common.{◌≡◌, ℕ, List, arith, inl, inr}
use Rattle.std.specs.Prelude.{Option, Some, Ok, Err}
use Rattle.office_outside.specs.Senses.{DiskSenses}
use Rattle.object_terms.specs.declared.Kind.{Kind}
use Rattle.office_export.specs.declared.ExportFault.TheVariants as faults
use Rattle.office_keep.specs.Opening.{IsBad}
use Rattle.journal_commands.specs.Exporting.{EndsExporting, IsTooLarge, IsWritten}
use Rattle.journal_commands.specs.Reporting.{OpensTo}
use Rattle.journal_commands.specs.declared.ExportEnd.{ExportEnd}
use Rattle.journal_commands.specs.declared.ExportEnd.TheVariants.{Opened, Unopened}
use Rattle.office_run.specs.Export.{SettledExport}
use Rattle.office_run.specs.declared.ending.TheConstants.{BAD_FILE, DONE, REFUSED}
use Rattle.office_run.proofs.StatusLemmas.{unopened_bad, unopened_not_done, unopened_not_refused}

module _ {D : Type 0} (S : DiskSenses D) (part status : ℕ)
    (said said_after : Option (List ℕ)) (told told_after : ℕ)
    (held held_after : Option (List ℕ)) (disk back : D) where
  pub export_bad : (end : ExportEnd) → SettledExport end status said said_after told told_after
      → EndsExporting S part end held held_after disk back → status ≡ BAD_FILE
      → (file : List ℕ) → S.content disk ≡ Some file → IsBad file
  export_bad (Opened (Ok done)) s ends e file read = absurd (omega (arith, s.0, e))
  export_bad (Opened (Err (faults.ObjectTooLarge kind name))) (inl s) ends e file read =
      absurd (omega (arith, s.0, e))
  export_bad (Opened (Err (faults.ObjectTooLarge kind name))) (inr s) ends e file read =
      absurd (omega (arith, s.0, e))
  export_bad (Opened (Err faults.WriteFault)) s ends e file read = absurd (omega (arith, s.0, e))
  export_bad (Opened (Err faults.NoMemory)) s ends e file read = absurd (omega (arith, s.0, e))
  export_bad (Unopened why) s ends e file read =
      unopened_bad status said said_after told told_after S disk why s ends.0 e file read

  pub export_refused : (end : ExportEnd)
      → SettledExport end status said said_after told told_after
      → EndsExporting S part end held held_after disk back → status ≡ REFUSED
      → (kind : Kind) × (name : List ℕ)
      × OpensTo S (IsTooLarge kind name held held_after) disk back
  export_refused (Opened (Ok done)) s ends e = absurd (omega (arith, s.0, e))
  export_refused (Opened (Err (faults.ObjectTooLarge kind name))) s ends e = (kind, name, ends)
  export_refused (Opened (Err faults.WriteFault)) s ends e = absurd (omega (arith, s.0, e))
  export_refused (Opened (Err faults.NoMemory)) s ends e = absurd (omega (arith, s.0, e))
  export_refused (Unopened why) s ends e =
      absurd (unopened_not_refused status said said_after told told_after why s e)

  pub export_done : (end : ExportEnd)
      → SettledExport end status said said_after told told_after
      → EndsExporting S part end held held_after disk back → status ≡ DONE
      → OpensTo S (IsWritten part held held_after) disk back
  export_done (Opened (Ok done)) s ends e = ends
  export_done (Opened (Err (faults.ObjectTooLarge kind name))) (inl s) ends e =
      absurd (omega (arith, s.0, e))
  export_done (Opened (Err (faults.ObjectTooLarge kind name))) (inr s) ends e =
      absurd (omega (arith, s.0, e))
  export_done (Opened (Err faults.WriteFault)) s ends e = absurd (omega (arith, s.0, e))
  export_done (Opened (Err faults.NoMemory)) s ends e = absurd (omega (arith, s.0, e))
  export_done (Unopened why) s ends e =
      absurd (unopened_not_done status said said_after told told_after why s e)
