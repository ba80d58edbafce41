-- What the export of a part over a journal's file does.
use Rattle.std.specs.Prelude.{◌≡◌, ℕ, List, Option, None, Some}
use Rattle.office_outside.specs.Disk.{IsQuiet}
use Rattle.office_outside.specs.Senses.{DiskSenses}
use Rattle.office_outside.specs.Told.{Gained}
use Rattle.object_terms.specs.declared.Kind.{Kind}
use Rattle.office_history.specs.Catalog.{catalog_in}
use Rattle.office_history.specs.History.{Office}
use Rattle.export_terms.specs.Sizes.{first_too_large}
use Rattle.office_export.specs.Export.{Exports, part_text}
use Rattle.office_keep.specs.Opening.{IsFoundOn}
use Rattle.journal_commands.specs.Reporting.{OpensTo}
use Rattle.journal_commands.specs.declared.exporting.ExportEnd.{ExportEnd}
use Rattle.journal_commands.specs.declared.exporting.ExportEnd.TheVariants.{Opened, Unopened}

-- What each end says. Where the file wasn't opened, the output gained nothing.
abbrev pub EndsExporting : {D : Type 0} → DiskSenses D → ℕ → ExportEnd → Option (List ℕ)
    → Option (List ℕ) → D → D → Type 0
EndsExporting S part (Opened end) old new disk back =
    OpensTo S (λ o. Exports o part end old new) disk back
EndsExporting S part (Unopened why) old new disk back = IsFoundOn S why disk × (new ≡ old)

-- no object of this office is too large, and the output gained just the requests of the part
abbrev pub IsWritten : ℕ → Option (List ℕ) → Option (List ℕ) → Office → Type 0
IsWritten part old new o =
    (first_too_large (catalog_in o.history) ≡ None) × Gained (part_text part o) old new

-- this is the first object of this office that is too large, and the output gained nothing
abbrev pub IsTooLarge : Kind → List ℕ → Option (List ℕ) → Option (List ℕ) → Office → Type 0
IsTooLarge kind name old new o =
    (first_too_large (catalog_in o.history) ≡ Some (kind, name)) × (new ≡ old)

-- A part is exported, or not: by how it ended this is so.
pub record ExportsFrom {D : Type 0} (S : DiskSenses D) (part : ℕ) (end : ExportEnd)
    (old new : Option (List ℕ)) (disk back : D) : Type 0 where
  pub ends : EndsExporting S part end old new disk back
  -- no image came up, however it ended
  pub quiet : IsQuiet S disk back
