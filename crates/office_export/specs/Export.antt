-- What an export writes.
use Rattle.std.specs.Prelude.{◌≡◌, ℕ, List, Option, Some, None, Result, Ok, Err}
use Rattle.std.specs.List.{flat_map}
use Rattle.office_outside.specs.Told.{Gained, GainedPrefix}
use Rattle.office_history.specs.Catalog.{catalog_in}
use Rattle.office_history.specs.History.{Office}
use Rattle.export_terms.specs.Moves.{moves}
use Rattle.export_terms.specs.Parts.{part_of}
use Rattle.export_terms.specs.Sizes.{first_too_large}
use Rattle.export_terms.specs.Texts.{text_of}
use Rattle.office_export.specs.declared.exporting.ExportFault.{ExportFault}
use Rattle.office_export.specs.declared.exporting.ExportFault.TheVariants.{ObjectTooLarge}
use Rattle.office_export.specs.declared.exporting.ExportFault.TheVariants.{WriteFault, NoMemory}

-- the bytes of a part, counted from 1
abbrev pub part_text : ℕ → Office → List ℕ
part_text part o = flat_map text_of (part_of part (moves o))

-- What each end says of the sink: it gained all of the part, or a prefix of it. Where an object is
-- too large for a request, no part is written: the end names the first in the order of the
-- requests.
abbrev pub Exports : {T : Type 0} → Office → ℕ → Result T ExportFault → Option (List ℕ)
    → Option (List ℕ) → Type 0
Exports o part (Ok done) old new =
    (first_too_large (catalog_in o.history) ≡ None) × Gained (part_text part o) old new
Exports o part (Err (ObjectTooLarge kind name)) old new =
    (first_too_large (catalog_in o.history) ≡ Some (kind, name)) × (new ≡ old)
Exports o part (Err WriteFault) old new = GainedPrefix (part_text part o) old new
Exports o part (Err NoMemory) old new = GainedPrefix (part_text part o) old new
