-- What is heard in the requests of changes, and in those of an export.
use Rattle.std.specs.Prelude.{◌≡◌, ℕ, List, ◌++◌, None, length, take}
use Rattle.std.specs.List.{AllByRecursion, flat_map}
use Rattle.message_heads.specs.Streams.{AreMessages, Said}
use Rattle.record_form.specs.declared.Command.{Command}
use Rattle.record_form.specs.Ranges.{Fits, FitsRecord}
use Rattle.office_history.specs.Catalog.{catalog_in}
use Rattle.office_history.specs.History.{Office}
use Rattle.export_terms.specs.Moves.{moves}
use Rattle.export_terms.specs.Parts.{part_of}
use Rattle.export_terms.specs.Sizes.{first_too_large}
use Rattle.export_terms.specs.Texts.{text_of}
use Rattle.export_heard.specs.Heard.{AreHeardAs, AreRequestsOf}

-- changes that have records, written one behind another, are heard as themselves
abbrev pub ChangesAreHeard : Type 0
ChangesAreHeard = (changes : List Command) → AllByRecursion Fits changes
    → AreHeardAs (flat_map text_of changes) changes

-- however many of such bytes were taken so far, the messages heard in them are the requests of the
-- first changes
abbrev pub NothingElseIsHeard : Type 0
NothingElseIsHeard = (taken left : List ℕ) (changes : List Command)
    → AreHeardAs (taken ++ left) changes → (saids : List Said) (rest : List ℕ)
    → AreMessages taken saids rest → AreRequestsOf saids (take (length saids) changes)

-- Where each entry of an office has a record, as those of a journal have, and no object is too
-- large for a request, the bytes of each part of its export are heard as the requests of the part.
abbrev pub PartsAreHeard : Type 0
PartsAreHeard = (o : Office) (part : ℕ) → AllByRecursion FitsRecord o.history
    → first_too_large (catalog_in o.history) ≡ None
    → AreHeardAs (flat_map text_of (part_of part (moves o))) (part_of part (moves o))
