use Rattle.std.proofs.Common.{◌≡◌, drop}
use Rattle.object_terms.specs.Form.{written_items}
use Rattle.object_terms.specs.Inline.{reference_written}
use Rattle.object_writing.specs.Adding.{items_before}
use Rattle.object_writing.proofs.writing.alerts.references.Given as goal

abbrev pub invariant-loop-name : goal.invariant-loop-name
invariant-loop-name l =
    items_before l.items.items (written_items (reference_written l.key) (drop l.name-index l.names))
    ≡ written_items (reference_written l.key) l.names
