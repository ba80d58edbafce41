use Rattle.std.proofs.Common.{◌≡◌, [], ◌++◌, drop}
use Rattle.yaml_terms.specs.Spelling.{spaces, written_fields, written_items}
use Rattle.yaml_terms.specs.SpellingFits.{FitFields, FitItems}
use Rattle.yaml_terms.specs.SpellingView.{fields_view, items_view}
use Rattle.yaml_writing.proofs.write.+write.Given as goal

-- the text so far, and the fields that are left
abbrev pub invariant-write_fields-loop-field : goal.invariant-write_fields-loop-field
invariant-write_fields-loop-field l = record {
  text : l.out.items ++ written_fields (spaces l.lead)
      l.column (fields_view (drop l.field-index l.field-items)) ≡ l.initial.out.items
      ++ written_fields [] l.column (fields_view l.field-items);
  fits : FitFields l.levels (fields_view (drop l.field-index l.field-items));
}

abbrev pub invariant-write_items-loop-item : goal.invariant-write_items-loop-item
invariant-write_items-loop-item l = record {
  text : l.out.items ++ written_items (spaces l.lead)
      l.column (items_view (drop l.item-index l.item-items)) ≡ l.initial.out.items
      ++ written_items [] l.column (items_view l.item-items);
  fits : FitItems l.levels (items_view (drop l.item-index l.item-items));
}
