use Rattle.std.proofs.Common.{◌≡◌, [], drop, length}
use Rattle.yaml_terms.specs.Spelling.{spaces, written_fields, written_items}
use Rattle.yaml_terms.specs.SpellingFits.{FitFields, FitItems}
use Rattle.yaml_terms.specs.Room.{room_behind}
use Rattle.yaml_terms.specs.SpellingView.{fields_view, items_view}
use Rattle.yaml_writing.proofs.length.+length.Given as goal

-- the room so far, and the fields that are left
abbrev pub invariant-behind_fields-loop-field : goal.invariant-behind_fields-loop-field
invariant-behind_fields-loop-field l = record {
  room : room_behind l.left (length (written_fields (spaces l.lead) l.column
      (fields_view (drop l.field-index l.field-items)))) ≡ room_behind l.fn.room
      (length (written_fields [] l.column (fields_view l.field-items)));
  fits : FitFields l.levels (fields_view (drop l.field-index l.field-items));
}

abbrev pub invariant-behind_items-loop-item : goal.invariant-behind_items-loop-item
invariant-behind_items-loop-item l = record {
  room : room_behind l.left (length (written_items (spaces l.lead) l.column
      (items_view (drop l.item-index l.item-items)))) ≡ room_behind l.fn.room
      (length (written_items [] l.column (items_view l.item-items)));
  fits : FitItems l.levels (items_view (drop l.item-index l.item-items));
}
