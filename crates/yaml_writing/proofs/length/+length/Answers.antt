use Rattle.std.proofs.Common.{rules, ◌≡◌, ℕ, ◌<◌, List, [], length, vec_len, sym, ap, ◌∙◌, arith}
use Rattle.std.specs.Prelude.{◌==◌, not}
use Rattle.std.proofs.lemmas.Bool.{eqb-true}
use Rattle.yaml_terms.specs.Spelling.{written, written_fields, written_items}
use Rattle.yaml_terms.specs.Room.{room_behind}
use Rattle.yaml_terms.specs.SpellingView.{spelling_view, fields_view, items_view}
use Rattle.yaml_terms.specs.declared.FieldKey.{FieldKey}
use Rattle.yaml_terms.specs.declared.Spelling.{Spelling as Written, the_lemmas}
use Rattle.yaml_writing.proofs.SpellingLemmas.{view-Word, view-Quoted, view-Fields, view-Items}
use Rattle.yaml_writing.proofs.WriteLemmas.{text-fields, text-no_fields, text-items, text-no_items}
use Rattle.yaml_writing.proofs.WriteLemmas.{some_there, fit_field, fit_item, column_below}
use Rattle.yaml_writing.proofs.WriteLemmas.{two_deeper}
use Rattle.yaml_writing.proofs.RoomLemmas.{word_room, quoted_room, field_room, item_room}
use Rattle.yaml_writing.proofs.RoomLemmas.{none_left, no_fields_more, no_items_more}
use Rattle.yaml_writing.proofs.length.+length.Goals as goal

pub behind_value-returns-in-Word : goal.behind_value-returns-in-Word
behind_value-returns-in-Word t c = word_room c.args.room c.behind.result c.behind-in-Word.result
    c.as_bytes.result.now c.in-Word.text (spelling_view c.args.value.now) c.args.column
    c.as_bytes.ensures (ap spelling_view c.in-Word.is ∙ view-Word c.in-Word.text) c.behind.ensures
    c.behind-in-Word.ensures

pub behind_value-returns-in-Quoted : goal.behind_value-returns-in-Quoted
behind_value-returns-in-Quoted t c = quoted_room c.args.room c.behind_quoted.result
    c.behind-in-Quoted.result c.as_bytes-in-Quoted.result.now c.in-Quoted.text
    (spelling_view c.args.value.now) c.args.column c.as_bytes-in-Quoted.ensures
    (ap spelling_view c.in-Quoted.is ∙ view-Quoted c.in-Quoted.text) c.behind_quoted.ensures
    c.behind-in-Quoted.ensures

pub behind_value-returns-then-is_empty : goal.behind_value-returns-then-is_empty
behind_value-returns-then-is_empty t c =
    let v = c.in-Fields.fields in
    let count : vec_len v ≡ length v.items = omega (arith, v.ok.0) in
    let none : length v.items ≡ 0 =
    sym count ∙ eqb-true (vec_len v) 0 (sym c.is_empty.ensures ∙ c.if-is_empty.true) in
    c.behind-then-is_empty.ensures ∙ ap (λ (t : List ℕ). room_behind c.args.room (length t))
    (sym (ap (written [] c.args.column) (ap spelling_view c.in-Fields.is ∙ view-Fields v)
    ∙ text-no_fields c.args.column v.items none))

pub behind_value-returns-else-is_empty : goal.behind_value-returns-else-is_empty
behind_value-returns-else-is_empty t c =
    let v = c.in-Fields.fields in
    let count : vec_len v ≡ length v.items = omega (arith, v.ok.0) in
    let some : 0 < length v.items = some_there (length v.items) (ap (λ (n : ℕ). n == 0) (sym count)
    ∙ sym c.is_empty.ensures ∙ c.if-is_empty.false) in
    c.behind_fields.ensures ∙ ap (λ (t : List ℕ). room_behind c.args.room (length t))
    (sym (ap (written [] c.args.column) (ap spelling_view c.in-Fields.is ∙ view-Fields v)
    ∙ text-fields c.args.column v.items some))

pub behind_value-returns-then-is_empty-2 : goal.behind_value-returns-then-is_empty-2
behind_value-returns-then-is_empty-2 t c =
    let v = c.in-Items.items in
    let count : vec_len v ≡ length v.items = omega (arith, v.ok.0) in
    let none : length v.items ≡ 0 = sym count
    ∙ eqb-true (vec_len v) 0 (sym c.is_empty-in-Items.ensures ∙ c.if-is_empty-2.true) in
    c.behind-then-is_empty-2.ensures ∙ ap (λ (t : List ℕ). room_behind c.args.room (length t))
    (sym (ap (written [] c.args.column) (ap spelling_view c.in-Items.is ∙ view-Items v)
    ∙ text-no_items c.args.column v.items none))

pub behind_value-returns-else-is_empty-2 : goal.behind_value-returns-else-is_empty-2
behind_value-returns-else-is_empty-2 t c =
    let v = c.in-Items.items in
    let count : vec_len v ≡ length v.items = omega (arith, v.ok.0) in
    let some : 0 < length v.items = some_there (length v.items) (ap (λ (n : ℕ). n == 0) (sym count)
    ∙ sym c.is_empty-in-Items.ensures ∙ c.if-is_empty-2.false) in
    c.behind_items.ensures ∙ ap (λ (t : List ℕ). room_behind c.args.room (length t))
    (sym (ap (written [] c.args.column) (ap spelling_view c.in-Items.is ∙ view-Items v)
    ∙ text-items c.args.column v.items some))

pub behind_fields-returns-then-is_none : goal.behind_fields-returns-then-is_none
behind_fields-returns-then-is_none t c =
    none_left c.loop-field.left _ _ (c.is_none.ensures ∙ ap not c.if-is_none.true)
    c.loop-field.invariant.room
    ∙ ap (λ (l : List (FieldKey × Written)). room_behind c.args.room
    (length (written_fields [] c.args.column (fields_view l))))
    c.deref-field-items.ensures.value

pub behind_items-returns-then-is_none : goal.behind_items-returns-then-is_none
behind_items-returns-then-is_none t c =
    none_left c.loop-item.left _ _ (c.is_none.ensures ∙ ap not c.if-is_none.true)
    c.loop-item.invariant.room
    ∙ ap (λ (l : List Written). room_behind c.args.room
    (length (written_items [] c.args.column (items_view l)))) c.deref-item-items.ensures.value

pub behind_fields-loop-field-preserved : goal.behind_fields-loop-field-preserved
behind_fields-loop-field-preserved t c =
    let ps = c.deref-field-items.result.now in
    record {
      room = field_room c.loop-field.left c.behind.result c.behind_key-left.result
          c.behind-in-loop-field.result c.behind-left.result c.behind_value-left.result
          (room_behind c.args.room (length (written_fields [] c.args.column (fields_view ps))))
          c.loop-field.lead c.args.column c.gap_behind_colon.result ps c.loop-field.field-index
          c.field-item.result c.loop-field-test.true c.field-item.is c.loop-field.invariant.room
          c.behind.ensures c.behind_key-left.ensures c.behind-in-loop-field.ensures
          c.gap_behind_colon.ensures c.behind-left.ensures c.behind_value-left.ensures;
      fits = (fit_field c.args.levels ps c.loop-field.field-index c.field-item.result
          c.loop-field-test.true c.field-item.is c.loop-field.invariant.fits).1;
    }

pub behind_items-loop-item-preserved : goal.behind_items-loop-item-preserved
behind_items-loop-item-preserved t c =
    let ss = c.deref-item-items.result.now in
    record {
      room = item_room c.loop-item.left c.behind.result c.behind-left.result
          c.behind-left-in-loop-item.result c.behind_value-left.result
          (room_behind c.args.room (length (written_items [] c.args.column (items_view ss))))
          c.loop-item.lead c.args.column c.gap_behind_dash.result ss c.loop-item.item-index
          c.item-item.result c.loop-item-test.true c.item-item.is c.loop-item.invariant.room
          c.behind.ensures c.behind-left.ensures c.gap_behind_dash.ensures
          c.behind-left-in-loop-item.ensures c.behind_value-left.ensures;
      fits = (fit_item c.args.levels ss c.loop-item.item-index c.item-item.result
          c.loop-item-test.true c.item-item.is c.loop-item.invariant.fits).1;
    }

pub behind_fields-returns : goal.behind_fields-returns
behind_fields-returns t c =
    no_fields_more c.loop-field.left _ c.loop-field.lead c.args.column
    c.deref-field-items.result.now c.loop-field.field-index c.loop-field-test.false
    c.loop-field.invariant.room
    ∙ ap (λ (l : List (FieldKey × Written)). room_behind c.args.room
    (length (written_fields [] c.args.column (fields_view l))))
    c.deref-field-items.ensures.value

pub behind_items-returns : goal.behind_items-returns
behind_items-returns t c =
    no_items_more c.loop-item.left _ c.loop-item.lead c.args.column
    c.deref-item-items.result.now c.loop-item.item-index c.loop-item-test.false
    c.loop-item.invariant.room
    ∙ ap (λ (l : List Written). room_behind c.args.room
    (length (written_items [] c.args.column (items_view l)))) c.deref-item-items.ensures.value

pub behind_fields-gap_behind_colon-requires : goal.behind_fields-gap_behind_colon-requires
behind_fields-gap_behind_colon-requires t c =
    column_below c.args.column c.args.levels c.requires.bounded

pub behind_fields-behind_value-left-requires : goal.behind_fields-behind_value-left-requires
behind_fields-behind_value-left-requires t c = (
  search (rules, the_lemmas),
  (
    two_deeper c.args.column c.args.levels c.requires.bounded,
    (fit_field c.args.levels c.deref-field-items.result.now c.loop-field.field-index
        c.field-item.result c.loop-field-test.true c.field-item.is c.loop-field.invariant.fits).0,
  ),
)

pub behind_items-behind_value-left-requires : goal.behind_items-behind_value-left-requires
behind_items-behind_value-left-requires t c = (
  search (rules, the_lemmas),
  (
    two_deeper c.args.column c.args.levels c.requires.bounded,
    (fit_item c.args.levels c.deref-item-items.result.now c.loop-item.item-index c.item-item.result
        c.loop-item-test.true c.item-item.is c.loop-item.invariant.fits).0,
  ),
)
