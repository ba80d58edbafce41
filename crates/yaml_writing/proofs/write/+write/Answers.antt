use Rattle.std.proofs.Common.{rules, ◌≡◌, ℕ, ◌<◌, List, [], ◌++◌, length, vec_len, sym, ap, ◌∙◌}
use Rattle.std.proofs.Common.{arith}
use Rattle.std.specs.Prelude.{◌==◌}
use Rattle.std.proofs.lemmas.Bool.{eqb-true}
use Rattle.std.proofs.lemmas.Result.{on_ok_weaker}
use Rattle.yaml_terms.proofs.Failures.{no_on}
use Rattle.yaml_terms.specs.Spelling.{written, written_fields, written_items}
use Rattle.yaml_terms.specs.SpellingView.{spelling_view, fields_view, items_view}
use Rattle.yaml_terms.specs.declared.Spelling.{the_lemmas}
use Rattle.yaml_writing.proofs.SpellingLemmas.{view-Fields, view-Items}
use Rattle.yaml_writing.proofs.WriteLemmas.{column_below, field_written, fit_field, fit_item}
use Rattle.yaml_writing.proofs.WriteLemmas.{item_written, no_fields_left, no_items_left, two_deeper}
use Rattle.yaml_writing.proofs.WriteLemmas.{text-fields, text-items, text-no_items, some_there}
use Rattle.yaml_writing.proofs.write.+write.Goals as goal

pub write_value-returns-else-is_empty : goal.write_value-returns-else-is_empty
write_value-returns-else-is_empty t c =
    let v = c.in-Fields.fields in
    let count : vec_len v ≡ length v.items = omega (arith, v.ok.0) in
    let some : 0 < length v.items = some_there (length v.items) (ap (λ (n : ℕ). n == 0) (sym count)
    ∙ sym c.is_empty.ensures ∙ c.if-is_empty.false) in
    on_ok_weaker c.write_fields.result (λ e. e ∙ ap (λ (t : List ℕ). c.args.out.now.items ++ t)
    (sym (ap (written [] c.args.column) (ap spelling_view c.in-Fields.is ∙ view-Fields v)
    ∙ text-fields c.args.column v.items some))) c.write_fields.ensures

pub write_value-returns-then-is_empty-2 : goal.write_value-returns-then-is_empty-2
write_value-returns-then-is_empty-2 t c =
    let v = c.in-Items.items in
    let count : vec_len v ≡ length v.items = omega (arith, v.ok.0) in
    let none : length v.items ≡ 0 = sym count
    ∙ eqb-true (vec_len v) 0 (sym c.is_empty-in-Items.ensures ∙ c.if-is_empty-2.true) in
    on_ok_weaker c.write_line-then-is_empty-2.result
    (λ e. e ∙ ap (λ (t : List ℕ). c.args.out.now.items ++ t)
    (sym (ap (written [] c.args.column) (ap spelling_view c.in-Items.is ∙ view-Items v)
    ∙ text-no_items c.args.column v.items none))) c.write_line-then-is_empty-2.ensures

pub write_value-returns-else-is_empty-2 : goal.write_value-returns-else-is_empty-2
write_value-returns-else-is_empty-2 t c =
    let v = c.in-Items.items in
    let count : vec_len v ≡ length v.items = omega (arith, v.ok.0) in
    let some : 0 < length v.items = some_there (length v.items) (ap (λ (n : ℕ). n == 0) (sym count)
    ∙ sym c.is_empty-in-Items.ensures ∙ c.if-is_empty-2.false) in
    on_ok_weaker c.write_items.result (λ e. e ∙ ap (λ (t : List ℕ). c.args.out.now.items ++ t)
    (sym (ap (written [] c.args.column) (ap spelling_view c.in-Items.is ∙ view-Items v)
    ∙ text-items c.args.column v.items some))) c.write_items.ensures

pub write_fields-returns-in_err-write_spaces : goal.write_fields-returns-in_err-write_spaces
write_fields-returns-in_err-write_spaces t c =
    no_on _ _ c.from_residual.result c.from_residual.ensures.1

pub write_fields-returns-in_err-write_key : goal.write_fields-returns-in_err-write_key
write_fields-returns-in_err-write_key t c =
    no_on _ _ c.from_residual-in_err-write_key.result c.from_residual-in_err-write_key.ensures.1

pub write_fields-returns-in_err-push : goal.write_fields-returns-in_err-push
write_fields-returns-in_err-push t c =
    no_on _ _ c.from_residual-in_err-push.result c.from_residual-in_err-push.ensures.1

pub write_fields-returns-in_err-write_gap_at_colon :
    goal.write_fields-returns-in_err-write_gap_at_colon
write_fields-returns-in_err-write_gap_at_colon t c =
    no_on _ _ c.from_residual-in_err-write_gap_at_colon.result
    c.from_residual-in_err-write_gap_at_colon.ensures.1

pub write_fields-returns-in_err-write_value : goal.write_fields-returns-in_err-write_value
write_fields-returns-in_err-write_value t c =
    no_on _ _ c.from_residual-in_err-write_value.result c.from_residual-in_err-write_value.ensures.1

pub write_items-returns-in_err-write_spaces : goal.write_items-returns-in_err-write_spaces
write_items-returns-in_err-write_spaces t c =
    no_on _ _ c.from_residual.result c.from_residual.ensures.1

pub write_items-returns-in_err-push : goal.write_items-returns-in_err-push
write_items-returns-in_err-push t c =
    no_on _ _ c.from_residual-in_err-push.result c.from_residual-in_err-push.ensures.1

pub write_items-returns-in_err-write_gap_at_dash : goal.write_items-returns-in_err-write_gap_at_dash
write_items-returns-in_err-write_gap_at_dash t c =
    no_on _ _ c.from_residual-in_err-write_gap_at_dash.result
    c.from_residual-in_err-write_gap_at_dash.ensures.1

pub write_items-returns-in_err-write_value : goal.write_items-returns-in_err-write_value
write_items-returns-in_err-write_value t c =
    no_on _ _ c.from_residual-in_err-write_value.result c.from_residual-in_err-write_value.ensures.1

pub write_fields-write_gap_at_colon-requires : goal.write_fields-write_gap_at_colon-requires
write_fields-write_gap_at_colon-requires t c =
    column_below c.args.column c.args.levels c.requires.bounded

pub write_fields-loop-field-preserved : goal.write_fields-loop-field-preserved
write_fields-loop-field-preserved t c =
    let ps = c.deref-field-items.result.now in
    record {
      text = field_written c.loop-field.out.items c.write_spaces.new.out.items
          c.write_key.new.out.items c.push.new.self.items c.write_gap_at_colon.new.out.items
          c.write_value.new.out.items
          (c.args.out.now.items ++ written_fields [] c.args.column (fields_view ps))
          c.loop-field.lead c.args.column ps c.loop-field.field-index c.field-item.result
          c.loop-field-test.true c.field-item.is
          c.loop-field.invariant.text c.in_ok-write_spaces.ensures c.in_ok-write_key.ensures
          c.in_ok-push.ensures.items c.in_ok-write_gap_at_colon.ensures
          c.in_ok-write_value.ensures;
      fits = (fit_field c.args.levels ps c.loop-field.field-index c.field-item.result
          c.loop-field-test.true c.field-item.is c.loop-field.invariant.fits).1;
    }

pub write_fields-returns : goal.write_fields-returns
write_fields-returns t c =
    no_fields_left c.loop-field.out.items c.args.out.now.items c.loop-field.lead c.args.column
    c.deref-field-items.result.now c.args.fields.now.items c.loop-field.field-index
    c.loop-field-test.false c.deref-field-items.ensures.value c.loop-field.invariant.text

pub write_items-loop-item-preserved : goal.write_items-loop-item-preserved
write_items-loop-item-preserved t c =
    let ss = c.deref-item-items.result.now in
    record {
      text = item_written c.loop-item.out.items c.write_spaces.new.out.items c.push.new.self.items
          c.write_gap_at_dash.new.out.items c.write_value.new.out.items
          (c.args.out.now.items ++ written_items [] c.args.column (items_view ss)) c.loop-item.lead
          c.args.column ss c.loop-item.item-index c.item-item.result c.loop-item-test.true
          c.item-item.is
          c.loop-item.invariant.text c.in_ok-write_spaces.ensures c.in_ok-push.ensures.items
          c.in_ok-write_gap_at_dash.ensures c.in_ok-write_value.ensures;
      fits = (fit_item c.args.levels ss c.loop-item.item-index c.item-item.result
          c.loop-item-test.true c.item-item.is c.loop-item.invariant.fits).1;
    }

pub write_items-returns : goal.write_items-returns
write_items-returns t c = no_items_left c.loop-item.out.items c.args.out.now.items c.loop-item.lead
    c.args.column c.deref-item-items.result.now c.args.items.now.items c.loop-item.item-index
    c.loop-item-test.false c.deref-item-items.ensures.value c.loop-item.invariant.text

pub write_fields-write_value-requires : goal.write_fields-write_value-requires
write_fields-write_value-requires t c = (
  search (rules, the_lemmas),
  (
    two_deeper c.args.column c.args.levels c.requires.bounded,
    (fit_field c.args.levels c.deref-field-items.result.now c.loop-field.field-index
        c.field-item.result c.loop-field-test.true c.field-item.is c.loop-field.invariant.fits).0,
  ),
)

pub write_items-write_value-requires : goal.write_items-write_value-requires
write_items-write_value-requires t c = (
  search (rules, the_lemmas),
  (
    two_deeper c.args.column c.args.levels c.requires.bounded,
    (fit_item c.args.levels c.deref-item-items.result.now c.loop-item.item-index c.item-item.result
        c.loop-item-test.true c.item-item.is c.loop-item.invariant.fits).0,
  ),
)
