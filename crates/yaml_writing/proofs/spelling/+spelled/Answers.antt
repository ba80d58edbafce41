use Rattle.std.proofs.Common.{◌≡◌, List, [], ◌∷◌, map, take, refl, sym, ap, ◌∙◌}
use Rattle.std.proofs.lemmas.List.{take_all}
use Rattle.yaml_terms.specs.Tree.{trees}
use Rattle.yaml_terms.specs.Spelling.{fields_spelled, items_spelled}
use Rattle.yaml_terms.specs.NodeView.{node_view}
use Rattle.yaml_terms.specs.SpellingView.{fields_view, items_view, entries_view}
use Rattle.yaml_terms.specs.declared.ScalarText.{ScalarText}
use Rattle.yaml_terms.specs.declared.Node.{Node}
use Rattle.yaml_terms.specs.declared.FieldKey.{FieldKey}
use Rattle.yaml_terms.specs.declared.FieldKey.TheVariants.{Quoted as InQuotes}
use Rattle.yaml_terms.specs.declared.Spelling.{Spelling as Written}
use Rattle.yaml_writing.proofs.SpellingLemmas.{take_one, fields_more, items_more}
use Rattle.yaml_terms.proofs.Failures.{no_ok}
use Rattle.yaml_writing.proofs.spelling.+spelled.Goals as goal

pub spelled_fields-returns : goal.spelled_fields-returns
spelled_fields-returns t c = c.loop-entry.invariant
    ∙ ap (λ (es : List (ScalarText × Node)). fields_spelled (entries_view es))
    (take_all c.loop-entry.entry-index c.deref-entry-items.result.now c.loop-entry-test.false
    ∙ c.deref-entry-items.ensures.value)

pub spelled_items-returns : goal.spelled_items-returns
spelled_items-returns t c = c.loop-node.invariant
    ∙ ap (λ (xs : List Node). items_spelled (trees (map node_view xs)))
    (take_all c.loop-node.node-index c.deref-node-items.result.now c.loop-node-test.false
    ∙ c.deref-node-items.ensures.value)

pub spelled_fields-loop-entry-preserved : goal.spelled_fields-loop-entry-preserved
spelled_fields-loop-entry-preserved t c =
    let l = c.loop-entry in
    let xs = c.deref-entry-items.result.now in
    let e : ScalarText × Node = c.entry-item.result in
    let p : FieldKey × Written = (InQuotes c.in_ok-copy_text.field-0, c.in_ok-value.value) in
    let same : fields_view (p ∷ []) ≡ fields_spelled (entries_view (e ∷ [])) =
    rw (c.in_ok-copy_text.ensures, c.in_ok-value.ensures) refl in
    ap fields_view c.in_ok-push.ensures.items
    ∙ fields_more l.fields.items (take l.entry-index xs) p e l.invariant same
    ∙ ap (λ (es : List (ScalarText × Node)). fields_spelled (entries_view es))
    (sym (take_one xs l.entry-index e c.loop-entry-test.true c.entry-item.is))

pub spelled_items-loop-node-preserved : goal.spelled_items-loop-node-preserved
spelled_items-loop-node-preserved t c =
    let l = c.loop-node in
    let xs = c.deref-node-items.result.now in
    ap items_view c.in_ok-push.ensures.items ∙ items_more l.items.items (take l.node-index xs)
    c.in_ok-item.item c.node-item.result l.invariant c.in_ok-item.ensures
    ∙ ap (λ (ns : List Node). items_spelled (trees (map node_view ns)))
    (sym (take_one xs l.node-index c.node-item.result c.loop-node-test.true c.node-item.is))

pub spelled_fields-returns-in_err-fields : goal.spelled_fields-returns-in_err-fields
spelled_fields-returns-in_err-fields t c =
    no_ok _ _ c.from_residual.result c.from_residual.ensures.1

pub spelled_fields-returns-in_err-copy_text : goal.spelled_fields-returns-in_err-copy_text
spelled_fields-returns-in_err-copy_text t c =
    no_ok _ _ c.from_residual-in_err-copy_text.result c.from_residual-in_err-copy_text.ensures.1

pub spelled_fields-returns-in_err-value : goal.spelled_fields-returns-in_err-value
spelled_fields-returns-in_err-value t c =
    no_ok _ _ c.from_residual-in_err-value.result c.from_residual-in_err-value.ensures.1

pub spelled_fields-returns-in_err-push : goal.spelled_fields-returns-in_err-push
spelled_fields-returns-in_err-push t c =
    no_ok _ _ c.from_residual-in_err-push.result c.from_residual-in_err-push.ensures.1

pub spelled_items-returns-in_err-items : goal.spelled_items-returns-in_err-items
spelled_items-returns-in_err-items t c = no_ok _ _ c.from_residual.result c.from_residual.ensures.1

pub spelled_items-returns-in_err-item : goal.spelled_items-returns-in_err-item
spelled_items-returns-in_err-item t c =
    no_ok _ _ c.from_residual-in_err-item.result c.from_residual-in_err-item.ensures.1

pub spelled_items-returns-in_err-push : goal.spelled_items-returns-in_err-push
spelled_items-returns-in_err-push t c =
    no_ok _ _ c.from_residual-in_err-push.result c.from_residual-in_err-push.ensures.1
