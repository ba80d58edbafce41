use Rattle.std.proofs.Common.{◌≡◌, ℕ, length, vec_len, sym, ap, ◌∙◌, arith}
use Rattle.std.specs.Prelude.{◌==◌, not}
use Rattle.yaml_terms.specs.SpellingView.{has_lines, spelling_view}
use Rattle.yaml_writing.proofs.SpellingLemmas.{view-Fields, view-Items}
use Rattle.yaml_writing.proofs.WriteLemmas.{lines-fields, lines-items}
use Rattle.yaml_writing.proofs.write.has_lines.Goals as goal

pub returns-in-Fields : goal.returns-in-Fields
returns-in-Fields c =
    let v = c.in-Fields.fields in
    let count : vec_len v ≡ length v.items = omega (arith, v.ok.0) in
    ap not (c.is_empty.ensures ∙ ap (λ (n : ℕ). n == 0) count) ∙ sym
    (ap has_lines (ap spelling_view c.in-Fields.is ∙ view-Fields v) ∙ lines-fields v.items)

pub returns-in-Items : goal.returns-in-Items
returns-in-Items c =
    let v = c.in-Items.items in
    let count : vec_len v ≡ length v.items = omega (arith, v.ok.0) in
    ap not (c.is_empty-in-Items.ensures ∙ ap (λ (n : ℕ). n == 0) count)
    ∙ sym (ap has_lines (ap spelling_view c.in-Items.is ∙ view-Items v) ∙ lines-items v.items)
