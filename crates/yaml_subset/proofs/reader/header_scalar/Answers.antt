use Rattle.std.proofs.Common.{◌≡◌, ℕ, ◌-◌, ◌<◌, Option, length, take, get_or, map, sym, ap, ◌∙◌}
use Rattle.std.proofs.Common.{rules}
use Rattle.yaml_terms.specs.Text.{parent_after}
use Rattle.yaml_subset.specs.Reader.{header_folds, scalar_behind}
use Rattle.yaml_lines.specs.LineView.{mark_view}
use Rattle.yaml_lines.specs.declared.Mark.{Mark}
use Rattle.yaml_subset.proofs.ReaderLemmas.{header_last}
use Rattle.yaml_subset.proofs.reader.header_scalar.Goals as goal

pub returns : goal.returns
returns c =
    let ms = c.args.marks.now in
    let d = c.index-marks-last.result in
    let some : 0 < length ms = search rules in
    let column : c.parent_after-column.result
    ≡ parent_after c.args.parent (map mark_view (take (length ms - 1) ms)) = search rules in
    let folds : c.header_style-folds.result
    ≡ header_folds (mark_view (get_or ms (length ms - 1) d)) = c.header_style-folds.ensures
    ∙ ap (λ (m : Mark). header_folds (mark_view m)) c.index-marks-last.is in
    c.scalar_behind.ensures
    ∙ ap (λ (p : Option ℕ). scalar_behind p c.header_style-folds.result) column
    ∙ ap (scalar_behind (parent_after c.args.parent (map mark_view (take (length ms - 1) ms))))
    folds ∙ sym (header_last c.args.parent ms d some)
