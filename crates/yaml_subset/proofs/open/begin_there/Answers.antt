use Rattle.std.proofs.Common.{◌≡◌, ◌-◌, false, length, sym, ap, subst}
use Rattle.std.specs.Prelude.{is_none}
use Rattle.std.specs.Result.{IfOk}
use Rattle.std.proofs.lemmas.Result.{IfOk-weaker}
use Rattle.yaml_terms.specs.Mark.{Mark, key}
use Rattle.yaml_terms.specs.Profile.{max_depth}
use Rattle.yaml_terms.specs.OpenNodes.{begun_node}
use Rattle.yaml_terms.proofs.Failures.{no_ok}
use Rattle.yaml_lines.specs.LineView.{mark_view}
use Rattle.yaml_subset.specs.OpenView.{BeginsAs, nodes_open}
use Rattle.yaml_subset.proofs.OpenViewLemmas.{begun_map}
use Rattle.yaml_subset.proofs.open.begin_there.Goals as goal

pub returns-in_err-frame-in-Key : goal.returns-in_err-frame-in-Key
returns-in_err-frame-in-Key c = no_ok _ _ c.from_residual.result c.from_residual.ensures.1

pub returns-in_ok-frame-in-Key : goal.returns-in_ok-frame-in-Key
returns-in_ok-frame-in-Key c =
    let docs = c.args.documents.items in
    let fs = c.args.frames.items in
    let d = max_depth - length fs in
    let f = c.in_ok-frame-in-Key.frame in
    let is_key : mark_view c.args.mark ≡ key c.in-Key.column c.in-Key.key =
    ap mark_view c.in-Key.is in
    let some : is_none (begun_node d (key c.in-Key.column c.in-Key.key)) ≡ false =
    subst (λ (m : Mark). is_none (begun_node d m) ≡ false) is_key c.requires in
    subst (λ (m : Mark). IfOk c.with_frame-in-Key.result
    (λ o. BeginsAs docs fs (begun_node d m) (nodes_open o))) (sym is_key)
    (IfOk-weaker c.with_frame-in-Key.result _ _
    (λ o is. begun_map docs fs d c.in-Key.column c.in-Key.key f (nodes_open o) some
    c.in_ok-frame-in-Key.ensures.head c.in_ok-frame-in-Key.ensures.done is)
    c.with_frame-in-Key.ensures)
