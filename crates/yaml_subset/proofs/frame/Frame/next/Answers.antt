use Rattle.std.proofs.Common.{ap, option_map}
use Rattle.std.proofs.lemmas.Result.{IfOk-weaker}
use Rattle.yaml_terms.specs.NodeView.{node_view}
use Rattle.yaml_terms.proofs.Failures.{no_ok}
use Rattle.yaml_lines.specs.LineView.{mark_view}
use Rattle.yaml_subset.proofs.OpenViewLemmas.{goes_at_column, list_goes}
use Rattle.yaml_subset.proofs.frame.Frame.next.Goals as goal

pub returns-in-Key : goal.returns-in-Key
returns-in-Key c = IfOk-weaker c.next_entry.result _ _
    (λ o goes. goes_at_column _ _ _ _ c.args.self (mark_view c.args.mark)
    (option_map node_view c.args.value) o c.in-Map.is (ap mark_view c.in-Key.is) c.requires goes)
    c.next_entry.ensures

pub returns-in_ok-items-in-List : goal.returns-in_ok-items-in-List
returns-in_ok-items-in-List c =
    list_goes c.in-List.column c.in-List.items c.in_ok-items-in-List.items c.args.self
    (mark_view c.args.mark) (option_map node_view c.args.value) c.in-List.is c.requires
    c.in_ok-items-in-List.ensures

pub returns-in_err-items-in-List : goal.returns-in_err-items-in-List
returns-in_err-items-in-List c = no_ok _ _ c.from_residual.result c.from_residual.ensures.1
