use Rattle.std.proofs.Common.{List, map, sym, ap, ◌∙◌}
use Rattle.yaml_terms.specs.Mark.{start}
use Rattle.yaml_terms.specs.OpenNodes.{nothing, within}
use Rattle.yaml_subset.specs.OpenView.{stream_of, child}
use Rattle.yaml_subset.specs.declared.frame.Frame.{Frame}
use Rattle.yaml_subset.proofs.OpenViewLemmas.{open_of_push}
use Rattle.yaml_subset.proofs.open.with_frame.Goals as goal

pub returns : goal.returns
returns c =
    ap (λ (fs : List Frame). stream_of c.args.documents.items fs nothing) c.in_ok-push.ensures.items
    ∙ ap (within start (map (child start) c.args.documents.items))
    (sym (open_of_push c.args.frames.items c.args.frame nothing))
