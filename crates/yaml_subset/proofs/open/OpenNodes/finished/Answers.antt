use Rattle.std.proofs.Common.{List, map, sym, ap, ◌∙◌}
use Rattle.std.proofs.lemmas.Result.{IfOk-weaker}
use Rattle.yaml_terms.specs.Mark.{Child, start}
use Rattle.yaml_subset.proofs.FrameLemmas.{trees-map}
use Rattle.yaml_subset.proofs.open.OpenNodes.finished.Goals as goal

pub returns : goal.returns
returns c = IfOk-weaker c.all_documents.result _ _ (λ xs e. sym (trees-map start xs.items)
    ∙ ap (λ (cs : List Child). map (λ x. x.tree) cs) e) c.all_documents.ensures
