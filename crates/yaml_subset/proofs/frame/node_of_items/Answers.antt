use Rattle.std.proofs.Common.{sym, ◌∙◌}
use Rattle.yaml_subset.proofs.FrameLemmas.{collection-items}
use Rattle.yaml_terms.proofs.NodeLemmas.{view-List}
use Rattle.yaml_subset.proofs.frame.node_of_items.Goals as goal

pub returns : goal.returns
returns c = view-List c.args.items ∙ sym (collection-items c.args.column c.args.items.items)
