use Rattle.std.proofs.Common.{sym, ◌∙◌}
use Rattle.yaml_subset.proofs.FrameLemmas.{collection-map}
use Rattle.yaml_terms.proofs.NodeLemmas.{view-Map}
use Rattle.yaml_subset.proofs.frame.node_of_entries.Goals as goal

pub returns : goal.returns
returns c =
    view-Map c.args.pairs ∙ sym (collection-map c.args.column c.args.pairs.items c.requires)
