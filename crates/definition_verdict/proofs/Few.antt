-- A text's lines and documents are so few that 32 bits count them.
use Rattle.std.proofs.Common.{ℕ, ◌<◌, ◌^◌, List, length, arith}
use Rattle.std.proofs.lemmas.List.{length-map}
use Rattle.yaml_terms.specs.NodeView.{node_view, nodes_view}
use Rattle.yaml_terms.specs.NamedFault.{NamesFault}
use Rattle.yaml_terms.specs.Text.{StandsFor}
use Rattle.yaml_terms.specs.declared.Node.{Node}
use Rattle.yaml_terms.specs.declared.ProfileFault.{ProfileFault}
use Rattle.yaml_terms.specs.declared.YamlFault.TheVariants as faults
use Rattle.yaml_subset.proofs.CountLemmas.{few_documents, few_lines}

pub line_is_short : (text : List ℕ) (line : ℕ) (which : ProfileFault)
    → NamesFault text (faults.Form line which) → line < 2 ^ 32
line_is_short text line which f = omega (arith, f.0, few_lines text line which f.2)

pub documents_are_few : (text : List ℕ) (nodes : List Node) → StandsFor text (nodes_view nodes)
    → length nodes < 2 ^ 32
documents_are_few text nodes s = omega (
  arith,
  s.small,
  few_documents text (nodes_view nodes) s,
  length-map nodes node_view,
)
