use Rattle.std.proofs.Common.{[], None, sym, subst}
use Rattle.yaml_terms.specs.OpenNodes.{Open}
use Rattle.yaml_subset.specs.Reader.{LinesAreRead}
use Rattle.yaml_subset.proofs.TextLemmas.{nothing_read}
use Rattle.yaml_subset.proofs.read.at_start.Goals as goal

pub returns : goal.returns
returns c =
    subst (λ (o : Open). LinesAreRead [] (record { nodes = o; parent = None; scalar = None }))
    (sym c.new.ensures) nothing_read
