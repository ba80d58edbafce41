use Rattle.std.proofs.Common.{ap, map}
use Rattle.yaml_terms.specs.Mark.{key}
use Rattle.yaml_subset.specs.declared.entries.OpenEntries.{OpenEntries}
use Rattle.yaml_subset.specs.OpenView.{entry_child}
use Rattle.yaml_subset.proofs.frame.map_from.Goals as goal

pub returns-in-Ok-clause-head : goal.returns-in-Ok-clause-head
returns-in-Ok-clause-head c = ap (λ (e : OpenEntries). key c.args.column e.1) c.in-Ok.ensures

pub returns-in-Ok-clause-done : goal.returns-in-Ok-clause-done
returns-in-Ok-clause-done c =
    ap (λ (e : OpenEntries). map (entry_child c.args.column) e.0) c.in-Ok.ensures
