use Rattle.std.proofs.Common.{◌≡◌, drop}
use Rattle.std.specs.List.{position_from}
use Rattle.catalog_terms.specs.NeedsOp.{lacks_op}
use Rattle.slo_catalog.proofs.needs_op.first_lacking.Given as goal

abbrev pub invariant-loop-objective : goal.invariant-loop-objective
invariant-loop-objective l =
    record {
      counted : l.number ≡ l.objective-index;
      rest : position_from lacks_op l.number (drop l.objective-index l.objectives)
          ≡ position_from lacks_op 0 l.objectives;
    }
