use Rattle.std.proofs.Common.{◌≡◌, ◌++◌, drop, map}
use Rattle.office_report.specs.Bound.{with_state}
use Rattle.office_report.proofs.states.states_of.Given as goal

-- the states so far and those of the bindings that are left are those of all
abbrev pub invariant-loop-binding : goal.invariant-loop-binding
invariant-loop-binding l =
    record {
      office : l.core.office ≡ l.fn.core.office;
      pending : l.core.pending ≡ l.fn.core.pending;
      told :
          l.states.items
          ++ map (with_state l.fn.core.office l.at) (drop l.binding-index l.bindings)
          ≡ map (with_state l.fn.core.office l.at) l.bindings;
    }
