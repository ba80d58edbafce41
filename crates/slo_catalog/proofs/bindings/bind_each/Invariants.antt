use Rattle.std.proofs.Common.{◌≡◌, ◌++◌, drop}
use Rattle.catalog_terms.specs.Bindings.{bound_from}
use Rattle.slo_catalog.proofs.bindings.bind_each.Given as goal

-- the bindings so far and those of the objectives that are left are those of all
abbrev pub invariant-loop-objective : goal.invariant-loop-objective
invariant-loop-objective l =
    record {
      counted : l.number ≡ l._objective-index;
      told : l.bindings.items ++ bound_from
          l.slo l.policies l.number (drop l._objective-index l.objectives) ≡ l.fn.bindings.items
          ++ bound_from l.slo l.policies 0 l.objectives;
    }
