use Rattle.std.proofs.Common.{◌≡◌, ◌++◌, drop}
use Rattle.catalog_terms.specs.Bindings.{bound}
use Rattle.slo_catalog.proofs.bindings.bind.Given as goal

-- the bindings so far and those to the policies that are left are those to all
abbrev pub invariant-loop-policy : goal.invariant-loop-policy
invariant-loop-policy l = l.bindings.items ++ bound l.slo (drop l.policy-index l.policies)
    l.objective ≡ l.fn.bindings.items ++ bound l.slo l.policies l.objective
