use Rattle.std.proofs.Common.{◌≡◌, ◌++◌, drop}
use Rattle.std.specs.List.{flat_map}
use Rattle.kept_lines.specs.Plans.{watches_at}
use Rattle.kept_lines.proofs.plan.wanted_of.Given as goal

-- what the bindings so far watch and what those that are left do is what all of them watch
abbrev pub invariant-loop-binding : goal.invariant-loop-binding
invariant-loop-binding l =
    l.wanted.items ++ flat_map (watches_at l.catalog) (drop l.binding-index l.binding-items)
    ≡ flat_map (watches_at l.catalog) l.binding-items
