use Rattle.std.proofs.Common.{◌≡◌, ◌++◌, drop, map}
use Rattle.office_export.specs.declared.step.Step.TheVariants.{Zone}
use Rattle.office_export.proofs.listing.push_names.Given as goal

-- the steps so far, and those of the names that are left
abbrev pub invariant-loop-name : goal.invariant-loop-name
invariant-loop-name l =
    l.steps.items ++ map Zone (drop l.name-index l.names)
    ≡ l.initial.steps.items ++ map Zone l.names
