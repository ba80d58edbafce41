use Rattle.std.proofs.Common.{◌≡◌, ◌++◌, drop}
use Rattle.office_export.specs.Steps.{object_steps}
use Rattle.office_export.proofs.listing.push_kinds.Given as goal

-- the steps so far, and those of the kinds that are left
abbrev pub invariant-loop-kind : goal.invariant-loop-kind
invariant-loop-kind l =
    l.steps.items ++ object_steps l.catalog (drop l.kind-index l.kinds)
    ≡ l.initial.steps.items ++ object_steps l.catalog l.kinds
