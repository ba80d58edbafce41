use Rattle.std.proofs.Common.{◌≡◌, ◌++◌, drop}
use Rattle.office_export.specs.Steps.{steps_of_kind}
use Rattle.office_export.proofs.listing.push_kind.Given as goal

-- the steps so far, and those of the members that are left
abbrev pub invariant-loop-place : goal.invariant-loop-place
invariant-loop-place l =
    l.steps.items ++ steps_of_kind l.kind l.place (drop l.place l.catalog)
    ≡ l.initial.steps.items ++ steps_of_kind l.kind 0 l.catalog
