use Rattle.std.proofs.Common.{◌≡◌, ◌++◌, drop}
use Rattle.office_export.specs.Steps.{exclusion_steps}
use Rattle.office_export.proofs.listing.push_exclusions.Given as goal

-- the steps so far, and those of the exclusions that are left
abbrev pub invariant-loop-place : goal.invariant-loop-place
invariant-loop-place l =
    l.steps.items ++ exclusion_steps l.catalog l.place (drop l.place l.book.exclusions)
    ≡ l.initial.steps.items ++ exclusion_steps l.catalog 0 l.book.exclusions
