use Rattle.std.proofs.Common.{◌≡◌, ◌≤◌, ◌-◌, ◌++◌}
use Rattle.office_export.specs.Steps.{row_steps}
use Rattle.office_export.proofs.listing.push_rows.Given as goal

abbrev pub decreases-loop-first : goal.decreases-loop-first
decreases-loop-first l = l.count - l.first

-- the steps so far, and those of the rows that are left
abbrev pub invariant-loop-first : goal.invariant-loop-first
invariant-loop-first l = record {
  near : l.first ≤ l.count;
  all : l.steps.items ++ row_steps (l.count - l.first) l.first (l.count - l.first)
      ≡ l.initial.steps.items ++ row_steps l.count 0 l.count;
}
