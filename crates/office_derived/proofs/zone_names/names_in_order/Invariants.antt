use Rattle.std.proofs.Common.{◌≡◌, ◌≤◌, drop, length}
use Rattle.office_history.specs.Names.{names_in_order}
use Rattle.office_derived.proofs.zone_names.names_in_order.Given as goal

abbrev pub decreases-loop-left : goal.decreases-loop-left
decreases-loop-left l = l.left

-- the last names are in order
abbrev pub invariant-loop-left : goal.invariant-loop-left
invariant-loop-left l = record {
  within : l.left ≤ length l.names.items;
  sorted : l.sorted.items ≡ names_in_order (drop l.left l.names.items);
}
