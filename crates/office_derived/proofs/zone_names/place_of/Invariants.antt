use Rattle.std.proofs.Common.{◌≡◌, ◌≤◌, ◌-◌, ◌++◌, length, take, drop}
use Rattle.office_history.specs.Names.{with_name}
use Rattle.office_derived.proofs.zone_names.place_of.Given as goal

abbrev pub decreases-loop-place : goal.decreases-loop-place
decreases-loop-place l = length l.names - l.place

-- the name belongs behind the names so far
abbrev pub invariant-loop-place : goal.invariant-loop-place
invariant-loop-place l = record {
  within : l.place ≤ length l.names;
  behind : take l.place l.names ++ with_name l.name (drop l.place l.names)
      ≡ with_name l.name l.names;
}
