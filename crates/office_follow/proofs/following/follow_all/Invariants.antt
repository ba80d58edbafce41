use Rattle.std.proofs.Common.{◌≤◌, ◌-◌}
use Rattle.entry_records.specs.declared.limits.TheConstants.{MAX_FEEDS_BYTES}
use Rattle.follow_terms.specs.Follows.{Between}
use Rattle.office_follow.specs.Points.{GoesOn, point}
use Rattle.office_follow.proofs.following.follow_all.Given as goal

abbrev pub invariant-following : goal.invariant-following
invariant-following g l = record {
  goes_on : GoesOn g.D.Disk.senses Between
      (point l.fn.office 0 (g.S.Source.left l.fn.input) (g.S.Source.faults l.fn.input)) Between
      (point l.office l.at (g.S.Source.left l.input) (g.S.Source.faults l.input));
  most : l.at ≤ MAX_FEEDS_BYTES;
}

abbrev pub decreases-following : goal.decreases-following
decreases-following g l = MAX_FEEDS_BYTES - l.at
