use Rattle.std.proofs.Common.{◌≤◌, length}
use Rattle.entry_records.specs.declared.limits.TheConstants.{MAX_FEEDS_BYTES}
use Rattle.follow_terms.specs.Follows.{Inside}
use Rattle.office_follow.specs.Points.{GoesOn, point}
use Rattle.office_follow.proofs.entries.follow_entries.Given as goal

abbrev pub invariant-following : goal.invariant-following
invariant-following g l = record {
  goes_on : GoesOn g.D.Disk.senses (Inside l.fn.count l.fn.first)
      (point l.fn.office l.fn.at (g.S.Source.left l.fn.input) (g.S.Source.faults l.fn.input))
      (Inside l.more l.position)
      (point l.office l.now (g.S.Source.left l.input) (g.S.Source.faults l.input));
  within : l.position ≤ length l.office.office.history;
  least : l.fn.at ≤ l.now;
  most : l.now ≤ MAX_FEEDS_BYTES;
}

abbrev pub decreases-following : goal.decreases-following
decreases-following g l = l.more
