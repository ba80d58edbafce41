use Rattle.std.proofs.Common.{◌≡◌, ◌+◌, ◌≤◌, take}
use Rattle.office_derived.specs.Tallies.{tally_of}
use Rattle.sample_changes.proofs.tally.tally_of.Given as goal

-- the verdicts so far are counted, each at most once
pub record SoFar (P Q : Type 0) : Type 0 where
  pub counted : P
  pub few : Q

abbrev pub invariant-loop-verdict : goal.invariant-loop-verdict
invariant-loop-verdict l = SoFar (l.tally ≡ tally_of (take l.verdict-index l.verdicts))
    (l.tally.new + l.tally.newer + l.tally.repeated + l.tally.superseded ≤ l.verdict-index)
