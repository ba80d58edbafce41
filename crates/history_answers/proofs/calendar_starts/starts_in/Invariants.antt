use Rattle.std.proofs.Common.{◌≤◌, Some, reverse}
use Rattle.office_history.specs.Windows.{AreStartsIn, IsStartIn}
use Rattle.history_answers.proofs.calendar_starts.starts_in.Given as goal

abbrev pub decreases-starts : goal.decreases-starts
decreases-starts l = l.end

-- the starts from a minute on, the last one first
pub record SoFar (P Q R : Type 0) : Type 0 where
  pub within : P
  pub short : Q
  pub are : R

abbrev pub invariant-starts : goal.invariant-starts
invariant-starts l = SoFar (l.from ≤ l.end) (l.end ≤ l.to)
    (AreStartsIn (IsStartIn (Some l.zone) l.calendar l.step l.horizon) l.end l.to
    (reverse l.starts.items))
