use Rattle.std.proofs.Common.{◌≤◌, ◌-◌, ℕ, Some}
use Rattle.office_history.specs.Windows.{IsStartIn}
use Rattle.history_answers.proofs.calendar_starts.first_up_to.Given as goal

abbrev pub decreases-halves : goal.decreases-halves
decreases-halves l = l.first - l.low

-- a start from the minute on, and no start from there on lies before `low`
pub record SoFar (P Q R : Type 0) : Type 0 where
  pub start : P
  pub later : Q
  pub none : R

abbrev pub invariant-halves : goal.invariant-halves
invariant-halves l = SoFar (IsStartIn (Some l.zone) l.calendar l.step l.horizon l.first)
    (l.from ≤ l.first)
    ((s : ℕ) → IsStartIn (Some l.zone) l.calendar l.step l.horizon s → l.from ≤ s → l.low ≤ s)
