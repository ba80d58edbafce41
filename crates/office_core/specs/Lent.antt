-- What a machine lends of the sums and lines that it keeps.
use Rattle.std.specs.Prelude.{◌≡◌, ℕ, List, Option, None, Some}
use Rattle.std.specs.List.{Contains}
use Rattle.window_sums.specs.Slices.{CountedDays, counts_of}
use Rattle.alert_line.specs.Line.{Agrees, Line}
use Rattle.office_history.specs.declared.Measure.{Measure}
use Rattle.office_history.specs.Alerts.{Watch}
use Rattle.office_history.specs.Counts.{slice_counts}
use Rattle.office_history.specs.History.{Office}
use Rattle.office_history.specs.Notices.{samples_in}
use Rattle.kept_sums.specs.Objectives.{measures_of}
use Rattle.kept_sums.specs.declared.ObjectiveSums.{ObjectiveSums}
use Rattle.kept_lines.specs.Known.{IsLineOf}
use Rattle.office_core.specs.Seen.{Machine}

-- sums of an objective over a whole history: of its method, and each slice has the counts of its
-- minutes
pub record AreSumsOver (o : Office) (m : Measure) (sums : CountedDays) : Type 0 where
  pub method : sums.method ≡ m.method
  pub counts : (slice : ℕ) → counts_of sums slice ≡ slice_counts (samples_in o.history) m slice

-- the sums that a machine keeps of an objective
pub record AreSumsOf (machine : Machine) (m : Measure) (sums : CountedDays) : Type 0 where
  pub among : Contains machine.sums (record { measure = m; sums = sums })
  pub over : AreSumsOver machine.office m sums

-- these are lent for an objective that is there
abbrev pub LendsSums : Machine → Option Measure → CountedDays → Type 0
LendsSums machine None sums = ⊥
LendsSums machine (Some m) sums = AreSumsOf machine m sums

-- The line that a machine keeps for what is watched: of this rule and target, from the office's
-- origin on. It agrees with the sums of its objective.
pub record IsLineFor (machine : Machine) (w : Watch) (line : Line) : Type 0 where
  pub among : IsLineOf machine.lines w line
  pub rule : line.rule ≡ w.rule
  pub target : line.target ≡ w.measure.target
  pub origin : line.origin ≡ machine.office.origin
  pub agrees : (sums : CountedDays) → AreSumsOver machine.office w.measure sums → Agrees line sums

-- it is lent for a binding that is there
abbrev pub LendsLine : Machine → Option Watch → Line → Type 0
LendsLine machine None line = ⊥
LendsLine machine (Some w) line = IsLineFor machine w line

-- two lists of sums are of the same objectives, with the same methods and counts
pub record CountTheSame (old new : List ObjectiveSums) : Type 0 where
  pub still : (m : Measure) → Contains (measures_of old) m → Contains (measures_of new) m
  pub only : (m : Measure) → Contains (measures_of new) m → Contains (measures_of old) m
  pub method : (m : Measure) (before after : CountedDays) →
      Contains old (record { measure = m; sums = before }) →
      Contains new (record { measure = m; sums = after }) → after.method ≡ before.method
  pub counts : (m : Measure) (before after : CountedDays) (slice : ℕ) →
      Contains old (record { measure = m; sums = before }) →
      Contains new (record { measure = m; sums = after }) →
      counts_of after slice ≡ counts_of before slice
