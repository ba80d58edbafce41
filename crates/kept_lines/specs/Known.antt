-- What lines know of the minutes of their alerts, and still know as they change.
use Rattle.std.specs.Prelude.{◌≡◌, ◌≢◌, ◌⊎◌, ℕ, ◌<◌, ◌≤◌, Bool, List, [], ◌∷◌, Some}
use Rattle.alert_line.specs.Line.{Line, SameAlert, knowledge}
use Rattle.office_history.specs.Alerts.{Watch}
use Rattle.kept_lines.specs.declared.kept.WatchLine.{WatchLine}

-- the line of an alert: the first of the lines that are of it
abbrev pub IsLineOf : List WatchLine → Watch → Line → Type 0
IsLineOf [] w line = ⊥
IsLineOf (k ∷ kept) w line =
    ((k.watch ≡ w) × (k.line ≡ line)) ⊎ ((k.watch ≢ w) × IsLineOf kept w line)

-- lines become others, each in its place
abbrev pub EachBecomes : (WatchLine → WatchLine → Type 0) → List WatchLine → List WatchLine → Type 0
EachBecomes R [] [] = Unit {0}
EachBecomes R (k ∷ old) (k' ∷ new) = R k k' × EachBecomes R old new
EachBecomes R _ _ = ⊥

-- a line still knows of each minute what it knew
pub record StillKnows (before after : WatchLine) : Type 0 where
  pub watch : after.watch ≡ before.watch
  pub alert : SameAlert before.line after.line
  pub each : (minute : ℕ) (holds : Bool) → knowledge before.line minute ≡ Some holds →
      knowledge after.line minute ≡ Some holds

-- so does each of the lines: no minute that was known becomes unknown
abbrev pub AllKnow : List WatchLine → List WatchLine → Type 0
AllKnow old new = EachBecomes StillKnows old new

-- the line of an alert knows each minute of [from, to)
pub record LineKnows (kept : List WatchLine) (w : Watch) (from to : ℕ) : Type 0 where
  pub each : (line : Line) (minute : ℕ) → IsLineOf kept w line → from ≤ minute → minute < to →
      (holds : Bool) × (knowledge line minute ≡ Some holds)
