-- A line: the alert it is about, and what it remembers of the condition, minute by minute.
use Rattle.std.specs.Prelude.{ℕ, Bool, ◌+◌, ◌-◌, ◌*◌, ◌<◌, ◌≤◌, ◌≡◌, nat_lt, List, length}
use Rattle.std.specs.Prelude.{Option, Some, None, if◌then◌else◌}
use Rattle.slo_limits.specs.declared.TheConstants.{RANGE_MINUTES, WHOLE}
use Rattle.burn_core.specs.declared.alert.AlertRule.{AlertRule}
use Rattle.burn_core.specs.Alert.{IsRule, lookback_of, wait_of}
use Rattle.burn_core.specs.Condition.{condition}
use Rattle.burn_core.specs.Timeline.{is_active}
use Rattle.slo_terms.specs.Sums.{sum_of_slices}
use Rattle.window_sums.specs.Slices.{CountedDays, leaf_at, width_of}
use Rattle.alert_line.specs.Minutes.{kept_at}

pub record Line : Type 0 where
  pub rule : AlertRule
  pub target : ℕ
  pub origin : ℕ
  pub bytes : List ℕ
  pub room : ℕ

-- the bytes end where nothing more is known, and there is room for those of all the range
pub record IsLine (line : Line) : Type 0 where
  pub rule : IsRule line.rule
  pub target : line.target < WHOLE
  pub within : 4 * length line.bytes ≤ RANGE_MINUTES
  pub room : RANGE_MINUTES ≤ 4 * line.room

-- a line is about the minutes of an office's range, from its origin on
abbrev pub IsMinute : Line → ℕ → Type 0
IsMinute line minute = (line.origin ≤ minute) × (minute < line.origin + RANGE_MINUTES)

-- what the line remembers of a minute; nothing outside of its range
abbrev pub knowledge : Line → ℕ → Option Bool
knowledge line minute = if nat_lt minute line.origin then None
    else kept_at line.bytes (minute - line.origin)

-- the condition of the line's alert at a minute, computed from sums
abbrev pub condition_on : Line → CountedDays → ℕ → Bool
condition_on line sums minute =
    condition line.rule line.target line.origin (width_of sums.method) (leaf_at sums) minute

-- whether the line's alert is active at a minute, computed from sums
abbrev pub active_on : Line → CountedDays → ℕ → Bool
active_on line sums minute = is_active (wait_of line.rule) (condition_on line sums) minute

-- the den over the lookback, of a built-in rule over the first pair's long window
abbrev pub den_before : Line → CountedDays → ℕ → ℕ
den_before line sums minute = (sum_of_slices (width_of sums.method) (leaf_at sums)
    (minute - lookback_of line.rule) minute).den

-- Each minute that is known is the condition, computed from these sums.
pub record Agrees (line : Line) (sums : CountedDays) : Type 0 where
  pub each : (minute : ℕ) (holds : Bool) → knowledge line minute ≡ Some holds
      → holds ≡ condition_on line sums minute

-- two lines are about one alert
pub record SameAlert (before after : Line) : Type 0 where
  pub rule : after.rule ≡ before.rule
  pub target : after.target ≡ before.target
  pub origin : after.origin ≡ before.origin
