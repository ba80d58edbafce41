-- What a line has learnt by a pass over its minutes.
use Rattle.std.specs.Prelude.{◌≡◌, ℕ, Bool, true, false, ◌+◌, ◌-◌, ◌<◌, ◌≤◌, ◌⊎◌, ◌&&◌, nat_le}
use Rattle.std.specs.Prelude.{◌==◌, nat_lt, max, Some, is_none, if◌then◌else◌}
use Rattle.slo_terms.specs.Sums.{sum_over}
use Rattle.burn_core.specs.Alert.{wait_of}
use Rattle.window_sums.specs.Slices.{CountedDays}
use Rattle.alert_line.specs.Line.{Line, SameAlert, condition_on, knowledge}

-- how many minutes of [from, from + count) a line doesn't know
abbrev pub unknown_in : Line → ℕ → ℕ → ℕ
unknown_in line from count =
    sum_over (λ minute. if is_none (knowledge line minute) then 1 else 0) from count

-- where the pass over a range begins: the condition of minutes before `from` decides too, but not
-- before the origin
abbrev pub start_of : Line → ℕ → ℕ
start_of line from = max (from - wait_of line.rule) line.origin

-- `after` knows of one minute whether the condition holds there, and of each other minute what
-- `before` knows
pub record HasLearnt (before after : Line) (minute : ℕ) (holds : Bool) : Type 0 where
  pub alert : SameAlert before after
  pub each : (u : ℕ) → knowledge after u ≡ (if u == minute then Some holds else knowledge before u)

-- `after` knows of the minutes of [start, at) their condition, and of each other minute
-- what `before` knows.
pub record IsLearnt (before after : Line) (sums : CountedDays) (start at : ℕ) : Type 0 where
  pub each : (minute : ℕ) → knowledge after minute ≡ (if nat_le start minute && nat_lt minute at
      then Some (condition_on before sums minute) else knowledge before minute)

-- The condition has held at just the last `run` minutes before `at`, as far as a pass from `start`
-- on can tell.
pub record IsRun (holds : ℕ → Bool) (start at run : ℕ) : Type 0 where
  pub within : start + run ≤ at
  pub each : (u : ℕ) → at - run ≤ u → u < at → holds u ≡ true
  pub stops : (start + run ≡ at) ⊎ ((u : ℕ) → u + 1 + run ≡ at → holds u ≡ false)
