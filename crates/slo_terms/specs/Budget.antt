-- Error rate, burn rate and remaining error budget (Site Reliability Workbook, 'Alerting on SLOs').
use Rattle.std.specs.Prelude.{ℕ, Bool, false, pos, ◌-◌, ◌*◌, ◌==◌, ◌-ℤ◌, ◌*ℤ◌, Option, Some, None}
use Rattle.std.specs.Prelude.{if◌then◌else◌, option_map}
use Rattle.exact_fraction.specs.declared.Leaf.{Leaf}
use Rattle.exact_fraction.specs.Ratio.{Ratio, lowest}
use Rattle.exact_fraction.specs.declared.op.Op.{Op}
use Rattle.exact_fraction.specs.Op.{holds_of, order_with}
use Rattle.slo_limits.specs.declared.TheConstants.{WHOLE}

-- the error rate of a sum: the part of its events that weren't good
abbrev pub error_rate_of : Leaf → Option Ratio
error_rate_of sum = if sum.den == 0 then None
    else Some (lowest (pos sum.den -ℤ pos sum.num) sum.den)

-- the burn rate: the error rate divided by what the target allows, 1 - target
abbrev pub burn_of : Leaf → ℕ → Option Ratio
burn_of sum target = option_map
    (λ error. lowest (error.num *ℤ pos WHOLE) (error.den * (WHOLE - target))) (error_rate_of sum)

-- the remaining error budget: 1 - burn
abbrev pub remaining_of : Leaf → ℕ → Option Ratio
remaining_of sum target =
    option_map (λ burn. lowest (pos burn.den -ℤ burn.num) burn.den) (burn_of sum target)

-- a burn rate that is there stands in `op` to so many billionths
abbrev pub is_above : Op → ℕ → Option Ratio → Bool
is_above op threshold None = false
is_above op threshold (Some burn) = holds_of op (order_with burn threshold)

-- The condition of an alert (OpenSLO v1, `condition` of kind `burnrate`): an event was counted,
-- and the burn rate stands in `op` to the threshold.
abbrev pub above_of : Leaf → ℕ → Op → ℕ → Bool
above_of sum target op threshold = is_above op threshold (burn_of sum target)
