-- What budgets, conditions and active minutes come to, in words that no formula of
-- the code repeats.
use Rattle.std.specs.Prelude.{◌≡◌, ◌≢◌, ◌⊎◌, ◌↔◌, ℕ, Bool, true, ◌+◌, ◌-◌, ◌*◌, ◌<◌, ◌≤◌, pos, ◌+ℤ◌}
use Rattle.std.specs.Prelude.{◌*ℤ◌, Some}
use Rattle.exact_fraction.specs.declared.leaf.Leaf.{Leaf}
use Rattle.exact_fraction.specs.Ratio.{Ratio, SameValue}
use Rattle.slo_limits.specs.declared.TheConstants.{WHOLE}
use Rattle.slo_terms.specs.Budget.{burn_of, error_rate_of, remaining_of}
use Rattle.burn_core.specs.declared.alert.AlertRule.{AlertRule}
use Rattle.burn_core.specs.Alert.{reach_of}
use Rattle.burn_core.specs.Condition.{condition}
use Rattle.burn_core.specs.Timeline.{IsActive, is_active}

-- a fraction times so many billionths is another fraction
abbrev pub IsTimes : Ratio → ℕ → Ratio → Type 0
IsTimes a billionths product = SameValue product (a.num *ℤ pos billionths) (a.den * WHOLE)

-- two fractions are 1 together
abbrev pub AreOne : Ratio → Ratio → Type 0
AreOne a b = a.num *ℤ pos b.den +ℤ b.num *ℤ pos a.den ≡ pos (a.den * b.den)

-- the error rate is the burn rate times what the target allows, 1 - target
abbrev pub BurnTimesAllowanceIsError : Type 0
BurnTimesAllowanceIsError =
    (sum : Leaf) (target : ℕ) (error burn : Ratio) → sum.num ≤ sum.den → target < WHOLE →
    error_rate_of sum ≡ Some error → burn_of sum target ≡ Some burn →
    IsTimes burn (WHOLE - target) error

-- the remaining budget and the burn rate are the whole budget
abbrev pub RemainingAndBurnAreOne : Type 0
RemainingAndBurnAreOne =
    (sum : Leaf) (target : ℕ) (burn remaining : Ratio) → sum.num ≤ sum.den → target < WHOLE →
    burn_of sum target ≡ Some burn → remaining_of sum target ≡ Some remaining →
    AreOne remaining burn

-- Two lists of leaves that differ in one slice, the minutes [l, l + width), give the same condition
-- below l + width and above l + the reach of the rule.
abbrev pub OneSliceDecidesNearby : Type 0
OneSliceDecidesNearby =
    (rule : AlertRule) (target origin width slice : ℕ) (f g : ℕ → Leaf) → 0 < width →
    ((k : ℕ) → k ≢ slice → f k ≡ g k) →
    (minute : ℕ) → (minute < slice * width + width) ⊎ (slice * width + reach_of rule < minute) →
    condition rule target origin width f minute ≡ condition rule target origin width g minute

-- an alert is active exactly where its condition holds, and held for as long as it has to
abbrev pub ActiveMeansItHeld : Type 0
ActiveMeansItHeld = (wait : ℕ) (holds : ℕ → Bool) (minute : ℕ)
    → (is_active wait holds minute ≡ true) ↔ IsActive wait holds minute
