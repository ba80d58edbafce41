-- When an alert is active, and how it stands.
use Rattle.std.specs.Prelude.{◌≡◌, ℕ, zero, suc, Bool, true, ◌+◌, ◌-◌, ◌<◌, ◌≤◌, ◌⊎◌, ◌↔◌, ◌==◌, ⊤}
use Rattle.std.specs.Prelude.{◌&&◌, nat_le, List, [], ◌∷◌, if◌then◌else◌}
use Rattle.burn_core.specs.declared.alert.State.{State}
use Rattle.burn_core.specs.declared.alert.State.TheVariants.{Breaching, NoData, Quiet}

-- Active at a minute: the condition holds at each minute from `wait` minutes before up to that one
-- (OpenSLO v1, `alertAfter`). At no minute of which so many minutes before aren't there.
pub record IsActive (wait : ℕ) (holds : ℕ → Bool) (minute : ℕ) : Type 0 where
  pub enough : wait ≤ minute
  pub each : (u : ℕ) → minute - wait ≤ u → u ≤ minute → holds u ≡ true

-- whether something holds at each of `count` minutes from `first` on
unfoldable pub throughout : (ℕ → Bool) → ℕ → ℕ → Bool
throughout holds first zero = true
throughout holds first (suc count) = throughout holds first count && holds (first + count)

-- whether an alert is active at a minute
abbrev pub is_active : ℕ → (ℕ → Bool) → ℕ → Bool
is_active wait holds minute = nat_le wait minute && throughout holds (minute - wait) (wait + 1)

-- The state at a minute: breaching where active; else no data where the lookback has no
-- event; else quiet.
abbrev pub state_of : Bool → ℕ → State
state_of active den = if active then Breaching else if den == 0 then NoData else Quiet

-- a minute lies in one of the stretches [from, to)
abbrev pub Lies : ℕ → List (ℕ × ℕ) → Type 0
Lies minute [] = ⊥
Lies minute (span ∷ rest) = ((span.0 ≤ minute) × (minute < span.1)) ⊎ Lies minute rest

-- stretches of at least a minute that begin at `low` or after it and ascend, with a minute at least
-- between each two
abbrev pub AreApart : ℕ → List (ℕ × ℕ) → Type 0
AreApart low [] = ⊤
AreApart low (span ∷ rest) = (low ≤ span.0) × (span.0 < span.1) × AreApart (span.1 + 1) rest

-- The stretches of [from, to) in which something is so: a minute lies in one exactly where it
-- is so there.
pub record AreSpansOf (active : ℕ → Type 0) (from to : ℕ) (spans : List (ℕ × ℕ)) : Type 0 where
  pub exactly : (minute : ℕ) → Lies minute spans ↔ ((from ≤ minute) × (minute < to) × active minute)
  pub apart : AreApart 0 spans
