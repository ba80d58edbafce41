-- Windows that a walk over bindings carries from the line of one alert to that of the next.
use Rattle.std.specs.Prelude.{◌≡◌, ℕ, IfSome}
use Rattle.window_sums.specs.Slices.{width_of}
use Rattle.alert_line.specs.Summed.{AreSummedAt}
use Rattle.office_history.specs.declared.Measure.{Measure}
use Rattle.office_history.specs.Counts.{Samples, leaf_at}
use Rattle.kept_lines.specs.declared.binding_walk.Hint.{Hint}
use Rattle.kept_lines.specs.declared.carried.CarriedWindows.{CarriedWindows}

-- two objectives have the same leaf in each slice
pub record HaveSameLeaves (s : Samples) (a b : Measure) : Type 0 where
  pub method : a.method ≡ b.method
  pub leaves : (slice : ℕ) → leaf_at s a slice ≡ leaf_at s b slice

-- the windows hold what the samples give their objective, at a minute
abbrev pub AreCarried : Samples → ℕ → CarriedWindows → Type 0
AreCarried s minute carried =
    IfSome carried.measure (λ (m : Measure).
    AreSummedAt (width_of m.method) (leaf_at s m) minute carried.windows)

-- so do those that a hint has
abbrev pub IsHint : Samples → ℕ → Hint → Type 0
IsHint s minute hint = AreCarried s minute hint.carried
