-- The ranges of what the objects of a catalog give by their names.
use Rattle.std.specs.Prelude.{ℕ, ◌<◌, ◌≤◌, ⊤}
use Rattle.std.specs.Int.{◌∣◌}
use Rattle.slice_method.specs.declared.Method.{Method}
use Rattle.slice_method.specs.declared.Method.TheVariants as methods
use Rattle.slo_limits.specs.declared.TheConstants.{WHOLE}
use Rattle.window_sums.specs.Slices.{width_of}
use Rattle.office_history.specs.declared.Measure.{Measure}

-- a slice lasts at least a minute, and so many of them are an hour
pub record IsWidth (width : ℕ) : Type 0 where
  pub some : 0 < width
  pub divides : width ∣ 60

-- a slice is good from a ratio on that is above zero and at most one
pub record IsSliceTarget (target : ℕ) : Type 0 where
  pub some : 0 < target
  pub within_one : target ≤ WHOLE

-- a method that asks for a ratio of each slice asks for one above zero and at most one
abbrev pub HasSliceTarget : Method → Type 0
HasSliceTarget methods.Occurrences = ⊤
HasSliceTarget (methods.Timeslices width target) = IsSliceTarget target
HasSliceTarget (methods.RatioTimeslices width) = ⊤

-- What an objective counts has whole slices in an hour, and its target is below one.
pub record IsMeasure (m : Measure) : Type 0 where
  pub target : m.target < WHOLE
  pub width : IsWidth (width_of m.method)
  pub slice_target : HasSliceTarget m.method
