-- Sums over stretches of minutes, one behind another.
use Rattle.std.specs.Prelude.{ℕ, ◌+◌, ◌-◌, ◌*◌, min, List, map}
use Rattle.std.specs.Int.{div_ceil}
use Rattle.std.specs.List.{range_with_len}
use Rattle.exact_fraction.specs.declared.Leaf.{Leaf}
use Rattle.office_history.specs.declared.measure.Measure.{Measure}
use Rattle.office_history.specs.Counts.{Samples, sum_between}

-- how many stretches of so many minutes lead from one minute to another, where the last may be
-- shorter
abbrev pub stretches_between : ℕ → ℕ → ℕ → ℕ
stretches_between from to step = div_ceil (to - from) step

-- the sum over the stretch of this number, from 0; one that would go on behind `to` is cut there
abbrev pub sum_of_stretch : Samples → Measure → ℕ → ℕ → ℕ → ℕ → Leaf
sum_of_stretch s m from to step k =
    sum_between s m (from + k * step) (min (from + k * step + step) to)

-- the sums over [from, from + step), [from + step, from + 2 step) and so on up to `to`
abbrev pub sums_over : Samples → Measure → ℕ → ℕ → ℕ → List Leaf
sums_over s m from to step =
    map (sum_of_stretch s m from to step) (range_with_len 0 (stretches_between from to step))
