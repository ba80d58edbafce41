-- What the samples say of an objective, from its sums, and where stretches begin.
use Rattle.std.proofs.Common.{◌≡◌, ◌*◌, ◌<◌, ℕ, suc, arith}
use Rattle.std.specs.Int.{div_ceil}
use Rattle.std.proofs.lemmas.Grind.{div_ceil_times}
use Rattle.std.proofs.Math.Nat.{mul-le-mul_right}
use Rattle.slo_terms.specs.Sums.{sum_of_slices}
use Rattle.window_sums.specs.Slices.{CountedDays, leaf_at, width_of}
use Rattle.office_history.specs.declared.Measure.{Measure}
use Rattle.office_history.specs.Counts.{Samples, sum_between}
use Rattle.kept_lines.specs.Sums.{AreSums}

pub seen_sum : (s : Samples) (m : Measure) (sums : CountedDays) (from to : ℕ) → AreSums s m sums →
    sum_of_slices (width_of sums.method) (leaf_at sums) from to ≡ sum_between s m from to
seen_sum s m sums from to are =
    λ i. sum_of_slices (width_of (are.method i)) (λ slice. are.leaves slice i) from to

-- a stretch whose number is below their count begins before the end
pub begun_before : (step long k : ℕ) → 0 < step → k < div_ceil long step → k * step < long
begun_before step long k some less = omega (
  arith,
  (div_ceil_times long step some).1,
  mul-le-mul_right {m = suc k} {n = div_ceil long step} step (omega (arith, less)),
)
