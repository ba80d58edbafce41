-- The leaf of a slice (OpenSLO v1, `budgetingMethod`).
use Rattle.std.specs.Prelude.{ℕ, Bool, ◌+◌, ◌*◌, ◌/◌, ◌==◌, nat_le, if◌then◌else◌}
use Rattle.exact_fraction.specs.declared.Leaf.{Leaf}
use Rattle.slo_limits.specs.declared.TheConstants.{WHOLE}
use Rattle.slice_method.specs.declared.amount.Counts.{Counts}
use Rattle.slice_method.specs.declared.method.Method.{Method}
use Rattle.slice_method.specs.declared.method.Method.TheVariants.{Occurrences, Timeslices}
use Rattle.slice_method.specs.declared.method.Method.TheVariants.{RatioTimeslices}

-- the ratio of good events is at least this many billionths
abbrev pub is_at_least : Counts → ℕ → Bool
is_at_least sum target = nat_le (target * sum.total) (WHOLE * sum.good)

-- the ratio of good events in billionths, rounded down
abbrev pub billionths_of : Counts → ℕ
billionths_of sum = WHOLE * sum.good / sum.total

-- the leaf of a slice with data
abbrev pub leaf_with_data : Method → Counts → Leaf
leaf_with_data Occurrences sum = record { num = sum.good; den = sum.total }
leaf_with_data (Timeslices width target) sum =
    record { num = if is_at_least sum target then 1 else 0; den = 1 }
leaf_with_data (RatioTimeslices width) sum = record { num = billionths_of sum; den = WHOLE }

-- the leaf of a slice with these summed counts; a slice without data isn't counted
abbrev pub leaf : Method → Counts → Leaf
leaf method sum = if sum.total == 0 then record { num = 0; den = 0 } else leaf_with_data method sum
