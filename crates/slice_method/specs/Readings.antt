-- What the amount of a row counts for, by the reading of its indicator.
use Rattle.std.specs.Prelude.{ℕ, Bool, ◌-◌, ◌≤◌, if◌then◌else◌}
use Rattle.std.specs.Ordering.{nat_cmp}
use Rattle.exact_fraction.specs.declared.Op.{Op}
use Rattle.exact_fraction.specs.Op.{holds_of}
use Rattle.slo_limits.specs.declared.TheConstants.{WHOLE}
use Rattle.slice_method.specs.declared.amount.Counts.{Counts}
use Rattle.slice_method.specs.declared.amount.Amount.{Amount}
use Rattle.slice_method.specs.declared.amount.Amount.TheVariants as amount
use Rattle.slice_method.specs.declared.amount.Reading.{Reading}
use Rattle.slice_method.specs.declared.amount.Reading.TheVariants.{Good, Bad, Threshold, RawSuccess}
use Rattle.slice_method.specs.declared.amount.Reading.TheVariants.{RawFailure}

-- The amount has the form of the reading: a part of a total, a value, or a share of at most 1. A
-- withdrawn amount has the form of every reading.
abbrev pub HasForm : Reading → Amount → Type 0
HasForm Good (amount.Counts part total) = part ≤ total
HasForm Bad (amount.Counts part total) = part ≤ total
HasForm Threshold (amount.Value measured) = Unit {0}
HasForm RawSuccess (amount.Value measured) = measured ≤ WHOLE
HasForm RawFailure (amount.Value measured) = measured ≤ WHOLE
HasForm Good (amount.Value measured) = ⊥
HasForm Bad (amount.Value measured) = ⊥
HasForm Threshold (amount.Counts part total) = ⊥
HasForm RawSuccess (amount.Counts part total) = ⊥
HasForm RawFailure (amount.Counts part total) = ⊥
HasForm _ amount.Withdrawn = Unit {0}

-- at most 10^9 events: the limit of a row
abbrev pub IsSmall : Amount → Type 0
IsSmall (amount.Counts part total) = total ≤ WHOLE
IsSmall (amount.Value measured) = Unit {0}
IsSmall amount.Withdrawn = Unit {0}

-- a part of a total, which is good or bad
abbrev pub counts_of_events : Reading → ℕ → ℕ → Counts
counts_of_events Good part total = record { good = part; total = total }
counts_of_events Bad part total = record { good = total - part; total = total }
counts_of_events _ part total = record { good = 0; total = 0 }

-- a value that is compared with the objective's own, or a share of all in billionths
abbrev pub counts_of_value : Reading → Op → ℕ → ℕ → Counts
counts_of_value Threshold op value measured =
    record { good = if holds_of op (nat_cmp measured value) then 1 else 0; total = 1 }
counts_of_value RawSuccess op value measured = record { good = measured; total = WHOLE }
counts_of_value RawFailure op value measured = record { good = WHOLE - measured; total = WHOLE }
counts_of_value _ op value measured = record { good = 0; total = 0 }

-- the counts of an amount, by the reading and an objective's `op` and value; of a withdrawn one
-- nothing
abbrev pub counts : Reading → Op → ℕ → Amount → Counts
counts reading op value (amount.Counts part total) = counts_of_events reading part total
counts reading op value (amount.Value measured) = counts_of_value reading op value measured
counts reading op value amount.Withdrawn = record { good = 0; total = 0 }
