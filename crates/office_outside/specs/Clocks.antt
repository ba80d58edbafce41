-- Readings of a clock in memory.
use Rattle.std.specs.Prelude.{ℕ, List, [], ◌∷◌, ◌+◌, ◌-◌, min, suc, zero}
use Rattle.slo_limits.specs.declared.TheConstants.{MAX_MINUTE}

-- the reading after so many others: the last one repeats, and with none it is 0
abbrev pub reading_at : List ℕ → ℕ → ℕ
reading_at [] k = 0
reading_at (c ∷ []) k = min c MAX_MINUTE
reading_at (c ∷ d ∷ cs) zero = min c MAX_MINUTE
reading_at (c ∷ d ∷ cs) (suc k) = reading_at (d ∷ cs) k
