-- A plain list of numbers as a ledger: each number is an entry, nothing is in doubt,
-- and nothing fails.
use Rattle.std.specs.Prelude.{ℕ, List, [], ◌∷◌, map, None}
use Rattle.turn_desk.specs.Ledgers.{Ledger}

abbrev pub numbers : List ℕ → Ledger
numbers ns = record { root = []; history = map (λ n. n ∷ []) ns; doubt = None; faults = 0 }
