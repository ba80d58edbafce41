-- Histories of records, each legal behind those before it, and the files that hold them.
use Rattle.std.specs.Prelude.{◌≡◌, ◌≤◌, ℕ, List, ◌∷◌, ◌++◌, ⊤}
use Rattle.slo_limits.specs.declared.TheConstants.{MAX_JOURNAL_BYTES}
use Rattle.slo_journal.specs.File.{Closed, Parts, tail_of, Stands}
use Rattle.slo_journal.specs.Scanning.{seen_from, HasRecord}

-- each record is legal behind those before it
abbrev pub Legal : (List (List ℕ) → List ℕ → Type 0) → List (List ℕ) → Type 0
Legal legal history = (before : List (List ℕ)) (r : List ℕ) (after : List (List ℕ))
    → history ≡ before ++ r ∷ after → legal before r

abbrev pub Anything : List ℕ → Type 0
Anything bytes = ⊤

-- before this place the file holds a header and these records, a legal history
pub record Walks (legal : List (List ℕ) → List ℕ → Type 0) (origin : ℕ) (history : List (List ℕ))
    (at : ℕ) (file : List ℕ) : Type 0 where
  pub parts : Parts Anything origin history file
  pub place : at ≡ tail_of history
  pub is_legal : Legal legal history

-- This is the place at which the bytes stop standing for a legal history: among the bytes at which
-- a reader looks there is neither a closed gate there, nor a record that is legal behind those
-- before it.
pub record StopsAt (legal : List (List ℕ) → List ℕ → Type 0) (origin : ℕ) (at : ℕ)
    (file : List ℕ) : Type 0 where
  pub history : List (List ℕ)
  pub before : Walks legal origin history at file
  pub within : at ≤ MAX_JOURNAL_BYTES
  pub no_gate : Closed (seen_from at file) → ⊥
  pub no_record : (r : List ℕ) → HasRecord r (seen_from at file) → legal history r → ⊥
  pub none : (p : ℕ) (longer : List (List ℕ)) → Stands p longer file → Legal legal longer → ⊥
