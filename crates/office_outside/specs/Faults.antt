-- Counts of faults. A count is a `u64` that never falls and stays at its last value.
use Rattle.std.specs.Prelude.{ℕ, ◌≡◌, ◌+◌, ◌-◌, ◌^◌, ◌≤◌, min, Result, OnOk, OnErr}

-- the last value of a count
abbrev pub last_count : ℕ
last_count = 2 ^ 64 - 1

-- one more, but never past the last value
abbrev pub next_count : ℕ → ℕ
next_count count = min (count + 1) last_count

-- the count rose: it is greater than before, or stands at the last value
abbrev pub Rose : ℕ → ℕ → Type 0
Rose before now = next_count before ≤ now

-- the same, of an object that counts its faults
abbrev pub RoseBy : {X : Type 0} → (X → ℕ) → X → X → Type 0
RoseBy faults old new = Rose (faults old) (faults new)

-- a failure has its cause in the outside: the count never falls, and it rose where the call failed
pub record HasCause {T E : Type 0} (before now : ℕ) (result : Result T E) : Type 0 where
  pub later : before ≤ now
  pub failed : OnErr result (Rose before now)

-- the same, of an object that counts its faults
abbrev pub HasCauseBy : {X T E : Type 0} → (X → ℕ) → X → X → Result T E → Type 0
HasCauseBy faults old new result = HasCause (faults old) (faults new) result

-- each failure is counted once, and nothing else is
pub record CountsFailure {T E : Type 0} (before now : ℕ) (result : Result T E) : Type 0 where
  pub kept : OnOk result (now ≡ before)
  pub counted : OnErr result (now ≡ next_count before)
