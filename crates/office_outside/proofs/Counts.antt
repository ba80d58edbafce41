-- What it means that a count rose.
use Rattle.std.proofs.Common.{◌≡◌, ◌<◌, ◌≤◌, ℕ, ◌⊎◌, Bool, true, false, nat_le, inl, inr, refl}
use Rattle.std.proofs.Common.{arith}
use Rattle.std.proofs.lemmas.Bool.Decides.{nat_tests}
use Rattle.office_outside.specs.Faults.{Rose, last_count}

-- a count that rose is greater than before, or stands at the last value
pub rose_by_cases : (before now : ℕ) → Rose before now → (before < now) ⊎ (last_count ≤ now)
rose_by_cases before now rose = pick (nat_le last_count now) refl where
  pick : (at_last : Bool) → nat_le last_count now ≡ at_last → (before < now) ⊎ (last_count ≤ now)
  pick true e = inr (grind (arith, nat_tests))
  pick false e = inl (grind (arith, nat_tests))

-- a count that is greater than before rose, and so did one that stands at the last value
pub rose_above : (before now : ℕ) → before < now → Rose before now
rose_above before now above = omega arith

pub rose_at_last : (before now : ℕ) → last_count ≤ now → Rose before now
rose_at_last before now last = omega arith
