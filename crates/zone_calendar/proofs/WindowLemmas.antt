-- The window of a minute by the count of the starts that are at or before it.
use Rattle.std.proofs.Common.{◌≡◌, ℕ, ◌<◌, ◌≤◌, true, false, nat_le, List, length, get_or, arith}
use Rattle.std.specs.List.Sorted.{IsNonDecreasing}
use Rattle.std.proofs.lemmas.Bool.Decides.{nat_tests}

pub le_of : (a b : ℕ) → nat_le a b ≡ true → a ≤ b
le_of a b test = grind (arith, nat_tests)

pub above_of : (a b : ℕ) → nat_le a b ≡ false → b < a
above_of a b test = grind (arith, nat_tests)

passes : (a b : ℕ) → a ≤ b → nat_le a b ≡ true
passes a b le = grind (arith, nat_tests)

-- in a list in order, what is at or before a minute comes first
pub passes_below : (starts : List ℕ) (minute : ℕ) → IsNonDecreasing starts → (i j d : ℕ) → i ≤ j
    → j < length starts → nat_le (get_or starts j d) minute ≡ true
    → nat_le (get_or starts i d) minute ≡ true
passes_below starts minute sorted i j d le within test =
    let order = sorted i j d le within in
    let begun = le_of _ _ test in
    passes _ _ (omega arith)
