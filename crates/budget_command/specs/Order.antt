-- The words behind `budget`.
use Rattle.std.specs.Prelude.{ℕ, List, [], ◌∷◌, Option, Some, None, nat_lt, nat_le, ◌&&◌}
use Rattle.std.specs.Prelude.{if◌then◌else◌}
use Rattle.std.specs.Option.{option_and_then}
use Rattle.exact_fraction.specs.Digits.{plain_number_within}
use Rattle.exact_fraction.specs.DecimalCuts.{decimal_of}
use Rattle.slo_limits.specs.declared.TheConstants.{MAX_MINUTE, WHOLE}
use Rattle.budget_command.specs.declared.order.BudgetOrder.{BudgetOrder}

-- what is read of the first, and then what follows from it
infixl 10 ◌>>=◌
abbrev pub ◌>>=◌ : {A B : Type 0} → Option A → (A → Option B) → Option B
o >>= f = option_and_then f o

-- a target is below 1, and a range doesn't end before it begins
abbrev pub order_with : ℕ → ℕ → ℕ → Option BudgetOrder
order_with target from to =
    if nat_lt target WHOLE && nat_le from to
    then Some (record { target = target; from = from; to = to })
    else None

-- The words behind `budget`: a decimal for the target, and two minutes of the clock without leading
-- zeros.
abbrev pub order_of : List ℕ → List ℕ → List ℕ → Option BudgetOrder
order_of target_word from_word to_word = do
  target ← decimal_of target_word
  from ← plain_number_within MAX_MINUTE from_word
  to ← plain_number_within MAX_MINUTE to_word
  order_with target from to

-- what the words behind `budget` ask for
abbrev pub budget_order : List (List ℕ) → Option BudgetOrder
budget_order (target ∷ from ∷ to ∷ []) = order_of target from to
budget_order _ = None
