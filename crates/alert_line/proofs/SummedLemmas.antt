-- Windows that are of a rule, and windows whatever their rule is.
use Rattle.std.proofs.Common.{ℕ, Option, Some, None, IfSome, refl}
use Rattle.exact_fraction.specs.declared.leaf.Leaf.{Leaf}
use Rattle.burn_core.specs.declared.alert.AlertRule.{AlertRule}
use Rattle.alert_line.specs.Cursor.{IsAt}
use Rattle.alert_line.specs.Summed.{IsSummedAt}
use Rattle.alert_line.specs.declared.cursor.Cursor.{Cursor}

pub summed-of : (rule : AlertRule) (width : ℕ) (leaf : ℕ → Leaf) (minute : ℕ)
    (cursor : Option Cursor) → IfSome cursor (IsAt rule width leaf minute)
    → IfSome cursor (IsSummedAt width leaf minute)
summed-of rule width leaf minute None is = tt
summed-of rule width leaf minute (Some cursor) is =
    record { rule = refl; at = is.at; stands = is.stands }
