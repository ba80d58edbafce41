-- When an alert's condition holds.
use Rattle.std.specs.Prelude.{ℕ, Bool, ◌-◌, ◌&&◌, nat_le}
use Rattle.std.specs.List.{list_any}
use Rattle.exact_fraction.specs.declared.leaf.Leaf.{Leaf}
use Rattle.exact_fraction.specs.declared.op.Op.{Op}
use Rattle.exact_fraction.specs.declared.op.Op.TheVariants.{Gt}
use Rattle.slo_terms.specs.Sums.{sum_of_slices}
use Rattle.slo_terms.specs.Budget.{above_of}
use Rattle.burn_core.specs.declared.alert.AlertRule.{AlertRule}
use Rattle.burn_core.specs.declared.alert.AlertRule.TheVariants.{Single, Page, Ticket}
use Rattle.burn_core.specs.declared.alert.WindowPair.{WindowPair}
use Rattle.burn_core.specs.Alert.{page_pairs, ticket_pairs}

-- The burn rate over the `length` minutes before a minute is there and stands in `op` to a
-- threshold. The sum is over slices of `width` minutes; a window that would begin below 0
-- begins at 0.
abbrev pub burns : ℕ → (ℕ → Leaf) → ℕ → Op → ℕ → ℕ → ℕ → Bool
burns width leaf target op threshold length minute =
    above_of (sum_of_slices width leaf (minute - length) minute) target op threshold

-- the burn rates over both windows are there and above the number
abbrev pub both_burn : ℕ → (ℕ → Leaf) → ℕ → ℕ → WindowPair → Bool
both_burn width leaf target minute pair =
    burns width leaf target Gt pair.above pair.long minute
    && burns width leaf target Gt pair.above pair.short minute

-- what the rule says at a minute
abbrev pub burns_by : AlertRule → ℕ → ℕ → (ℕ → Leaf) → ℕ → Bool
burns_by (Single op threshold lookback after) target width leaf minute =
    burns width leaf target op threshold lookback minute
burns_by Page target width leaf minute = list_any (both_burn width leaf target minute) page_pairs
burns_by Ticket target width leaf minute =
    list_any (both_burn width leaf target minute) ticket_pairs

-- the condition: at no minute below the origin
unfoldable pub condition : AlertRule → ℕ → ℕ → ℕ → (ℕ → Leaf) → ℕ → Bool
condition rule target origin width leaf minute =
    nat_le origin minute && burns_by rule target width leaf minute
