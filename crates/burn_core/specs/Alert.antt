-- Rules of alerts: the pairs of windows of the built-in ones, and what each rule waits for
-- and looks at.
use Rattle.std.specs.Prelude.{ℕ, Bool, ◌≤◌, ⊤, List, [], ◌∷◌, codes}
use Rattle.slo_limits.specs.declared.TheConstants.{MAX_LOOKBACK, MAX_THRESHOLD}
use Rattle.burn_core.specs.declared.alert.AlertRule.{AlertRule}
use Rattle.burn_core.specs.declared.alert.AlertRule.TheVariants.{Single, Page, Ticket}
use Rattle.burn_core.specs.declared.alert.WindowPair.{WindowPair}
use Rattle.burn_core.specs.declared.alert.State.{State}
use Rattle.burn_core.specs.declared.alert.State.TheVariants.{Quiet, NoData, Breaching}
use Rattle.burn_core.specs.declared.alert.Flags.{Flags}

-- Site Reliability Workbook, 'Alerting on SLOs', 'Multiwindow, Multi-Burn-Rate Alerts', the
-- recommended parameters: the long window, the short one of a twelfth, and the burn rate
-- (in billionths) that both must be above. Of a budget of 30 days 2% in one hour and 5% in
-- six hours page,
abbrev pub page_pairs : List WindowPair
page_pairs =
    record { long = 60; short = 5; above = 14400000000 }
    ∷ record { long = 360; short = 30; above = 6000000000 }
    ∷ []

-- and 10% in three days are a ticket.
abbrev pub ticket_pairs : List WindowPair
ticket_pairs = record { long = 4320; short = 360; above = 1000000000 } ∷ []

-- for how many minutes the condition must have held before the alert is active
-- (OpenSLO v1, `alertAfter`)
abbrev pub wait_of : AlertRule → ℕ
wait_of (Single op threshold lookback after) = after
wait_of Page = 0
wait_of Ticket = 0

-- the minutes without which there is no data: the lookback, of a built-in rule the first
-- pair's long window
abbrev pub lookback_of : AlertRule → ℕ
lookback_of (Single op threshold lookback after) = lookback
lookback_of Page = 60
lookback_of Ticket = 4320

-- how far the condition of a minute looks back: the longest window
abbrev pub reach_of : AlertRule → ℕ
reach_of (Single op threshold lookback after) = lookback
reach_of Page = 360
reach_of Ticket = 4320

-- thresholds of at most 10,000; lookback and wait of at most 30 days
abbrev pub IsRule : AlertRule → Type 0
IsRule (Single op threshold lookback after) = (threshold ≤ MAX_THRESHOLD)
    × (lookback ≤ MAX_LOOKBACK) × (after ≤ MAX_LOOKBACK)
IsRule Page = ⊤
IsRule Ticket = ⊤

-- the flag of a state: whether there is a notice where an alert comes to it
abbrev pub flag_of : Flags → State → Bool
flag_of flags Quiet = flags.resolved
flag_of flags NoData = flags.no_data
flag_of flags Breaching = flags.breaching

-- the word of a state in answers and reports
abbrev pub state_word : State → List ℕ
state_word Quiet = codes "quiet"
state_word NoData = codes "no_data"
state_word Breaching = codes "breaching"
