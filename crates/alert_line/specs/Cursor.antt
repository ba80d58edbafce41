-- The windows of a rule, summed up at one minute.
use Rattle.std.specs.Prelude.{ℕ, ◌+◌, ◌-◌, ◌^◌, ◌≡◌, ◌≤◌, ◌<◌, List, [], ◌∷◌}
use Rattle.exact_fraction.specs.declared.leaf.Leaf.{Leaf}
use Rattle.slo_terms.specs.Sums.{most_events, slice_from, slices_until, sum_of_slices}
use Rattle.burn_core.specs.declared.alert.AlertRule.{AlertRule}
use Rattle.burn_core.specs.declared.alert.AlertRule.TheVariants.{Single, Page, Ticket}
use Rattle.burn_core.specs.declared.alert.WindowPair.{WindowPair}
use Rattle.burn_core.specs.Alert.{page_pairs, ticket_pairs}
use Rattle.alert_line.specs.declared.window.Advance.{Advance}
use Rattle.alert_line.specs.declared.window.Window.{Window}
use Rattle.alert_line.specs.declared.late.LateWindow.{LateWindow}
use Rattle.alert_line.specs.declared.cursor.PairWindows.{PairWindows}
use Rattle.alert_line.specs.declared.cursor.Windows.{Windows}
use Rattle.alert_line.specs.declared.cursor.Windows.TheVariants.{OfSingle, OfPage, OfTicket}
use Rattle.alert_line.specs.declared.cursor.Cursor.{Cursor}

-- a window holds the sum over the `length` minutes before a minute
pub record IsOver (width : ℕ) (leaf : ℕ → Leaf) (length minute : ℕ) (window : Window) : Type 0 where
  pub first : window.first ≡ slice_from width (minute - length)
  pub end : window.end ≡ slices_until width minute
  pub sum : window.sum ≡ sum_of_slices width leaf (minute - length) minute
  pub part : window.sum.num ≤ window.sum.den
  pub few : window.sum.den ≤ most_events

-- windows that move on by a minute end where that minute ends, and gain the leaf of the slice that
-- ends there, if one does
pub record IsAdvance (width : ℕ) (leaf : ℕ → Leaf) (advance : Advance) : Type 0 where
  pub early : advance.minute + 1 < 2 ^ 32
  pub wide : advance.width ≡ width
  pub some : 0 < advance.width
  pub end : advance.end ≡ slices_until width (advance.minute + 1)
  pub gained : slices_until width advance.minute < advance.end
      → advance.leaf ≡ leaf (slices_until width advance.minute)

-- a window that may be late holds that sum at a minute of its own, no later than the one looked at
pub record IsLate (width : ℕ) (leaf : ℕ → Leaf) (length minute : ℕ) (late : LateWindow) :
    Type 0 where
  pub behind : late.minute ≤ minute
  pub over : IsOver width leaf length late.minute late.window

-- two windows hold the sums of a pair, the long one as it was
pub record AreOver (width : ℕ) (leaf : ℕ → Leaf) (pair : WindowPair) (minute : ℕ)
    (windows : PairWindows) : Type 0 where
  pub same : windows.pair ≡ pair
  pub long : IsLate width leaf pair.long minute windows.long
  pub short : IsOver width leaf pair.short minute windows.short

-- windows hold the sums of pairs, each of its own
abbrev pub AllOver : ℕ → (ℕ → Leaf) → ℕ → List WindowPair → List PairWindows → Type 0
AllOver width leaf minute [] [] = Unit {0}
AllOver width leaf minute (p ∷ ps) (w ∷ ws) =
    AreOver width leaf p minute w × AllOver width leaf minute ps ws
AllOver width leaf minute _ _ = ⊥

abbrev pub rule_of : Windows → AlertRule
rule_of (OfSingle op threshold lookback after window) = Single op threshold lookback after
rule_of (OfPage fast slow) = Page
rule_of (OfTicket pair) = Ticket

-- by how many minutes the long windows are behind a minute, all together
abbrev pub late_in : ℕ → Windows → ℕ
late_in minute (OfSingle op threshold lookback after window) = 0
late_in minute (OfPage fast slow) = (minute - fast.long.minute) + (minute - slow.long.minute)
late_in minute (OfTicket pair) = minute - pair.long.minute

abbrev pub lag_of : Cursor → ℕ
lag_of cursor = late_in cursor.minute cursor.windows

-- the windows hold the sums of their rule at a minute
abbrev pub StandAt : ℕ → (ℕ → Leaf) → ℕ → Windows → Type 0
StandAt width leaf minute (OfSingle op threshold lookback after window) =
    IsOver width leaf lookback minute window
StandAt width leaf minute (OfPage fast slow) =
    AllOver width leaf minute page_pairs (fast ∷ slow ∷ [])
StandAt width leaf minute (OfTicket pair) = AllOver width leaf minute ticket_pairs (pair ∷ [])

-- a cursor of a rule, with the sums of the minute at which it stands
pub record IsAt (alert : AlertRule) (width : ℕ) (leaf : ℕ → Leaf) (minute : ℕ)
    (cursor : Cursor) : Type 0 where
  pub rule : rule_of cursor.windows ≡ alert
  pub at : cursor.minute ≡ minute
  pub stands : StandAt width leaf minute cursor.windows

-- .. which is before a minute
pub record IsBehind (alert : AlertRule) (width : ℕ) (leaf : ℕ → Leaf) (minute : ℕ)
    (cursor : Cursor) : Type 0 where
  pub before : cursor.minute < minute
  pub is : IsAt alert width leaf cursor.minute cursor
