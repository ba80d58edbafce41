-- How a pass sits at the table of a desk, and how it comes to the turn.
use Rattle.std.specs.Prelude.{◌≡◌, [], ◌∷◌, Some}
use Rattle.std.specs.declared.option.Option.{Option as Maybe}
use Rattle.atomic_table.specs.Seated.{TableId}
use Rattle.atomic_table.specs.declared.Seat.{Seat}
use Rattle.turn_desk.specs.Histories.{Extends}
use Rattle.turn_desk.specs.Ledgers.{Ledger}
use Rattle.turn_desk.specs.Rule.{HasAll, IsDesk}
use Rattle.turn_desk.specs.Sources.{Accounts}
use Rattle.turn_desk.specs.Views.{with_turn}
use Rattle.turn_desk.specs.declared.view.View.{View}

-- the seat is one of the table, and the table is a desk's
abbrev pub IsSeatOf : {T : Type 0} → TableId → Seat (Maybe T) View → Type 0
IsSeatOf table seat = (seat.table_id ≡ table) × IsDesk table

-- it is the same seat of the same table
abbrev pub IsSameSeat : {T : Type 0} → Seat (Maybe T) View → Seat (Maybe T) View → Type 0
IsSameSeat old new = (new.table_id ≡ old.table_id) × (new.id ≡ old.id)

-- The history begins with what the pass has seen, and the root is the pass's. If it stands for all,
-- it knows of each entry.
abbrev pub Continues : View → Ledger → Type 0
Continues v ledger = Extends v.seen ledger.history × (ledger.root ≡ v.root)
    × (HasAll v → Accounts v.opening v.own v.raised ledger.history)

-- The pass holds the turn over the history of the value that was at home, and has that value.
abbrev pub HasTurn : {T : Type 0} → (T → Ledger) → Seat (Maybe T) View → Seat (Maybe T) View
    → Type 0
HasTurn {T} ledger old new = (y : T)
    × (new.me ≡ (with_turn old.me.0 (ledger y).history (ledger y).doubt, (0, Some y) ∷ []))
    × Continues old.me.0 (ledger y)

-- the holder knows what this value has
pub record Knows (v : View) (ledger : Ledger) : Type 0 where
  pub seen : v.seen ≡ ledger.history
  pub doubt : v.doubt ≡ ledger.doubt
  pub root : v.root ≡ ledger.root
