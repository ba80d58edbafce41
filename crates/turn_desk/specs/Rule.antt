-- The rule of a desk between any two steps, and what each kind of step tells. Word 0 of the table
-- is the mark, word 1 the length of the history, and the one slot is the value's place.
use Rattle.std.specs.Prelude.{◌≡◌, ◌≢◌, ◌⊎◌, ℕ, ◌<◌, Bool, true, false, List, [], ◌∷◌, length, Some}
use Rattle.std.specs.Prelude.{slice_get}
use Rattle.std.specs.declared.option.Option.{Option as Maybe}
use mathlib.Core.Option.{Option, some}
use lib.ListN.{get_elem?}
use Rattle.atomic_table.specs.Seated.{TableId}
use Rattle.atomic_table.specs.Table.{State, Me, Step}
use Rattle.turn_desk.specs.Histories.{Extends, Comparable, Has, Distinct}
use Rattle.turn_desk.specs.Ledgers.{Ledger}
use Rattle.turn_desk.specs.Passes.{opening_of}
use Rattle.turn_desk.specs.Sources.{Accounts, IsMadeBy, IsOld, total}
use Rattle.turn_desk.specs.Views.{visitor, with_turn, holder_after, without_turn}
use Rattle.turn_desk.specs.declared.view.Doubt.{Doubt}
use Rattle.turn_desk.specs.declared.view.Opening.{Opening}
use Rattle.turn_desk.specs.declared.view.View.{View}

-- a table with two words and one slot
abbrev pub IsDesk : TableId → Type 0
IsDesk table = (table.words ≡ 2) × (table.slots ≡ 1)

-- What the rule says of one view, over the history, the root, the opening and the mark. A live pass
-- has the root and the opening. What it has seen begins the history, and its own positions lie in
-- it. The holder has set the mark, and has seen all of the history.
pub record Fits (history : List (List ℕ)) (root : List ℕ) (opening : Opening) (mark : ℕ)
    (v : View) : Type 0 where
  pub root_is : v.live ≡ true → v.root ≡ root
  pub other_root_is : v.live ≡ true → v.other_root ≡ root
  pub opening_is : v.live ≡ true → v.opening ≡ opening
  pub extends : Extends v.seen history
  pub other_extends : Extends v.other_seen history
  pub within : (p : ℕ) → Has v.own p → p < length v.seen
  pub distinct : Distinct v.own
  pub holder : v.holds ≡ true → (mark ≡ 1) × (v.seen ≡ history)

-- some live pass holds the turn
abbrev pub Held : List View → Type 0
Held views = (i : ℕ) × (v : View) × (get_elem? views i ≡ some v) × (v.live ≡ true)
    × (v.holds ≡ true)

-- one pass at most holds the turn
abbrev pub One : List View → Type 0
One views = (i j : ℕ) (u v : View) → get_elem? views i ≡ some u → get_elem? views j ≡ some v
    → u.holds ≡ true → v.holds ≡ true → i ≡ j

-- no two passes have a position in common
abbrev pub Apart : List View → Type 0
Apart views = (i j : ℕ) (u v : View) → i ≢ j → get_elem? views i ≡ some u
    → get_elem? views j ≡ some v → (p : ℕ) → Has u.own p → Has v.own p → ⊥

-- the entry at the place is one of some pass
abbrev pub IsMade : List View → ℕ → List ℕ → Type 0
IsMade views place entry = (i : ℕ) × (v : View) × (get_elem? views i ≡ some v)
    × IsMadeBy v.own v.raised place entry

-- it was there when the desk was opened, or in doubt then, or is one of some pass
abbrev pub Stems : Opening → List View → ℕ → List ℕ → Type 0
Stems opening views place entry = IsOld opening place entry ⊎ IsMade views place entry

-- so does each entry of the history
abbrev pub Covers : Opening → List View → List (List ℕ) → Type 0
Covers opening views history = (place : ℕ) (entry : List ℕ)
    → slice_get history place ≡ Some entry → Stems opening views place entry

-- so does an entry in doubt, behind the history
abbrev pub Foresees : Opening → List View → List (List ℕ) → Maybe (List ℕ) → Type 0
Foresees opening views history doubt =
    (entry : List ℕ) → doubt ≡ Some entry → Stems opening views (length history) entry

-- that in doubt of the value that a holder has
abbrev pub HoldersForesee : Opening → List View → List (List ℕ) → Type 0
HoldersForesee opening views history = (i : ℕ) (v : View) → get_elem? views i ≡ some v
    → v.holds ≡ true → Foresees opening views history v.doubt

-- the pass was joined to another, and has nothing of its own
pub record IsSpent (v : View) : Type 0 where
  pub spent : v.live ≡ false
  pub none_own : v.own ≡ []
  pub none_raised : v.raised ≡ []

-- off some pass that stands for one of the desk's a further one was split
abbrev pub HasGuests : List View → Type 0
HasGuests views = (i : ℕ) × (v : View) × (get_elem? views i ≡ some v) × (0 < v.parts)
    × (v.has_split ≡ true)

-- a pass that stands for none of the desk's is spent, or one was split off
abbrev pub GuestsAreKnown : List View → Type 0
GuestsAreKnown views = (i : ℕ) (v : View) → get_elem? views i ≡ some v → v.parts ≡ 0
    → IsSpent v ⊎ HasGuests views

-- the pass stands for all that the desk was opened for, and none was split off it
pub record HasAll (v : View) : Type 0 where
  pub whole : v.parts ≡ v.opening.passes
  pub alone : v.has_split ≡ false

module _ {T : Type 0} (ledger : T → Ledger) where
  -- how a desk over this value was opened
  abbrev pub opened : T → ℕ → Opening
  opened first passes = opening_of (ledger first) passes

  -- The mark is 0 exactly where no pass holds the turn, and 1 exactly where one does; one at most
  -- does. While it is 0 the value is at home with the whole history. While it isn't, the history
  -- is the holder's. Each entry is one from before, or some pass's.
  pub record Ruled (first : T) (passes : ℕ) (s : State (Maybe T) View) : Type 0 where
    pub history : List (List ℕ)
    pub mark : ℕ
    pub home : Option (Maybe T)
    pub words_are : s.words ≡ mark ∷ length history ∷ []
    pub homes_are : s.homes ≡ home ∷ []
    pub extends : Extends (ledger first).history history
    pub at_home : mark ≡ 0 → (y : T) × (home ≡ some (Some y)) × ((ledger y).history ≡ history)
        × ((ledger y).root ≡ (ledger first).root)
        × Foresees (opened first passes) s.views history (ledger y).doubt
    pub held : mark ≢ 0 → Held s.views
    pub each : (i : ℕ) (v : View) → get_elem? s.views i ≡ some v
        → Fits history (ledger first).root (opened first passes) mark v
    pub one : One s.views
    pub apart : Apart s.views
    pub covers : Covers (opened first passes) s.views history
    pub foresee : HoldersForesee (opened first passes) s.views history
    pub whole : total (λ v. v.parts) s.views ≡ passes
    pub guests : GuestsAreKnown s.views

  -- the first pass has seen what the value had, and stands for all
  abbrev pub first_view : T → ℕ → View
  first_view first passes =
      visitor (ledger first).root (ledger first).history (opened first passes) passes

  -- Where the mark was clear, the pass holds the turn and has the value; else nothing changes. A
  -- pass that stands for all knows of each entry.
  pub record Took (st : Step (Maybe T)) (m : Me (Maybe T) View) (n : ℕ)
      (m' : Me (Maybe T) View) : Type 0 where
    pub won : n ≡ 0 → (y : T) × (m'.1 ≡ (0, Some y) ∷ m.1)
        × (m'.0 ≡ with_turn m.0 (ledger y).history (ledger y).doubt)
        × Extends m.0.seen (ledger y).history × ((ledger y).root ≡ m.0.root)
        × (HasAll m.0 → Accounts m.0.opening m.0.own m.0.raised (ledger y).history)
    pub lost : n ≢ 0 → m' ≡ m

  -- the holder has seen the history of the value that it has
  abbrev pub Grew : Bool → Bool → List Doubt → Step (Maybe T) → Me (Maybe T) View → ℕ
      → Me (Maybe T) View → Type 0
  Grew added rose left st m n m' = (y : T) → m.1 ≡ (0, Some y) ∷ []
      → m' ≡ (holder_after added rose left m.0 (ledger y).history (ledger y).doubt, m.1)

  -- the holder has given back the turn and the value
  abbrev pub Freed : Step (Maybe T) → Me (Maybe T) View → ℕ → Me (Maybe T) View → Type 0
  Freed st m n m' = m' ≡ (without_turn m.0, [])

  -- what a pass finds by a look, of itself and of the pass that was joined to it last
  pub record Compared (st : Step (Maybe T)) (m : Me (Maybe T) View) (n : ℕ)
      (m' : Me (Maybe T) View) : Type 0 where
    pub same : m' ≡ m
    pub one_root : m.0.live ≡ true → m.0.other_root ≡ m.0.root
    pub one_history : Comparable m.0.seen m.0.other_seen
    pub within : (p : ℕ) → Has m.0.own p → p < length m.0.seen
    pub apart : Distinct m.0.own
