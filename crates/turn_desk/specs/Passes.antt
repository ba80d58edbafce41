-- What a pass is seen as, and what its calls make of it.
use Rattle.std.specs.Prelude.{ℕ, ◌+◌, ◌-◌, ◌||◌, Bool, true, false, List, [], ◌∷◌, ◌++◌, length}
use Rattle.std.specs.Prelude.{nat_lt, if◌then◌else◌}
use Rattle.atomic_table.specs.Seated.{TableId}
use Rattle.turn_desk.specs.Ledgers.{Ledger}
use Rattle.turn_desk.specs.declared.view.Doubt.{Doubt}
use Rattle.turn_desk.specs.declared.view.Opening.{Opening}

-- The desk, the root of its value, the history that the pass has seen, the positions of its own
-- entries in the order in which it made them, what its turns left in doubt, and how many of its
-- turns had a fault. And how the desk was opened, for how many of the passes of then it stands, and
-- whether a further pass was split off it.
pub record PassState : Type 0 where
  pub desk : TableId
  pub root : List ℕ
  pub seen : List (List ℕ)
  pub own : List ℕ
  pub raised : List Doubt
  pub faults : ℕ
  pub opening : Opening
  pub parts : ℕ
  pub has_split : Bool

-- a desk was opened over this value for so many passes
abbrev pub opening_of : Ledger → ℕ → Opening
opening_of ledger passes =
    record { length = length ledger.history; doubt = ledger.doubt; passes = passes }

-- One of the passes that a desk over this value was opened for: it has seen the history, and made
-- none of it.
abbrev pub newcomer : TableId → Ledger → ℕ → PassState
newcomer desk ledger passes = record {
  desk = desk;
  root = ledger.root;
  seen = ledger.history;
  own = [];
  raised = [];
  faults = 0;
  opening = opening_of ledger passes;
  parts = 1;
  has_split = false;
}

-- the pass stands for so many
abbrev pub with_parts : ℕ → PassState → PassState
with_parts parts p = record p { parts = parts }

-- a further pass was split off this one
abbrev pub with_guest : PassState → PassState
with_guest p = record p { has_split = true }

-- A pass that was split off another: it has seen as much, has made none of it, and the desk wasn't
-- opened for it.
abbrev pub guest_of : PassState → PassState
guest_of p = record p { own = []; raised = []; faults = 0; parts = 0; has_split = false }

-- the last position of a history of this length joins a pass's own where it added an entry
abbrev pub own_after : List ℕ → Bool → ℕ → List ℕ
own_after own added now = if added then own ++ (now - 1) ∷ [] else own

-- the pass counts each turn in which the value's count of faults rose
abbrev pub faults_after : ℕ → Bool → ℕ
faults_after faults rose = if rose then faults + 1 else faults

-- the pass after a turn that left this history, and this in doubt
abbrev pub after_turn : Bool → Bool → List Doubt → List (List ℕ) → PassState → PassState
after_turn added rose left history p = record p {
  seen = history;
  own = own_after p.own added (length history);
  raised = p.raised ++ left;
  faults = faults_after p.faults rose;
}

abbrev pub longer_history : List (List ℕ) → List (List ℕ) → List (List ℕ)
longer_history a b = if nat_lt (length a) (length b) then b else a

-- one pass for two: it has seen the longer history, has both lists of own entries and of what was
-- left in doubt, and stands for both; it keeps its root, its opening and its count
abbrev pub pass_of_both : PassState → PassState → PassState
pass_of_both p q = record p {
  seen = longer_history p.seen q.seen;
  own = p.own ++ q.own;
  raised = p.raised ++ q.raised;
  parts = p.parts + q.parts;
  has_split = p.has_split || q.has_split;
}
