-- What the table keeps of a pass, and how each kind of step changes it.
use Rattle.std.specs.Prelude.{◌≡◌, ℕ, ◌+◌, ◌-◌, ◌||◌, Bool, true, false, List, [], ◌++◌, length}
use Rattle.std.specs.Prelude.{nat_lt, if◌then◌else◌, None}
use Rattle.std.specs.declared.option.Option.{Option}
use Rattle.atomic_table.specs.Seated.{TableId}
use Rattle.atomic_table.specs.Table.{Me}
use Rattle.turn_desk.specs.Passes.{PassState, own_after, faults_after, longer_history}
use Rattle.turn_desk.specs.declared.view.Doubt.{Doubt}
use Rattle.turn_desk.specs.declared.view.Opening.{Opening}
use Rattle.turn_desk.specs.declared.view.View.{View}

-- what a pass is seen as
abbrev pub state_of : TableId → View → PassState
state_of desk v = record {
  desk = desk;
  root = v.root;
  seen = v.seen;
  own = v.own;
  raised = v.raised;
  faults = v.faults;
  opening = v.opening;
  parts = v.parts;
  has_split = v.has_split;
}

-- between two turns a pass holds neither the turn nor the value
pub record IsIdle {S : Type 0} (me : Me S View) : Type 0 where
  pub none_out : me.1 ≡ []
  pub idle : me.0.holds ≡ false
  pub live : me.0.live ≡ true

-- a pass that has seen this history, made none of it, and stands for so many
abbrev pub visitor : List ℕ → List (List ℕ) → Opening → ℕ → View
visitor root seen opening parts = record {
  live = true;
  holds = false;
  root = root;
  seen = seen;
  doubt = None;
  own = [];
  raised = [];
  faults = 0;
  opening = opening;
  parts = parts;
  has_split = false;
  other_root = root;
  other_seen = [];
}

-- a pass that was joined to another
abbrev pub spent_pass : View
spent_pass = record {
  live = false;
  holds = false;
  root = [];
  seen = [];
  doubt = None;
  own = [];
  raised = [];
  faults = 0;
  opening = record { length = 0; doubt = None; passes = 0 };
  parts = 0;
  has_split = false;
  other_root = [];
  other_seen = [];
}

-- the pass, once it holds the turn over this history and this entry in doubt
abbrev pub with_turn : View → List (List ℕ) → Option (List ℕ) → View
with_turn v history doubt = record v { holds = true; seen = history; doubt = doubt }

-- the holder, once the history has grown, and this was left in doubt
abbrev pub holder_after : Bool → Bool → List Doubt → View → List (List ℕ) → Option (List ℕ) → View
holder_after added rose left v history doubt = record v {
  seen = history;
  doubt = doubt;
  own = own_after v.own added (length history);
  raised = v.raised ++ left;
  faults = faults_after v.faults rose;
}

-- the holder, once it has given the turn back
abbrev pub without_turn : View → View
without_turn v = record v { holds = false }

-- the pass that one was split off
abbrev pub host : View → View
host v = record v { has_split = true }

-- the pass that stands for one less, since it has given a part away
abbrev pub giver : View → View
giver v = record v { parts = v.parts - 1 }

abbrev pub shorter_history : List (List ℕ) → List (List ℕ) → List (List ℕ)
shorter_history a b = if nat_lt (length a) (length b) then a else b

-- what two passes have seen and made
abbrev pub view_of_both : View → View → View
view_of_both v w = record v {
  seen = longer_history v.seen w.seen;
  own = v.own ++ w.own;
  raised = v.raised ++ w.raised;
  parts = v.parts + w.parts;
  has_split = v.has_split || w.has_split;
  other_root = w.root;
  other_seen = shorter_history v.seen w.seen;
}
