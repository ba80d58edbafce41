-- By whose messages the entries come that a pass makes.
use Rattle.std.specs.Prelude.{◌≡◌, ◌⊎◌, ℕ, ◌≤◌, List, ◌∷◌, length, take, Option}
use Rattle.std.specs.Prelude.{Some, slice_get}
use Rattle.turn_desk.specs.Histories.{Has}
use Rattle.turn_desk.specs.Passes.{PassState}
use Rattle.turn_desk.specs.Sources.{HasDoubt}
use Rattle.record_form.specs.declared.Entry.{Entry}
use Rattle.office_history.specs.History.{Office}
use Rattle.message_session.specs.Sessions.{Turn}
use Rattle.own_counter.specs.Requests.{IsAsked}
use Rattle.turn_counter.specs.Seen.{entry_in, office_seen}

-- the office with the entries before a place
abbrev pub front : Office → ℕ → Office
front o place = record { origin = o.origin; history = take place o.history }

-- One of the turns has a message that asks for this entry over the office, and has this place: each
-- has one at most.
abbrev pub IsAskedByOne : List Turn → List (Option ℕ) → ℕ → Office → Entry → Type 0
IsAskedByOne (turn ∷ turns) (at ∷ places) place o e =
    ((at ≡ Some place) × IsAsked turn o e) ⊎ IsAskedByOne turns places place o e
IsAskedByOne turns places place o e = ⊥

-- one of the turns asks for the entry at this place, over the office with those before it
abbrev pub AsksAt : List Turn → List (Option ℕ) → Office → ℕ → Type 0
AsksAt turns places o place = (e : Entry) × (slice_get o.history place ≡ Some e)
    × IsAskedByOne turns places place (front o place) e

-- one of the turns asks for the entry that was left in doubt behind these entries
abbrev pub AsksBehind : List Turn → List (Option ℕ) → Office → ℕ → List ℕ → Type 0
AsksBehind turns places o place bytes =
    (place ≤ length o.history)
    × IsAskedByOne turns places place (front o place) (entry_in bytes)

-- Each entry that the pass made in between, or left in doubt, is one for which a turn asks, and no
-- turn asks for two: these are the places of their entries, turn by turn.
pub record MakesAsked (turns : List Turn) (old new : PassState) : Type 0 where
  pub places : List (Option ℕ)
  pub each : length places ≡ length turns
  pub own : (place : ℕ) → Has new.own place
      → Has old.own place ⊎ AsksAt turns places (office_seen new) place
  pub raised : (place : ℕ) (bytes : List ℕ) → HasDoubt new.raised place bytes
      → HasDoubt old.raised place bytes ⊎ AsksBehind turns places (office_seen new) place bytes
