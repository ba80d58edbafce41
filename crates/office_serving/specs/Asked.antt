-- By whose messages the entries of a served office come.
use Rattle.std.specs.Prelude.{◌≡◌, ◌⊎◌, ℕ, ◌≤◌, List, [], ◌∷◌, ◌++◌, length, Option, Some}
use Rattle.std.specs.Prelude.{slice_get}
use Rattle.office_doors.specs.declared.Visit.{Visit}
use Rattle.record_form.specs.declared.Entry.{Entry}
use Rattle.record_form.specs.Records.{record_of}
use Rattle.office_history.specs.History.{Office}
use Rattle.message_session.specs.Sessions.{Turn}
use Rattle.office_session.specs.Messages.{Asking, AnswersMessage, refusal_text}
use Rattle.turn_counter.specs.Asked.{IsAskedByOne, front}
use Rattle.turn_counter.specs.Seen.{record_if}
use Rattle.own_counter.specs.Requests.{turns_of}
use Rattle.visit_workers.specs.Visits.{Chain, VisitSenses, Service, visit_world}

-- the turns of the sessions over these visits, visit after visit
abbrev pub turns_of_chain : {T I O C : Type 0} (asks : Asking T) (look : VisitSenses I O C)
    (old : T) (services : List (Service (Visit I O C))) (new : T) → Chain asks look old services new
    → List Turn
turns_of_chain asks look old [] new same = []
turns_of_chain asks look old (service ∷ services) new (mid, serves, rest) =
    turns_of (AnswersMessage asks) refusal_text serves.end (visit_world look service.visit old)
    (visit_world look service.given mid) serves.ends
    ++ turns_of_chain asks look mid services new rest

-- the record is that of the entry in doubt
abbrev pub IsDoubted : Option Entry → Entry → Type 0
IsDoubted doubt e = record_if doubt ≡ Some (record_of e)

-- Each entry of the last history behind the first one is the one that was in doubt then, if it
-- stands first, or one of the turns has a message that asks for it, over the office with the
-- entries before it. No turn asks for two: these are the places of their entries, turn by turn.
pub record AddsNoOther (turns : List Turn) (first : Office) (doubt : Option Entry) (last : Office) :
    Type 0 where
  pub places : List (Option ℕ)
  pub asked : (place : ℕ) (e : Entry) → length first.history ≤ place
      → slice_get last.history place ≡ Some e
      → ((place ≡ length first.history) × IsDoubted doubt e)
      ⊎ IsAskedByOne turns places place (front last place) e
