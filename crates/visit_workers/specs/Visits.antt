-- Visits that are served one after another at a door.
use Rattle.std.specs.Prelude.{◌≡◌, ◌≢◌, ℕ, ◌≤◌, List, [], ◌∷◌, ◌++◌, map, true, Option}
use Rattle.office_outside.specs.Faults.{Rose}
use Rattle.office_doors.specs.Books.{Book, Moves}
use Rattle.office_doors.specs.declared.Visit.{Visit}
use Rattle.message_session.specs.declared.SessionEnd.{SessionEnd}
use Rattle.message_session.specs.declared.SessionEnd.TheVariants.{NoMemory, ReadFault, WriteFault}
use Rattle.message_session.specs.Sessions.{EndsSo, SessionWorld, session_world}
use Rattle.office_session.specs.Messages.{Asking, AnswersMessage, refusal_text}

-- What is told of a visit: the bytes that its source has left and what its sink holds, how often
-- each of them has failed, and its clock's readings to come.
pub record VisitSenses (I O C : Type 0) : Type 0 where
  pub left : I → Option (List ℕ)
  pub reads : I → ℕ
  pub held : O → Option (List ℕ)
  pub writes : O → ℕ
  pub to_come : C → ℕ → Option ℕ

abbrev pub visit_senses : {I O C : Type 0} → (I → Option (List ℕ)) → (I → ℕ) → (O → Option (List ℕ))
    → (O → ℕ) → (C → ℕ → Option ℕ) → VisitSenses I O C
visit_senses left reads held writes to_come = record {
  left = left;
  reads = reads;
  held = held;
  writes = writes;
  to_come = to_come;
}

-- all that a session over a visit speaks to
abbrev pub visit_world : {T I O C : Type 0} → VisitSenses I O C → Visit I O C → T → SessionWorld T
visit_world look visit counter =
    session_world (look.left visit.input) (look.to_come visit.clock) counter
    (look.held visit.output)

-- One session ran over the visit, as it was handed out and as it is given back, until its messages
-- ended, one of them closed, or its source or its sink failed: no visit is given back unserved for
-- want of memory. It asked of the counter, and a fault is that of the visit's own source or sink.
pub record ServesVisit {T I O C : Type 0} (asks : Asking T) (look : VisitSenses I O C)
    (visit given : Visit I O C) (old new : T) : Type 0 where
  pub end : SessionEnd
  pub ends : EndsSo (AnswersMessage asks) refusal_text end (visit_world look visit old)
      (visit_world look given new)
  pub served : end ≢ NoMemory
  pub read : end ≡ ReadFault → Rose (look.reads visit.input) (look.reads given.input)
  pub read_later : look.reads visit.input ≤ look.reads given.input
  pub write : end ≡ WriteFault → Rose (look.writes visit.output) (look.writes given.output)
  pub write_later : look.writes visit.output ≤ look.writes given.output

-- a visit as it was handed out, and as it was given back
pub record Service (V : Type 0) : Type 0 where
  pub visit : V
  pub given : V

abbrev pub visits_of : {V : Type 0} → List (Service V) → List V
visits_of services = map (λ service. service.visit) services

abbrev pub given_of : {V : Type 0} → List (Service V) → List V
given_of services = map (λ service. service.given) services

-- The visits are served one after another: each session begins where the one before it ended.
abbrev pub Chain : {T I O C : Type 0} → Asking T → VisitSenses I O C → T
    → List (Service (Visit I O C)) → T → Type 0
Chain asks look old [] new = new ≡ old
Chain {T} asks look old (service ∷ services) new =
    (mid : T) × ServesVisit asks look service.visit service.given old mid
    × Chain asks look mid services new

-- These visits were handed out, the first that the door had, in order; and these came back.
pub record Gains {V : Type 0} (out back : List V) (old new : Book V) : Type 0 where
  pub handed : new.handed ≡ old.handed ++ out
  pub back_are : new.back ≡ old.back ++ back
  pub first : old.left ≡ out ++ new.left

-- What a worker did at a door: it served the visits that it was handed out, and gave each back.
pub record ServesVisits {T I O C : Type 0} (asks : Asking T) (look : VisitSenses I O C)
    (old new : T) (before after : Option (Book (Visit I O C))) : Type 0 where
  pub services : List (Service (Visit I O C))
  pub chain : Chain asks look old services new
  pub book : Moves (Gains (visits_of services) (given_of services)) before after

-- all visits were handed out, and the door has said so
pub record HasEnded {V : Type 0} (book : Book V) : Type 0 where
  pub ended : book.ended ≡ true
  pub none_left : book.left ≡ []
