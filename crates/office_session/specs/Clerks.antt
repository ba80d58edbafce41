-- What the one does who answers the messages of a session.
use Rattle.std.specs.Prelude.{◌≡◌, ℕ, List, Bool}
use Rattle.message_heads.specs.Streams.{Said}
use Rattle.office_session.specs.declared.clerk.Clerk.{Clerk}
use Rattle.office_session.specs.Messages.{Asking, AnswersMessage}

-- It treats each message over its counter, which stays the one that it was given.
pub record Serves {T : Type 0} (asks : Asking T) (old : Clerk T) (said : Said) (last : Bool)
    (reading : ℕ) (text : List ℕ) (new : Clerk T) : Type 0 where
  pub treats : AnswersMessage asks old.counter.now said last reading text new.counter.now
  pub same : new.counter.ghost_name ≡ old.counter.ghost_name
