-- What a session asks that hears changes.
use Rattle.std.specs.Prelude.{◌≡◌, false, List, [], ◌∷◌}
use Rattle.message_session.specs.Sessions.{Turn}
use Rattle.record_form.specs.declared.Command.{Command}
use Rattle.record_form.specs.declared.Outcome.{Outcome}
use Rattle.record_form.specs.declared.Request.TheVariants.{Change}
use Rattle.wire_replies.specs.Answers.{no_memory_answer}
use Rattle.wire_replies.specs.Heads.{reply_bytes}
use Rattle.office_session.specs.Messages.{Asking, IsAnswerText}

-- The change is asked once, at the turn's reading, and its outcome is told; or memory ran out
-- before, which the answer says, and nothing is asked.
pub data AsksChange {T : Type 0} (asks : Asking T) (old : T) (turn : Turn) (change : Command)
    (new : T) : Type 0 where
  once : (outcome : Outcome) → asks old turn.reading (Change change) outcome new
      → IsAnswerText outcome false turn.answer → AsksChange asks old turn change new
  not_at_all : turn.answer ≡ reply_bytes false no_memory_answer → new ≡ old
      → AsksChange asks old turn change new

-- each turn asks its change, in order
abbrev pub AskChanges : {T : Type 0} → Asking T → T → List Turn → List Command → T → Type 0
AskChanges asks old [] [] new = new ≡ old
AskChanges {T} asks old (turn ∷ turns) (change ∷ changes) new =
    (mid : T) × AsksChange asks old turn change mid × AskChanges asks mid turns changes new
AskChanges asks old _ _ new = ⊥
