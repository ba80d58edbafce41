-- A session over memory.
use Rattle.std.specs.Prelude.{◌≡◌, ℕ, List, [], ◌∷◌, ◌++◌, Option, Some}
use Rattle.office_outside.specs.Clocks.{reading_at}
use Rattle.message_session.specs.Sessions.{EndsSo, session_world}
use Rattle.message_session.specs.declared.SessionEnd.TheVariants.{Done}
use Rattle.office_session.specs.Messages.{Asking, AnswersMessage, refusal_text}

-- the readings to come of a clock that always reads this minute
abbrev pub steady_clock : ℕ → ℕ → Option ℕ
steady_clock reading k = Some (reading_at (reading ∷ []) k)

-- A session of these bytes ended well, and these are the answers.
pub record Plays {T : Type 0} (asks : Asking T) (bytes : List ℕ) (reading : ℕ) (old new : T)
    (answers : List ℕ) : Type 0 where
  pub left : Option (List ℕ)
  pub to_come : ℕ → Option ℕ
  pub ends : EndsSo (AnswersMessage asks) refusal_text Done
      (session_world (Some bytes) (steady_clock reading) old (Some []))
      (session_world left to_come new (Some answers))

-- the piece stands nowhere among the bytes
abbrev pub HasNone : List ℕ → List ℕ → Type 0
HasNone piece bytes = (front back : List ℕ) → bytes ≡ front ++ (piece ++ back) → ⊥
