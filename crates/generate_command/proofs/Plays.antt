-- A session over memory.
use Rattle.std.proofs.Common.{◌≡◌, ℕ, List, [], ◌∷◌, Option, Some, subst}
use Rattle.office_outside.specs.Clocks.{reading_at}
use Rattle.message_session.specs.Sessions.{EndsSo, session_world}
use Rattle.message_session.specs.declared.SessionEnd.TheVariants.{Done}
use Rattle.office_session.specs.Messages.{Asking, AnswersMessage, refusal_text}
use Rattle.generate_command.specs.Playing.{Plays, steady_clock}

-- the session that was played is one of these bytes, at this reading, into an empty sink
pub played : {T : Type 0} (asks : Asking T) (bytes : List ℕ) (reading : ℕ) (old new : T)
    (answers left readings held : List ℕ) (left_after : Option (List ℕ)) (to_come : ℕ → Option ℕ)
    → left ≡ bytes → readings ≡ reading ∷ [] → held ≡ []
    → EndsSo (AnswersMessage asks) refusal_text Done
    (session_world (Some left) (λ k. Some (reading_at readings k)) old (Some held))
    (session_world left_after to_come new (Some answers))
    → Plays asks bytes reading old new answers
played asks bytes reading old new answers left readings held left_after to_come left_is readings_is
    held_is ends =
    let after = session_world left_after to_come new (Some answers) in
    let from_left =
    subst
    (λ (l : List ℕ).
    EndsSo (AnswersMessage asks) refusal_text Done
    (session_world (Some l) (λ k. Some (reading_at readings k)) old (Some held)) after) left_is
    ends in
    let from_readings =
    subst
    (λ (r : List ℕ).
    EndsSo (AnswersMessage asks) refusal_text Done
    (session_world (Some bytes) (λ k. Some (reading_at r k)) old (Some held)) after) readings_is
    from_left in
    record {
      left = left_after;
      to_come = to_come;
      ends =
          subst
          (λ (h : List ℕ).
          EndsSo (AnswersMessage asks) refusal_text Done
          (session_world (Some bytes) (steady_clock reading) old (Some h)) after) held_is
          from_readings;
    }
