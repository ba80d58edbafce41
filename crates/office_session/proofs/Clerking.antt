-- What the one does who answers, told of the counter alone.
use Rattle.std.proofs.Common.{◌≡◌, ℕ, List, Bool, Ok, Err, refl, sym, subst, ◌∙◌}
use Rattle.std.specs.declared.result.Result.{Result}
use Rattle.std.specs.Result.{OnOk, OnErr}
use Rattle.message_heads.specs.Streams.{Said}
use Rattle.message_session.specs.Sessions.{SessionWorld, session_world, EndsSo}
use Rattle.message_session.specs.declared.SessionEnd.{SessionEnd}
use Rattle.office_session.specs.declared.clerk.Clerk.{Clerk}
use Rattle.office_session.specs.Clerks.{Serves}
use Rattle.office_session.specs.Messages.{Asking, AnswersMessage, refusal_text}
use Rattle.office_session.proofs.Keeping.{end_keeps}
use Rattle.office_session.proofs.Seeing.{end_seen}

-- the text that was written, whole or in part, is that of the reply
pub answered_whole : {E : Type 0} {T : Type 0} (asks : Asking T) (old : Clerk T) (said : Said)
    (last : Bool) (reading : ℕ) (text : List ℕ) (new : Clerk T)
    (result : Result (Unit {0}) E) (Got : List ℕ → Type 0)
    → Serves asks old said last reading text new → OnOk result (Got text)
    → OnOk result ((text : List ℕ) × Serves asks old said last reading text new × Got text)
answered_whole asks old said last reading text new (Ok done) Got serves got = (text, serves, got)
answered_whole asks old said last reading text new (Err failed) Got serves got = got

pub answered_part : {E : Type 0} {T : Type 0} (asks : Asking T) (old : Clerk T) (said : Said)
    (last : Bool) (reading : ℕ) (text : List ℕ) (new : Clerk T)
    (result : Result (Unit {0}) E) (Got : List ℕ → Type 0)
    → Serves asks old said last reading text new → OnErr result (Got text)
    → OnErr result ((text : List ℕ) × Serves asks old said last reading text new × Got text)
answered_part asks old said last reading text new (Ok done) Got serves got = got
answered_part asks old said last reading text new (Err failed) Got serves got = (text, serves, got)

-- the counter is the one that was given
clerk_keeps : {T : Type 0} (asks : Asking T) (end : SessionEnd) (old new : SessionWorld (Clerk T))
    → EndsSo (Serves asks) (λ clerk status. refusal_text clerk status) end old new
    → new.handler.counter.ghost_name ≡ old.handler.counter.ghost_name
clerk_keeps asks end old new ends =
    end_keeps (Serves asks) (λ a b. b.counter.ghost_name ≡ a.counter.ghost_name) (λ a. refl)
    (λ a b c same more. more ∙ same)
    (λ a said last reading text b serves. serves.same)
    (λ clerk status. refusal_text clerk status) end old new ends

-- what became of the counter behind the reference
pub counter_ends : {T : Type 0} (asks : Asking T) (end : SessionEnd)
    (old new : SessionWorld (Clerk T)) (counter : T)
    → EndsSo (Serves asks) (λ clerk status. refusal_text clerk status) end old new
    → (old.handler.counter.ghost_name ≡ new.handler.counter.ghost_name
    → counter ≡ new.handler.counter.now)
    → EndsSo (AnswersMessage asks) refusal_text end
    (session_world old.left old.to_come old.handler.counter.now old.held)
    (session_world new.left new.to_come counter new.held)
counter_ends {T} asks end old new counter ends behind =
    subst (λ (t : T). EndsSo (AnswersMessage asks) refusal_text end
    (session_world old.left old.to_come old.handler.counter.now old.held)
    (session_world new.left new.to_come t new.held))
    (sym (behind (sym (clerk_keeps asks end old new ends))))
    (end_seen (Serves asks) (AnswersMessage asks) (λ clerk. clerk.counter.now)
    (λ a said last reading text b serves. serves.treats)
    (λ clerk status. refusal_text clerk status) refusal_text
    (λ clerk status. refl) end old new ends)
