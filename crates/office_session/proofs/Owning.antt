-- What a session over a counter leaves of its history and of its own places.
use Rattle.std.proofs.Common.{ℕ, List, Bool, sym, subst}
use Rattle.message_heads.specs.Streams.{Said}
use Rattle.record_form.specs.declared.Outcome.{Outcome}
use Rattle.record_form.specs.declared.Request.{Request}
use Rattle.office_counter.specs.Laws.{Extends, IsOwned}
use Rattle.office_counter.specs.Steps.{Standing, Step}
use Rattle.office_counter.proofs.Steps.{step_owned, step_extends, extends_still, extends_both}
use Rattle.message_session.specs.Sessions.{SessionWorld, Turn, Trace, EndsSo}
use Rattle.message_session.specs.declared.SessionEnd.{SessionEnd}
use Rattle.office_session.specs.Messages.{Asking, AnswersMessage, asked, at_once, unread}
use Rattle.office_session.specs.Messages.{refusal_text}
use Rattle.office_session.proofs.Keeping.{trace_keeps, end_keeps}

module _ {T : Type 0} (asks : Asking T) (standing : T → Standing)
    (steps : (old : T) (reading : ℕ) (request : Request) (outcome : Outcome) (new : T)
    → asks old reading request outcome new
    → Step (standing old) reading request outcome (standing new)) where
  turn_owned : (old : T) (said : Said) (last : Bool) (reading : ℕ) (text : List ℕ) (new : T)
      → AnswersMessage asks old said last reading text new → IsOwned (standing old)
      → IsOwned (standing new)
  turn_owned old said last reading text new (asked request outcome stands asking answer) owned =
      step_owned (standing old) reading request outcome (standing new)
      (steps old reading request outcome new asking) owned
  turn_owned old said last reading text new (at_once reason stands answer is) owned =
      subst (λ (t : T). IsOwned (standing t)) (sym is) owned
  turn_owned old said last reading text new (unread answer is) owned =
      subst (λ (t : T). IsOwned (standing t)) (sym is) owned

  pub turns_owned : (count : ℕ) (old : T) (turns : List Turn) (new : T)
      → Trace (AnswersMessage asks) count old turns new
      → IsOwned (standing old) → IsOwned (standing new)
  turns_owned count old turns new trace =
      trace_keeps (AnswersMessage asks) (λ a b. IsOwned (standing a) → IsOwned (standing b))
      (λ a owned. owned)
      (λ a b c first second owned. second (first owned)) turn_owned count old turns new trace

  pub end_owned : (end : SessionEnd) (old new : SessionWorld T)
      → EndsSo (AnswersMessage asks) refusal_text end old new
      → IsOwned (standing old.handler) → IsOwned (standing new.handler)
  end_owned end old new ends =
      end_keeps (AnswersMessage asks) (λ a b. IsOwned (standing a) → IsOwned (standing b))
      (λ a owned. owned)
      (λ a b c first second owned. second (first owned)) turn_owned refusal_text end old new ends

  turn_extends : (old : T) (said : Said) (last : Bool) (reading : ℕ) (text : List ℕ) (new : T)
      → AnswersMessage asks old said last reading text new
      → Extends (standing old).office (standing new).office
  turn_extends old said last reading text new (asked request outcome stands asking answer) =
      step_extends (standing old) reading request outcome (standing new)
      (steps old reading request outcome new asking)
  turn_extends old said last reading text new (at_once reason stands answer is) =
      subst (λ (t : T). Extends (standing old).office (standing t).office) (sym is)
      (extends_still (standing old).office)
  turn_extends old said last reading text new (unread answer is) =
      subst (λ (t : T). Extends (standing old).office (standing t).office) (sym is)
      (extends_still (standing old).office)

  pub turns_extend : (count : ℕ) (old : T) (turns : List Turn) (new : T)
      → Trace (AnswersMessage asks) count old turns new
      → Extends (standing old).office (standing new).office
  turns_extend count old turns new trace =
      trace_keeps (AnswersMessage asks) (λ a b. Extends (standing a).office (standing b).office)
      (λ a. extends_still (standing a).office)
      (λ a b c. extends_both (standing a).office (standing b).office
      (standing c).office) turn_extends count old turns new trace

  pub end_extends : (end : SessionEnd) (old new : SessionWorld T)
      → EndsSo (AnswersMessage asks) refusal_text end old new
      → Extends (standing old.handler).office (standing new.handler).office
  end_extends end old new ends =
      end_keeps (AnswersMessage asks) (λ a b. Extends (standing a).office (standing b).office)
      (λ a. extends_still (standing a).office)
      (λ a b c. extends_both (standing a).office (standing b).office
      (standing c).office) turn_extends refusal_text end old new ends
