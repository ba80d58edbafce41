-- A pass stays at its desk through a session.
use Rattle.std.proofs.Common.{ℕ, List, Bool, refl, sym, subst, ◌∙◌}
use Rattle.message_heads.specs.Streams.{Said}
use Rattle.message_session.specs.Sessions.{EndsSo, SessionWorld, Trace, Turn}
use Rattle.message_session.specs.declared.SessionEnd.{SessionEnd}
use Rattle.turn_desk.specs.Passes.{PassState}
use Rattle.office_session.specs.Messages.{AnswersMessage, asked, at_once, unread}
use Rattle.office_session.proofs.Keeping.{end_keeps, trace_keeps}
use Rattle.turn_counter.specs.Holding.{StaysAtDesk}
use Rattle.turn_counter.specs.Turns.{TurnAsks}
use Rattle.office_outside.specs.Senses.{DiskSenses}

pub stays_still : (p : PassState) → StaysAtDesk p p
stays_still p =
    record { desk = refl; root = refl; opening = refl; parts = refl; has_split = refl }

pub stays_both : (a b c : PassState) → StaysAtDesk a b → StaysAtDesk b c → StaysAtDesk a c
stays_both a b c first second = record {
  desk = second.desk ∙ first.desk;
  root = second.root ∙ first.root;
  opening = second.opening ∙ first.opening;
  parts = second.parts ∙ first.parts;
  has_split = second.has_split ∙ first.has_split;
}

module _ {D : Type 0} (S : DiskSenses D) where
  turn_stays : (old : PassState) (said : Said) (last : Bool) (reading : ℕ) (text : List ℕ)
      (new : PassState)
      → AnswersMessage (TurnAsks S) old said last reading text new → StaysAtDesk old new
  turn_stays old said last reading text new (asked request outcome for asks answer) =
      record {
        desk = asks.desk;
        root = asks.root;
        opening = asks.opening;
        parts = asks.parts;
        has_split = asks.has_split;
      }
  turn_stays old said last reading text new (at_once reason for answer same) =
      subst (λ (p : PassState). StaysAtDesk old p) (sym same) (stays_still old)
  turn_stays old said last reading text new (unread answer same) =
      subst (λ (p : PassState). StaysAtDesk old p) (sym same) (stays_still old)

  pub turns_stay : (count : ℕ) (old : PassState) (turns : List Turn) (new : PassState)
      → Trace (AnswersMessage (TurnAsks S)) count old turns new → StaysAtDesk old new
  turns_stay count old turns new trace =
      trace_keeps (AnswersMessage (TurnAsks S)) StaysAtDesk stays_still stays_both turn_stays
      count old turns new trace

  pub end_stays : (refusal : PassState → ℕ → List ℕ) (end : SessionEnd)
      (old new : SessionWorld PassState)
      → EndsSo (AnswersMessage (TurnAsks S)) refusal end old new
      → StaysAtDesk old.handler new.handler
  end_stays refusal end old new ends =
      end_keeps (AnswersMessage (TurnAsks S)) StaysAtDesk stays_still stays_both turn_stays
      refusal end old new ends
