-- A session that hears changes asks them.
use Rattle.std.proofs.Common.{◌≡◌, ◌+◌, ℕ, false, List, [], ◌∷◌, Ok, Err, subst}
use Rattle.message_session.specs.Sessions.{Trace, Turn, said_of_turns}
use Rattle.record_form.specs.declared.Command.{Command}
use Rattle.record_form.specs.declared.Request.{Request}
use Rattle.record_form.specs.declared.Request.TheVariants.{Change}
use Rattle.wire_terms.specs.declared.NoRequest.{NoRequest}
use Rattle.wire_routes.specs.Requests.{Answer}
use Rattle.office_session.specs.Messages.{AnswersMessage, Asking, asked, at_once, unread}
use Rattle.export_heard.specs.Asked.{AskChanges, AsksChange, not_at_all, once}
use Rattle.export_heard.specs.Heard.{AreRequestsOf, IsRequestOf}

same_request : (a b : Request) → ◌≡◌ {A = Answer} (Ok a) (Ok b) → a ≡ b
same_request a b e = cc e

none_refused : (reason : NoRequest) (a : Request) → ◌≡◌ {A = Answer} (Err reason) (Ok a) → ⊥
none_refused reason a e = absurd (cc e)

module _ {T : Type 0} (asks : Asking T) where
  turn_asks : (old : T) (turn : Turn) (change : Command) (new : T)
      → IsRequestOf turn.said change
      → AnswersMessage asks old turn.said false turn.reading turn.answer new
      → AsksChange asks old turn change new
  turn_asks old turn change new is (asked request outcome stands asking answer) =
      once outcome (subst (λ (r : Request). asks old turn.reading r outcome new)
      (same_request request (Change change) (is.alone (Ok request) stands)) asking) answer
  turn_asks old turn change new is (at_once reason stands answer same) =
      absurd (none_refused reason (Change change) (is.alone (Err reason) stands))
  turn_asks old turn change new is (unread answer same) = not_at_all answer same

  pub turns_ask : (count : ℕ) (old : T) (turns : List Turn) (new : T) (changes : List Command)
      → Trace (AnswersMessage asks) count old turns new
      → AreRequestsOf (said_of_turns turns) changes → AskChanges asks old turns changes new
  turns_ask count old [] new [] trace requests = trace
  turns_ask count old [] new (c ∷ cs) trace requests = absurd requests
  turns_ask count old (t ∷ ts) new [] trace requests = absurd requests
  turns_ask count old (t ∷ ts) new (c ∷ cs) (mid, stays, treated, trace) (is, requests) =
      (mid, turn_asks old t c mid is treated, turns_ask (count + 1) mid ts new cs trace requests)
