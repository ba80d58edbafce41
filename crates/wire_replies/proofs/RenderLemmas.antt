-- The reply that tells how full an office is.
use Rattle.std.proofs.Common.{◌≡◌, ◌⊎◌, inl, inr, false, refl, subst, sym}
use Rattle.record_form.specs.declared.outcome.Outcome.{Outcome}
use Rattle.record_form.specs.declared.outcome.Outcome.TheVariants.{Status}
use Rattle.record_form.specs.declared.status.OfficeStatus.{OfficeStatus}
use Rattle.wire_replies.specs.declared.reply.Reply.{Reply}
use Rattle.wire_replies.specs.declared.reply.Reply.TheVariants.{NoMemory}
use Rattle.wire_replies.specs.Answers.{IsShownBy, json, shown_answer}
use Rattle.wire_replies.specs.Bodies.{status_data}
use Rattle.wire_replies.specs.Outcomes.{answer_of, is_short}

abbrev IsTold : Reply → Outcome → Type 0
IsTold reply outcome =
    (shown_answer reply ≡ answer_of outcome) ⊎ ((reply ≡ NoMemory) × (is_short outcome ≡ false))

pub status_is_told : (outcome : Outcome) (status : OfficeStatus) (reply : Reply)
    → outcome ≡ Status status → IsShownBy (json 200 (status_data status)) reply
    → IsTold reply outcome
status_is_told outcome status reply is shown = subst (IsTold reply) (sym is) (elim shown [
  | inl told ↦ inl told
  | inr none ↦ inr (none, refl)
])
