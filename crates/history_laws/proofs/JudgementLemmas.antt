-- A command has one judgement.
use Rattle.std.proofs.Common.{◌≡◌, ◌∙◌, ℕ, List, length, sym, ap}
use Rattle.record_form.specs.declared.Command.TheVariants.{Define, Remove, PutZone, Samples}
use Rattle.record_form.specs.declared.Command.TheVariants.{Exclude, Lift, Tick, Take, Upgrade}
use Rattle.record_form.specs.declared.Refusal.{Refusal}
use Rattle.office_history.specs.Definitions.{Definition, Known, IsDefinition, IsRefused}
use Rattle.office_history.specs.declared.Judgement.{Judgement}
use Rattle.office_history.specs.declared.Judgement.TheVariants.{Refused}
use Rattle.office_history.specs.Judges.{JudgesText, defined, refused, defined_verdict, known_of}
use Rattle.history_laws.specs.Judged.{OneJudgement}

-- what is known of the verdicts on a text
pub record OneVerdict : Type 0 where
  pub refusal : (known : Known) (text : List ℕ) (a b : Refusal) → IsRefused known text a →
      IsRefused known text b → a ≡ b
  pub definition : (known : Known) (text : List ℕ) (a b : Definition) →
      IsDefinition known text a → IsDefinition known text b → a ≡ b
  pub either : (known : Known) (text : List ℕ) (made : Definition) (refusal : Refusal) →
      IsDefinition known text made → IsRefused known text refusal → ⊥

one_of_text : OneVerdict → (known : Known) (entries : ℕ) (text : List ℕ) (a b : Judgement) →
    JudgesText known entries text a → JudgesText known entries text b → a ≡ b
one_of_text law known entries text _ _ (refused {refusal = r} h) (refused {refusal = s} k) =
    ap Refused (law.refusal known text r s h k)
one_of_text law known entries text _ _ (refused {refusal = r} h) (defined {made = made} k) =
    absurd (law.either known text made r k h)
one_of_text law known entries text _ _ (defined {made = made} h) (refused {refusal = r} k) =
    absurd (law.either known text made r h k)
one_of_text law known entries text _ _ (defined {made = m} h) (defined {made = n} k) =
    ap (defined_verdict known entries) (law.definition known text m n h k)

pub one_judgement : OneVerdict → OneJudgement
one_judgement law o moment (Define text) a b h k =
    one_of_text law (known_of o) (length o.history) text a b h k
one_judgement law o moment (Remove kind name) a b h k = h ∙ sym k
one_judgement law o moment (PutZone name bytes) a b h k = h ∙ sym k
one_judgement law o moment (Samples rows) a b h k = h ∙ sym k
one_judgement law o moment (Exclude value) a b h k = h ∙ sym k
one_judgement law o moment (Lift id) a b h k = h ∙ sym k
one_judgement law o moment Tick a b h k = h ∙ sym k
one_judgement law o moment (Take number) a b h k = h ∙ sym k
one_judgement law o moment Upgrade a b h k = h ∙ sym k
