use Rattle.std.proofs.Common.{◌≡◌, ◌∙◌, ℕ, List, Err, length, sym, ap, subst}
use Rattle.definition_verdict.specs.declared.Definition.{Definition}
use Rattle.definition_verdict.specs.Made.{IsDefinition}
use Rattle.office_history.specs.Definitions.{IsRefused}
use Rattle.catalog_terms.specs.Catalog.{with_members}
use Rattle.office_history.specs.Catalog.{text_objects}
use Rattle.office_history.specs.declared.Judgement.{Judgement}
use Rattle.office_history.specs.declared.Judgement.TheVariants.{Refused}
use Rattle.office_history.specs.Judges.{JudgesText, refused}
use Rattle.catalog_changes.specs.Judging.{defined_verdict}
use Rattle.office_derived.specs.declared.Derived.{Derived}
use Rattle.catalog_changes.specs.Judging.{known_by}
use Rattle.catalog_changes.proofs.ChangeLemmas.{text_judged}
use Rattle.catalog_changes.proofs.definition.judged_text.Goals as goal

seen : (d : Derived) (text bytes : List ℕ) (made : Definition) (found j : Judgement) →
    bytes ≡ text → IsDefinition (known_by d) bytes made →
    found ≡ defined_verdict (known_by d) d.entries made → found ≡ j →
    JudgesText (known_by d) d.entries text j
seen d text bytes made found j same is verdict e =
    text_judged (known_by d) d.entries text made j
    (subst (λ (t : List ℕ). IsDefinition (known_by d) t made) same is) (sym e ∙ verdict)

pub returns-in-Err-Refused : goal.returns-in-Err-Refused
returns-in-Err-Refused c =
    let d = c.args.derived.now in
    let told : JudgesText (known_by d) d.entries c.args.text.now
    (Refused c.in-Err-Refused.refusal) =
    refused (subst (λ (t : List ℕ). IsRefused (known_by d) t c.in-Err-Refused.refusal)
    c.as_bytes.ensures
    (c.in-Err-Refused.ensures.refused c.in-Err-Refused.refusal
    (ap Err c.in-Err-Refused.field-0-is))) in
    rw c.in-Err-Refused.field-0-is told

pub returns-in-Ok-text_and_plan : goal.returns-in-Ok-text_and_plan
returns-in-Ok-text_and_plan c = (
  seen c.args.derived.now c.args.text.now c.as_bytes.result.now c.in-Ok.made
      c.in-Ok-Accepted.field-0 _ c.as_bytes.ensures c.in-Ok.ensures.defined c.in-Ok-Accepted.ensures
      c.in-Ok-Accepted.field-0-is,
  (
    c.in-Ok-text_and_plan.ensures.text,
    c.in-Ok.ensures.catalog ∙ ap
        (λ (t : List ℕ). with_members (text_objects t) c.args.derived.now.catalog)
        c.as_bytes.ensures,
    c.in-Ok.ensures.objects ∙ ap (λ (t : List ℕ). length (text_objects t)) c.as_bytes.ensures,
    c.in-Ok-text_and_plan.ensures.plan,
  ),
)

pub returns-in-Ok-Same : goal.returns-in-Ok-Same
returns-in-Ok-Same c =
    seen c.args.derived.now c.args.text.now c.as_bytes.result.now c.in-Ok.made c.in-Ok-Same.field-0
    _ c.as_bytes.ensures c.in-Ok.ensures.defined c.in-Ok-Same.ensures c.in-Ok-Same.field-0-is

pub returns-in-Ok-Refused : goal.returns-in-Ok-Refused
returns-in-Ok-Refused c =
    seen c.args.derived.now c.args.text.now c.as_bytes.result.now c.in-Ok.made
    c.in-Ok-Refused.field-0 _ c.as_bytes.ensures c.in-Ok.ensures.defined c.in-Ok-Refused.ensures
    c.in-Ok-Refused.field-0-is
