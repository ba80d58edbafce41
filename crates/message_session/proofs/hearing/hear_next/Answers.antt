use Rattle.std.proofs.Common.{List, ℕ, subst, ap, Ok}
use Rattle.message_heads.specs.Hearing.{Hears, Awaits}
use Rattle.message_heads.specs.declared.message.Heard.TheVariants.{Whole, Bad}
use Rattle.message_session.proofs.Growing.{more_after}
use Rattle.message_session.proofs.hearing.hear_next.Goals as goal

pub returns-in-Whole-clause-heard : goal.returns-in-Whole-clause-heard
returns-in-Whole-clause-heard g c =
    subst (λ (l : List ℕ). Hears l (Whole c.in-Whole.message c.in-Whole.size)) c.bytes.ensures.bytes
    c.in-Whole.ensures

pub returns-in-Bad-clause-heard : goal.returns-in-Bad-clause-heard
returns-in-Bad-clause-heard g c =
    subst (λ (l : List ℕ). Hears l (Bad c.in-Bad.status)) c.bytes.ensures.bytes c.in-Bad.ensures

pub returns-in-Ok-false-clause-heard : goal.returns-in-Ok-false-clause-heard
returns-in-Ok-false-clause-heard g c =
    let below =
    subst (λ (l : List ℕ). Awaits l c.in-More.needed) c.bytes.ensures.bytes c.in-More.ensures in (
      more_after c.hearing.buffer c.fill.new.buffer
          c.in-More.needed _ _ below c.in-Ok-false.ensures.fills
          (c.in-Ok-false.ensures.short (ap Ok c.in-Ok-false.field-0-test)),
      c.in-Ok-false.ensures.end (ap Ok c.in-Ok-false.field-0-test),
    )

pub returns-in-Err-clause-more : goal.returns-in-Err-clause-more
returns-in-Err-clause-more g c =
    let below =
    subst (λ (l : List ℕ). Awaits l c.in-More.needed) c.bytes.ensures.bytes c.in-More.ensures in
    more_after c.hearing.buffer c.fill.new.buffer c.in-More.needed _ _ below c.in-Err.ensures.fills
    c.in-Err.ensures.failed
