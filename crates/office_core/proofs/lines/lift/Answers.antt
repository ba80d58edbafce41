use Rattle.std.proofs.Common.{◌∙◌, sym}
use Rattle.office_derived.specs.declared.Work.TheVariants as works
use Rattle.office_derived.specs.Derived.{entry_of}
use Rattle.office_core.proofs.ForgettingLemmas.{forgets_still, lifting_forgets}
use Rattle.office_core.proofs.LinesLemmas.{lifted_live, lifting_lines}
use Rattle.office_core.proofs.lines.lift.Goals as goal

pub forget_exclusion-requires-clause-lines : goal.forget_exclusion-requires-clause-lines
forget_exclusion-requires-clause-lines c =
    let d = c.args.derived.now in
    let o = c.requires.next.0 in
    let m = c.args.moment in
    let id = c.args.id in
    let next = c.requires.next.1 in
    lifting_lines d c.apply_lift-outcome.new.derived o m id c.in-Some.value c.args.lines.now.kept
    next (c.apply_lift-outcome.ensures.reflects o next)
    (λ slo minute. c.apply_lift-outcome.ensures.minutes c.in-Some.value slo minute
    (lifted_live d o m id c.in-Some.value c.in-Some.field-0-1 next
    (sym c.exclusion-lifted.ensures ∙ c.in-Some.is)))
    c.requires.lines

pub returns-in-Some-clause-forgets : goal.returns-in-Some-clause-forgets
returns-in-Some-clause-forgets c = λ o next.
    let d = c.args.derived.now in
    let m = c.args.moment in
    let id = c.args.id in
    lifting_forgets d c.apply_lift-outcome.new.derived o m id c.in-Some.value c.args.lines.now.kept
    c.forget_exclusion.new.self.kept next (c.apply_lift-outcome.ensures.reflects o next)
    (λ slo minute. c.apply_lift-outcome.ensures.minutes c.in-Some.value slo minute
    (lifted_live d o m id c.in-Some.value c.in-Some.field-0-1 next
    (sym c.exclusion-lifted.ensures ∙ c.in-Some.is)))
    c.requires.lines.right c.forget_exclusion.ensures.forget

pub returns-in_default-clause-forgets : goal.returns-in_default-clause-forgets
returns-in_default-clause-forgets c = λ o next.
    forgets_still o (entry_of c.args.moment (works.Lift c.args.id)) c.args.lines.now.kept
