use Rattle.std.proofs.Common.{Ok, ap, ◌∙◌, arith}
use Rattle.office_outside.proofs.Moments.{quiet_then}
use Rattle.office_keep.proofs.Openings.{smaller}
use Rattle.office_keep.proofs.opening.load.Goals as goal

pub returns-then-not-more-clause-stands : goal.returns-then-not-more-clause-stands
returns-then-not-more-clause-stands g c file told w =
    let v = c.reading.invariant in
    c.step.ensures.ended (c.in_ok-more.was ∙ ap Ok c.if-not-more.true) file (v.content ∙ told)
    (v.walks file told w)

pub reading-smaller : goal.reading-smaller
reading-smaller g c =
    smaller _ _ _
    (c.step.ensures.progress (c.in_ok-more.was ∙ ap Ok c.if-not-more.false)) c.step.ensures.bound

pub reading-preserved : goal.reading-preserved
reading-preserved g c =
    let v = c.reading.invariant in
    record {
      walks = λ file told w. c.in_ok-more.ensures.walks file (v.content ∙ told)
          (v.walks file told w);
      place = λ p. c.in_ok-more.ensures.place (v.place p);
      same = c.step.ensures.origin.0 ∙ v.same;
      origin = c.step.ensures.origin.1 ∙ v.origin;
      content = c.step.ensures.content ∙ v.content;
      quiet = quiet_then v.quiet c.step.ensures.quiet;
      later = omega (arith, v.later, c.step.ensures.later);
    }
