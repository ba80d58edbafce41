use Rattle.std.proofs.Common.{◌≡◌, ◌∙◌, arith, sym, true}
use Rattle.sample_book.proofs.ReachLemmas.{begun_between}
use Rattle.sample_book.proofs.reaches.have_begun.Goals as goal

pub returns-then-goes_on : goal.returns-then-goes_on
returns-then-goes_on c = λ yes. cc yes

pub returns-then-count-eq0 : goal.returns-then-count-eq0
returns-then-count-eq0 c = λ yes. begun_between c.args.slo c.args.minute c.args.reaches.now
    c.args.count c.requires (λ some. absurd (omega (arith, some, c.if-count-eq0.true)))
    (sym c.begins_at-goes_on.ensures ∙ c.if-goes_on.false)

pub returns : goal.returns
returns c = λ yes. begun_between c.args.slo c.args.minute c.args.reaches.now c.args.count
    c.requires (λ some. sym c.begins_at.ensures ∙ yes)
    (sym c.begins_at-goes_on.ensures ∙ c.if-goes_on.false)
