use Rattle.std.proofs.Common.{◌≡◌, ◌<◌, ◌*◌, ap, sym, ◌∙◌, arith}
use Rattle.std.specs.Ordering.{nat_cmp}
use Rattle.exact_fraction.specs.Op.{holds_of}
use Rattle.burn_core.proofs.BurnOrder.{above-is}
use Rattle.burn_core.proofs.budget.above.Goals as goal

pub returns : goal.returns
returns c =
    let some : 0 < c.args.sum.den = omega arith in
    let threshold : c.from-2.result ≡ c.args.threshold = c.from-2.ensures
    ∙ c.billionths.ensures.value in
    c.holds.ensures
    ∙ ap (holds_of c.args.op)
    (c.cmp.ensures ∙ (λ i. nat_cmp (c.from.ensures i * 1000000000000000000)
    (threshold i * c.allowed_errors.ensures.value i)))
    ∙ sym (above-is c.args.sum c.args.target c.args.op c.args.threshold some c.requires.part
    c.requires.below_one)
