use Rattle.std.proofs.Common.{rules, ◌≡◌, ◌≤◌, ◌<◌, ℕ, ◌+◌, ◌-◌, ◌/◌, length, take, true, arith}
use Rattle.std.proofs.Common.{sym, subst}
use Rattle.message_heads.specs.Start.{WhetherHeadMayCome}
use Rattle.message_heads.proofs.WaitLemmas.{still_passed}
use Rattle.message_heads.proofs.first_refused.first_refused.Goals as goal

pub loop-low-preserved-then-may_begin : goal.loop-low-preserved-then-may_begin
loop-low-preserved-then-may_begin c =
    let i = c.loop-low.invariant in
    let middle = c.loop-low.low + (c.loop-low.high - c.loop-low.low) / 2 in
    let below : middle < c.loop-low.high = omega (arith, c.loop-low-test.true) in
    let tells : WhetherHeadMayCome true (take middle c.args.front.now) = subst
    (λ b. WhetherHeadMayCome b (take middle c.args.front.now)) c.if-may_begin.true
    c.may_begin.ensures in (
      omega arith,
      i.1,
      i.2,
      still_passed c.args.front.now middle c.loop-low.high below i.1 c.requires.few i.2 tells,
    )
