use Rattle.std.proofs.Common.{◌∙◌, ap, arith}
use Rattle.slo_catalog.proofs.CountLemmas.{count_at, count_next, count_whole, count_within}
use Rattle.slo_catalog.proofs.bindings.count_of_bindings.Goals as goal

pub overflow_add-total : goal.overflow_add-total
overflow_add-total c = omega (
  arith,
  c.requires.few,
  count_within c.args.members.now c.as_slice-member-items.result.now
      c.as_slice-member-items.ensures.all c.loop-member.member-index c.loop-member.total
      c.count_of_object-total.result c.member-item.result c.loop-member-test.true c.member-item.is
      c.loop-member.invariant
      (c.count_of_object-total.ensures ∙ ap (count_at c.args.members.now) c.object.ensures.all),
)

pub loop-member-preserved : goal.loop-member-preserved
loop-member-preserved c =
    count_next c.args.members.now c.as_slice-member-items.result.now
    c.as_slice-member-items.ensures.all c.loop-member.member-index c.loop-member.total
    c.count_of_object-total.result c.member-item.result c.loop-member-test.true c.member-item.is
    c.loop-member.invariant
    (c.count_of_object-total.ensures ∙ ap (count_at c.args.members.now) c.object.ensures.all)

pub overflow_cast-result : goal.overflow_cast-result
overflow_cast-result c = omega (
  arith,
  c.requires.few,
  count_whole c.args.members.now c.as_slice-member-items.result.now
      c.as_slice-member-items.ensures.all c.loop-member.member-index c.loop-member.total
      c.loop-member-test.false c.loop-member.invariant,
)

pub returns : goal.returns
returns c =
    count_whole c.args.members.now c.as_slice-member-items.result.now
    c.as_slice-member-items.ensures.all c.loop-member.member-index c.loop-member.total
    c.loop-member-test.false c.loop-member.invariant
