use Rattle.std.proofs.Common.{◌∙◌, ap, arith}
use Rattle.object_terms.specs.declared.Object.{Object}
use Rattle.object_terms.specs.Slo.{slo_in}
use Rattle.office_history.specs.Batches.{days_of_slo}
use Rattle.objective_days.proofs.Passing.{counted_all, passes_next}
use Rattle.objective_days.proofs.count.days_of_members.Goals as goal

pub loop-member-preserved : goal.loop-member-preserved
loop-member-preserved c =
    let a = c.args in
    record {
      counted = passes_next a.members.now a.book.now.rows c.loop-member.member-index
          c.loop-member.total c.days_of_object-total.result c.member-item.result
          c.loop-member-test.true c.member-item.is c.loop-member.invariant.counted
          (c.days_of_object-total.ensures.exact
          ∙ ap (λ (o : Object). days_of_slo a.book.now.rows (slo_in o.body)) c.object.ensures.all);
      few = omega (arith, c.loop-member.invariant.few, c.days_of_object-total.ensures.few);
    }

pub returns : goal.returns
returns c = counted_all c.args.members.now c.args.book.now.rows c.loop-member.member-index
    c.loop-member.total c.loop-member-test.false c.loop-member.invariant.counted
