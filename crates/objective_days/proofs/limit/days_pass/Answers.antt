use Rattle.std.proofs.Common.{◌++◌, arith, ap, ◌∙◌}
use Rattle.object_terms.specs.declared.Object.{Object}
use Rattle.object_terms.specs.Slo.{slo_in}
use Rattle.sample_book.specs.Rows.{current_rows}
use Rattle.office_history.specs.Batches.{days_of_slo}
use Rattle.objective_days.proofs.Passing.{passes_already, passes_next, passes_not}
use Rattle.objective_days.proofs.limit.days_pass.Goals as goal

pub loop-member-preserved : goal.loop-member-preserved
loop-member-preserved c =
    let a = c.args in
    record {
      counted = λ more b. let rows = current_rows (a.book.now.rows ++ more) in
          passes_next a.members.now rows c.loop-member.member-index c.loop-member.total
          c.days_of_object-total.result c.member-item.result c.loop-member-test.true
          c.member-item.is (c.loop-member.invariant.counted more b)
          (c.days_of_object-total.ensures.exact more b
          ∙ ap (λ (o : Object). days_of_slo rows (slo_in o.body)) c.object.ensures.all);
      within = omega (arith, c.if-from-total.false, c.from.ensures);
    }

pub returns-then-from-total : goal.returns-then-from-total
returns-then-from-total c = λ more b.
    let a = c.args in
    let rows = current_rows (a.book.now.rows ++ more) in
    passes_already a.members.now rows c.loop-member.member-index c.loop-member.total
    c.days_of_object-total.result c.member-item.result c.loop-member-test.true c.member-item.is
    (c.loop-member.invariant.counted more b)
    (c.days_of_object-total.ensures.exact more b
    ∙ ap (λ (o : Object). days_of_slo rows (slo_in o.body)) c.object.ensures.all)
    (omega (arith, c.if-from-total.true, c.from.ensures))

pub returns : goal.returns
returns c = λ more b. passes_not c.args.members.now (current_rows (c.args.book.now.rows ++ more))
    c.loop-member.member-index c.loop-member.total c.loop-member-test.false
    (c.loop-member.invariant.counted more b) c.loop-member.invariant.within
