use Rattle.std.proofs.Common.{◌∙◌, ◌++◌, ap, arith, sym}
use Rattle.office_export.proofs.WalkLemmas.{row_last, rows_on}
use Rattle.office_export.proofs.listing.push_rows.Goals as goal

pub loop-first-preserved : goal.loop-first-preserved
loop-first-preserved c =
    let many = c.loop-first-test.true in
    record {
      near = omega (arith, many);
      all = rows_on c.args.count c.loop-first.first _ c.loop-first.steps.items
          c.push.new.self.items many c.in_ok-push.ensures.items c.loop-first.invariant.all;
    }

pub returns-in_ok-push-2 : goal.returns-in_ok-push-2
returns-in_ok-push-2 c =
    c.in_ok-push-2.ensures.items
    ∙ ap (λ ss. c.loop-first.steps.items ++ ss)
    (sym (row_last c.args.count c.loop-first.first c.if-first-count.true c.loop-first-test.false))
    ∙ c.loop-first.invariant.all
