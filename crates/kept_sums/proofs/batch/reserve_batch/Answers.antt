use Rattle.kept_sums.proofs.DaysLemmas.{days_more}
use Rattle.kept_sums.proofs.ListLemmas.{get_index}
use Rattle.kept_sums.proofs.batch.reserve_batch.Goals as goal

pub returns-in_err-reserve_row-clause-kept : goal.returns-in_err-reserve_row-clause-kept
returns-in_err-reserve_row-clause-kept c = λ made before known.
    c.reserve_row.ensures.kept made before (c.loop-row.invariant.kept made before known)

pub loop-row-preserved : goal.loop-row-preserved
loop-row-preserved c = record {
  days = days_more c.args.measure.now c.loop-row.sums c.reserve_row.new.sums c.args.rows.now
      c.loop-row.row-index c.row-item.result
      (get_index c.args.rows.now c.loop-row.row-index c.row-item.result c.loop-row-test.true
      c.row-item.is) c.reserve_row.ensures.days c.in_ok-reserve_row.ensures.day
      c.loop-row.invariant.days;
  kept = λ made before known.
      c.reserve_row.ensures.kept made before (c.loop-row.invariant.kept made before known);
}
