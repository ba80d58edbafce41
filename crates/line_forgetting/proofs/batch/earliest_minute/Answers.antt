use Rattle.std.proofs.Common.{◌≤◌, arith, inl, refl, subst}
use Rattle.std.specs.List.{AllByRecursion}
use Rattle.sample_book.specs.declared.Row.{Row}
use Rattle.kept_sums.proofs.ListLemmas.{get_index, take_all}
use Rattle.line_forgetting.proofs.UnknownLemmas.{earliest-bounds, earliest-own}
use Rattle.line_forgetting.proofs.batch.earliest_minute.Goals as goal

pub loop-row-init : goal.loop-row-init
loop-row-init c = record { bound = tt; own = inl refl }

pub loop-row-preserved : goal.loop-row-preserved
loop-row-preserved c =
    let rows = c.args.rows.now in
    let at = c.loop-row.row-index in
    let row = c.row-item.result in
    let here = get_index rows at row c.loop-row-test.true c.row-item.is in
    record {
      bound = earliest-bounds rows at c.loop-row.earliest c.min-earliest.result row here
          c.min-earliest.ensures c.loop-row.invariant.bound;
      own = earliest-own rows at c.loop-row.earliest c.min-earliest.result row here
          c.min-earliest.ensures c.loop-row.invariant.own;
    }

pub returns-clause-bound : goal.returns-clause-bound
returns-clause-bound c =
    subst (AllByRecursion (λ (row : Row). c.loop-row.earliest ≤ row.minute))
    (take_all c.args.rows.now c.loop-row.row-index
    (omega (arith, c.loop-row-test.false, c.loop-row.auto.row-index-end)))
    c.loop-row.invariant.bound
