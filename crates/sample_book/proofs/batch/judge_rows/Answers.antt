use Rattle.std.proofs.Common.{◌∙◌, ◌++◌, ◌∷◌, [], ap}
use Rattle.sample_book.specs.declared.row.RowVerdict.{RowVerdict}
use Rattle.cell_index.proofs.CellLemmas.{never_ok}
use Rattle.sample_book.proofs.BatchLemmas.{judged_more, judged_none}
use Rattle.sample_book.proofs.batch.judge_rows.Goals as goal

pub loop-row-init : goal.loop-row-init
loop-row-init c = judged_none c.args.kept.now.rows c.in_ok-found.found.items
    c.args.earlier.now.rows c.in_ok-found.ensures.items c.requires

pub loop-row-preserved : goal.loop-row-preserved
loop-row-preserved c =
    judged_more c.args.kept.now.rows c.args.rows.now c.loop-row.row-index c.row-item.result
    c.loop-row.found.items c.push.new.self.items
    c.loop-row.earlier.rows c.arrive.new.self.rows
    c.loop-row-test.true c.row-item.is c.loop-row.invariant
    (c.in_ok-push.ensures.items ∙ ap (λ (v : RowVerdict). c.loop-row.found.items ++ v ∷ [])
    (c.check_after.ensures _ c.loop-row.invariant.taken))
    c.in_ok-arrive.ensures.rows

pub returns-in_err-found : goal.returns-in_err-found
returns-in_err-found c = never_ok _ _ c.from_residual.result c.from_residual.ensures.1

pub returns-in_err-push : goal.returns-in_err-push
returns-in_err-push c =
    never_ok _ _ c.from_residual-in_err-push.result c.from_residual-in_err-push.ensures.1

pub returns-in_err-arrive : goal.returns-in_err-arrive
returns-in_err-arrive c =
    never_ok _ _ c.from_residual-in_err-arrive.result c.from_residual-in_err-arrive.ensures.1
