use Rattle.std.proofs.Common.{◌-◌, ◌+◌, ◌∙◌, ap, min}
use Rattle.office_export.proofs.WalkLemmas.{lines_end, lines_on}
use Rattle.office_export.proofs.bodies.push_rows.Goals as goal

pub loop-place-preserved : goal.loop-place-preserved
loop-place-preserved c =
    lines_on (c.args.first + c.min-count.result) c.loop-place.place c.args.book.now.rows _
    c.loop-place.body.items c.push_row_at.new.body.items c.loop-place-test.true
    c.in_ok-push_row_at.ensures c.loop-place.invariant

pub returns : goal.returns
returns c =
    lines_end c.args.first c.min-count.result c.loop-place.place c.args.book.now.rows
    c.args.body.now.items c.loop-place.body.items c.loop-place-test.false
    (c.min-count.ensures ∙ ap (λ n. min n 1000) (c.saturating_sub.ensures
    ∙ ap (λ n. n - c.args.first) c.cells.ensures)) c.loop-place.invariant
