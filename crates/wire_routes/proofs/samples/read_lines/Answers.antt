use Rattle.std.proofs.Common.{List, ap, arith, length, subst, true}
use Rattle.csv_records.specs.Records.{Fields}
use Rattle.plain_fields.specs.Lines.{six_of}
use Rattle.wire_routes.specs.RowByRow.{Adds}
use Rattle.wire_routes.specs.Samples.{row_of}
use Rattle.wire_routes.proofs.RowLemmas.{lines_more, lines_none}
use Rattle.wire_routes.proofs.samples.read_lines.Goals as goal

pub lines-init : goal.lines-init
lines-init c =
    lines_none c.args.body.now c.args.rows.now c.requires.none c.requires.begun

pub lines-preserved : goal.lines-preserved
lines-preserved c =
    let fields = six_of c.in-Some.line in
    let added : Adds true (row_of fields) c.lines.rows c.add_line.new.rows =
    subst (λ b. Adds b (row_of fields) c.lines.rows c.add_line.new.rows)
    c.if-not-branch.false c.in_ok-add_line.ensures in
    lines_more c.args.body.now c.lines.number c.lines.at c.in-Some.line.end c.lines.rows
    c.add_line.new.rows fields c.lines.invariant c.in-Some.ensures.records c.in-Some.ensures.start
    added

pub lines-smaller : goal.lines-smaller
lines-smaller c =
    let fewer = ap (λ (rs : List Fields). length rs) c.in-Some.ensures.records in
    omega (arith, fewer)
