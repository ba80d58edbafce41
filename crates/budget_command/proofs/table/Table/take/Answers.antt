use Rattle.std.proofs.Common.{◌≡◌, ◌∙◌, Ok, ap, length, sym}
use Rattle.budget_command.specs.Records.{row_by_verdict}
use Rattle.budget_command.proofs.CurrentLemmas.{few-after}
use Rattle.budget_command.proofs.table.Table.take.Goals as goal

pub returns-in_default-clause-few : goal.returns-in_default-clause-few
returns-in_default-clause-few c =
    let rows = c.args.self.now.book.rows in
    let row = c.args.row.now in
    let taken : row_by_verdict (length rows) c.in-Ok.verdict row ≡ Ok row =
    ap (λ cells. row_by_verdict cells c.in-Ok.verdict row) (sym c.len-cells.ensures.count)
    ∙ c.in_default.ensures.taken row in
    few-after rows c.arrive.new.self.rows row c.in-Ok.verdict c.in-Ok.ensures.verdict
    c.in-Ok.ensures.rows c.in-Ok.ensures.placed taken c.requires.few
