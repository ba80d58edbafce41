use Rattle.std.proofs.Common.{Option, subst}
use Rattle.std.specs.Prelude.{IfOk}
use Rattle.sample_book.specs.declared.row.Row.{Row}
use Rattle.wire_routes.specs.RowByRow.{Adds}
use Rattle.wire_routes.proofs.samples.add_row.Goals as goal

pub returns : goal.returns
returns c =
    let old = c.args.rows.now in
    let new = c.add.new.rows in
    subst (λ (row : Option Row). IfOk c.add.result (λ added. Adds added row old new))
    c.read_row.ensures c.add.ensures
