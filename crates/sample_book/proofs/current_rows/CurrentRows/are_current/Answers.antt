use Rattle.std.proofs.Common.{◌≡◌, subst}
use Rattle.sample_book.specs.Rows.{current_rows, same_cell}
use Rattle.sample_book.specs.Standing.{Standing, rows_stored}
use Rattle.slo_terms.proofs.CurrentLemmas.{current-of_distinct}
use Rattle.sample_book.proofs.StandingLemmas.{cell_laws}
use Rattle.sample_book.proofs.current_rows.CurrentRows.are_current.Goals as goal

pub returns : goal.returns
returns c =
    subst (λ (s : Standing). current_rows s.rows ≡ s.rows) c.self.view_is
    (current-of_distinct same_cell (λ row. row.revision) cell_laws
    (rows_stored c.self.inside.cells c.self.inside.stored.rows) c.self.invariant.apart)
