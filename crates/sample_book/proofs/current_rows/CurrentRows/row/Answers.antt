use Rattle.std.proofs.Common.{◌∙◌, ap, sym, arith, Some, slice_get, length}
use Rattle.sample_book.specs.Standing.{Standing}
use Rattle.sample_book.proofs.StandingLemmas.{row_at, length-rows}
use Rattle.sample_book.proofs.current_rows.CurrentRows.row.Goals as goal

pub at-requires : goal.at-requires
at-requires c =
    omega (
      arith,
      c.requires,
      c.self.invariant.within,
      ap (λ (s : Standing). length s.rows) c.self.view_is,
      length-rows c.self.inside.cells c.self.inside.stored.rows c.self.invariant.within,
    )

pub at-requires-2 : goal.at-requires-2
at-requires-2 c =
    omega (
      arith,
      c.requires,
      ap (λ (s : Standing). length s.rows) c.self.view_is,
      length-rows c.self.inside.cells c.self.inside.stored.rows c.self.invariant.within,
    )

pub returns : goal.returns
returns c =
    ap (λ (s : Standing). slice_get s.rows c.args.place) (sym c.self.view_is)
    ∙ row_at c.self.inside.cells c.self.inside.stored.rows c.args.place c.at.result c.at-2.result
    c.at.ensures c.at-2.ensures
    ∙ ap Some (sym c.row_stored.ensures)
