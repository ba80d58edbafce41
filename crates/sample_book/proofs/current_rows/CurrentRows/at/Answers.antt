use Rattle.std.proofs.Common.{◌∙◌, ap, sym, slice_get, length, arith}
use Rattle.sample_book.specs.Standing.{Standing}
use Rattle.sample_book.proofs.StandingLemmas.{row_beyond, length-rows}
use Rattle.sample_book.proofs.current_rows.CurrentRows.at.Goals as goal

pub row-requires : goal.row-requires
row-requires c =
    omega (
      arith,
      c.if-place-len.true,
      c.len.ensures,
      ap (λ (s : Standing). length s.rows) c.self.view_is,
      length-rows c.self.inside.cells c.self.inside.stored.rows c.self.invariant.within,
    )

pub returns-else-place-len : goal.returns-else-place-len
returns-else-place-len c =
    sym (row_beyond c.self.inside.cells c.self.inside.stored.rows c.args.place
    (omega (arith, c.if-place-len.false, c.len.ensures)))
    ∙ ap (λ (s : Standing). slice_get s.rows c.args.place) c.self.view_is
