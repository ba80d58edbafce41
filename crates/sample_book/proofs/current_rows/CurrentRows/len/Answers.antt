use Rattle.std.proofs.Common.{◌≡◌, ◌∙◌, ap, arith, sym, length}
use Rattle.sample_book.specs.Standing.{Standing, rows_stored}
use Rattle.sample_book.proofs.StandingLemmas.{length-rows}
use Rattle.sample_book.proofs.current_rows.CurrentRows.len.Goals as goal

pub returns-clause-count : goal.returns-clause-count
returns-clause-count c =
    c.len.ensures
    ∙ sym (length-rows c.self.inside.cells c.self.inside.stored.rows c.self.invariant.within)
    ∙ ap (λ (s : Standing). length s.rows) c.self.view_is

pub returns-clause-few : goal.returns-clause-few
returns-clause-few c =
    let stored : length (rows_stored c.self.inside.cells c.self.inside.stored.rows)
    ≡ length c.args.self.now.rows = ap (λ (s : Standing). length s.rows) c.self.view_is in
    omega (
      arith,
      stored,
      length-rows c.self.inside.cells c.self.inside.stored.rows
          c.self.invariant.within,
      c.self.invariant.within,
      c.self.invariant.few,
    )
