use Rattle.std.proofs.Common.{map, arith, ◌∙◌, ◌<◌, ◌≡◌, ◌/◌, Some, ap, subst, sym, take, length}
use Rattle.std.proofs.Common.{slice_get}
use Rattle.std.proofs.lemmas.List.{length-map}
use Rattle.cell_index.proofs.ChainLemmas.{slice_get-map}
use Rattle.sample_book.proofs.IndexLemmas.{before-on}
use Rattle.sample_book.specs.Rows.{cell_of}
use Rattle.sample_book.specs.Book.{Book}
use Rattle.cell_index.specs.Chains.{below}
use Rattle.sample_book.specs.LastRows.{is_on, last_place}
use Rattle.sample_book.proofs.book.SampleBook.row_before_on.Goals as goal

pub before_on_day-requires : goal.before_on_day-requires
before_on_day-requires c = (
  map cell_of c.self.inside.rows.rows,
  c.self.invariant.indexed,
  omega (
    arith,
    length-map c.self.inside.rows.rows cell_of,
    subst (λ (book : Book). c.args.place < length book.rows) (sym c.self.view_is) c.requires,
  ),
)

pub returns : goal.returns
returns c row here =
    c.below.ensures
    ∙ ap below (c.before_on_day.ensures (map cell_of c.self.inside.rows.rows) (cell_of row)
    c.self.invariant.indexed (slice_get-map cell_of c.self.inside.rows.rows c.args.place row (subst
    (λ (book : Book). slice_get book.rows c.args.place ≡ Some row) (sym c.self.view_is) here))
    ∙ before-on row.sli (row.minute / 1440) c.args.place c.self.inside.rows.rows)
    ∙ ap (λ (book : Book). last_place (is_on row.sli (row.minute / 1440))
    (take c.args.place book.rows)) c.self.view_is
