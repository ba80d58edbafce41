use Rattle.std.proofs.Common.{map, ◌∙◌, ap}
use Rattle.sample_book.proofs.IndexLemmas.{last-on}
use Rattle.sample_book.specs.Rows.{cell_of}
use Rattle.sample_book.specs.Book.{Book}
use Rattle.cell_index.specs.Chains.{below}
use Rattle.sample_book.specs.LastRows.{is_on, last_place}
use Rattle.sample_book.proofs.book.SampleBook.last_row_on.Goals as goal

pub returns : goal.returns
returns c =
    c.below.ensures
    ∙ ap below (c.last_on_day.ensures (map cell_of c.self.inside.rows.rows)
    c.self.invariant.indexed ∙ last-on c.args.sli c.args.day c.self.inside.rows.rows)
    ∙ ap (λ (book : Book). last_place (is_on c.args.sli c.args.day) book.rows) c.self.view_is
