use Rattle.std.proofs.Common.{map, ◌∙◌, ap}
use Rattle.sample_book.proofs.IndexLemmas.{last-of}
use Rattle.sample_book.specs.Rows.{cell_of}
use Rattle.sample_book.specs.Book.{Book}
use Rattle.cell_index.specs.Chains.{below}
use Rattle.sample_book.specs.LastRows.{last_place}
use Rattle.sample_book.specs.Counting.{is_of}
use Rattle.sample_book.proofs.book.SampleBook.last_row.Goals as goal

pub returns : goal.returns
returns c =
    c.below.ensures
    ∙ ap below (c.last_of.ensures (map cell_of c.self.inside.rows.rows) c.self.invariant.indexed
    ∙ last-of c.args.sli c.self.inside.rows.rows)
    ∙ ap (λ (book : Book). last_place (is_of c.args.sli) book.rows) c.self.view_is
