use Rattle.std.proofs.Common.{map, ◌∙◌, ap, length}
use Rattle.sample_book.proofs.IndexLemmas.{days-of}
use Rattle.sample_book.specs.Rows.{cell_of}
use Rattle.sample_book.specs.Book.{Book}
use Rattle.sample_book.specs.Counting.{days_with_rows}
use Rattle.sample_book.proofs.book.SampleBook.days_of.Goals as goal

pub returns : goal.returns
returns c = c.days_of.ensures (map cell_of c.self.inside.rows.rows) c.self.invariant.indexed
    ∙ ap length (days-of c.args.sli c.self.inside.rows.rows)
    ∙ ap (λ (book : Book). length (days_with_rows book.rows c.args.sli)) c.self.view_is
