use Rattle.std.proofs.Common.{ap, sym, ◌∙◌, List}
use Rattle.sample_book.specs.Book.{Book}
use Rattle.sample_book.specs.declared.row.Row.{Row}
use Rattle.sample_book.specs.Rows.{verdict_of}
use Rattle.sample_book.specs.History.{is_put, passed}
use Rattle.sample_book.proofs.book.SampleBook.check.Goals as goal

pub returns-clause-history : goal.returns-clause-history
returns-clause-history c is arrivals h =
    let rows = ap (λ (book : Book). book.rows) c.self.view_is in
    passed c.args.row.now h (ap (λ (rows : List Row). is_put (verdict_of rows c.args.row.now))
    (sym rows) ∙ ap is_put (sym c.check.ensures) ∙ is)
