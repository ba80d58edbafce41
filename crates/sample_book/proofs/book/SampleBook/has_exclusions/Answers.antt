use Rattle.std.proofs.Common.{◌∙◌, ap, sym}
use Rattle.sample_book.specs.Book.{Book}
use Rattle.sample_book.specs.Exclusions.{is_excluded}
use Rattle.sample_book.proofs.book.SampleBook.has_exclusions.Goals as goal

pub returns : goal.returns
returns c = λ none minute.
    ap (λ (book : Book). is_excluded book.exclusions c.args.slo minute) (sym c.self.view_is)
    ∙ c.has_live.ensures none minute
