use Rattle.std.proofs.Common.{ap, ◌∙◌, List, Bool}
use Rattle.sample_book.specs.Book.{Book}
use Rattle.sample_book.specs.Exclusions.{after_lifting}
use Rattle.sample_book.specs.declared.exclusions.Exclusion.{Exclusion}
use Rattle.sample_book.proofs.HistoryLemmas.{gains-lifted}
use Rattle.sample_book.proofs.book.SampleBook.lift.Goals as goal

pub returns-clause-history : goal.returns-clause-history
returns-clause-history c =
    let rows = ap (λ (book : Book). book.rows) c.self.view_is in
    let made = ap (λ (book : Book). book.exclusions) c.self.view_is in
    gains-lifted c.args.self.now
    (record {
      rows = c.self.inside.rows.rows;
      exclusions = c.lift.new.self.made;
      room = c.args.self.now.room;
      spare = c.lift.new.self.spare;
    }) c.args.id
    c.requires (c.lift.ensures.made
    ∙ ap (λ (made : List (Exclusion × Bool)). after_lifting made c.args.id) made) rows
