use Rattle.std.proofs.Common.{ap, ◌∙◌, ◌++◌, ◌∷◌, [], List, true, Bool}
use Rattle.sample_book.specs.Book.{Book}
use Rattle.sample_book.specs.declared.exclusions.Exclusion.{Exclusion}
use Rattle.sample_book.proofs.HistoryLemmas.{gains-excluded}
use Rattle.sample_book.proofs.book.SampleBook.exclude.Goals as goal

pub returns-clause-history : goal.returns-clause-history
returns-clause-history c =
    let rows = ap (λ (book : Book). book.rows) c.self.view_is in
    let made = ap (λ (book : Book). book.exclusions) c.self.view_is in
    gains-excluded c.args.self.now
    (record {
      rows = c.self.inside.rows.rows;
      exclusions = c.exclude.new.self.made;
      room = c.args.self.now.room;
      spare = c.exclude.new.self.spare;
    }) c.args.value
    c.requires.unused (c.exclude.ensures.made
    ∙ ap (λ (made : List (Exclusion × Bool)). made ++ (c.args.value, true) ∷ []) made) rows
