use Rattle.std.proofs.Common.{◌∙◌, ap, Option}
use Rattle.sample_book.specs.declared.row.Row.{Row}
use Rattle.sample_book.specs.Puts.{later_of}
use Rattle.sample_book.specs.Rows.{kept_of, verdict_where}
use Rattle.sample_book.proofs.BatchLemmas.{kept-later}
use Rattle.sample_book.proofs.current_rows.CurrentRows.check_after.Goals as goal

pub returns : goal.returns
returns c came others =
    let row = c.args.row.now in
    let kept = kept_of c.args.self.now.rows row in
    c.verdict_where.ensures
    ∙ ap (λ (o : Option Row). verdict_where o row) c.later_of.ensures
    ∙ ap (λ (o : Option Row). verdict_where (later_of o c.kept-2.result) row) c.kept.ensures
    ∙ ap (λ (o : Option Row). verdict_where (later_of kept o) row) c.kept-2.ensures
    ∙ ap (λ rows. verdict_where (later_of kept (kept_of rows row)) row) others
    ∙ kept-later c.args.self.now.rows came row c.are_current.ensures
