use Rattle.std.proofs.Common.{ap, subst, sym, arith, length}
use Rattle.std.specs.List.{AllByRecursion}
use Rattle.slice_method.specs.declared.Counts.{Counts}
use Rattle.sample_book.specs.Book.{Book}
use Rattle.sample_book.specs.Counting.{IsSmallRow}
use Rattle.sample_book.proofs.TallyLemmas.{counts_small}
use Rattle.sample_book.proofs.book.SampleBook.counts_at.Goals as goal

pub returns-clause-few : goal.returns-clause-few
returns-clause-few c small =
    let rows = c.self.inside.rows.rows in
    let few = counts_small c.args.reading c.args.op c.args.value rows c.args.sli c.args.minute
    (subst (λ (book : Book). AllByRecursion IsSmallRow book.rows) (sym c.self.view_is) small) in
    omega (
      arith,
      few,
      ap (λ (sum : Counts). sum.total) c.counts_at.ensures.counts,
      ap (λ (book : Book). length book.rows) c.self.view_is,
    )
