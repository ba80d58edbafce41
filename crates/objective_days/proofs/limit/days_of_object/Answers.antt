use Rattle.std.proofs.Common.{◌≡◌, ◌*◌, ◌++◌, ◌∙◌, Some, ap, length, option_copied, sym}
use Rattle.object_terms.specs.Slo.{slo_in}
use Rattle.sample_book.specs.Rows.{current_rows}
use Rattle.office_history.specs.Batches.{days_of_slo}
use Rattle.objective_days.proofs.limit.days_of_object.Goals as goal

pub returns-in-Some-clause-exact : goal.returns-in-Some-clause-exact
returns-in-Some-clause-exact c = λ more b.
    let rows = current_rows (c.args.book.now.rows ++ more) in
    let slo : Some c.in-Some.slo.now ≡ slo_in c.args.object.now.body =
    ap option_copied (sym c.in-Some.is) ∙ c.slo_in.ensures in
    (λ i. length (c.as_slice.ensures i)
    * (c.from.ensures ∙ c.days_of-days.ensures.exact more b) i) ∙ ap (days_of_slo rows) slo
