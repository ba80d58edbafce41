use Rattle.std.proofs.Common.{◌≡◌, ◌*◌, ◌∙◌, Some, ap, option_copied, sym}
use Rattle.object_terms.specs.Slo.{slo_in}
use Rattle.office_history.specs.Batches.{days_of_slo}
use Rattle.objective_days.proofs.count.days_of_object.Goals as goal

pub returns-in-Some-clause-exact : goal.returns-in-Some-clause-exact
returns-in-Some-clause-exact c =
    let slo : Some c.in-Some.slo.now ≡ slo_in c.args.object.now.body =
    ap option_copied (sym c.in-Some.is) ∙ c.slo_in.ensures in
    (λ i. c.count.ensures.all i * (c.from.ensures ∙ c.days_of-days.ensures) i)
    ∙ ap (days_of_slo c.args.book.now.rows) slo
