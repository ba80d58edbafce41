use Rattle.std.proofs.Common.{List, Some, sym, subst}
use Rattle.record_form.specs.declared.BudgetRow.{BudgetRow}
use Rattle.office_report.specs.Rows.{AreRows}
use Rattle.office_report.proofs.LineLemmas.{if_counted}
use Rattle.office_report.proofs.budgets.slo_lines.Goals as goal

pub returns-in-Some-clause-lines : goal.returns-in-Some-clause-lines
returns-in-Some-clause-lines c =
    let o = c.args.core.now.office in
    if_counted (λ v. v.items) c.counted_lines.result c.args.states.now o c.args.at c.args.name
    c.as_slice.result.now
    (subst (λ (rows : List BudgetRow). AreRows o c.args.at c.args.name (Some rows))
    (sym c.as_slice.ensures)
    (subst (AreRows o c.args.at c.args.name) c.in-Some.is c.in_ok-rows.ensures.rows))
    c.counted_lines.ensures
