use Rattle.office_report.proofs.LawLemmas.{one_report}
use Rattle.office_report.proofs.laws.a_report_is_one_text.Goals as goal

pub returns : goal.returns
returns c = one_report c.each_query_has_one_answer.ensures
