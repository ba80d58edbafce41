use Rattle.std.proofs.Common.{Err, ap}
use Rattle.office_run.proofs.AnswerLemmas.{budget_refused}
use Rattle.office_run.proofs.answer.budget_input.Goals as goal

pub returns-in-Err-Fault-clause-refused : goal.returns-in-Err-Fault-clause-refused
returns-in-Err-Fault-clause-refused g c = λ refusal e.
    let fault = c.in-Err-Fault.fault in
    budget_refused c.args.order _ fault refusal e
    (c.in-Err-Fault.ensures.fault fault (ap Err c.in-Err-Fault.field-0-is))
