use Rattle.office_run.proofs.EndingLemmas.{refusal-settled, status-settled}
use Rattle.office_run.proofs.answer.run_answer.Goals as goal

pub returns-clause-status : goal.returns-clause-status
returns-clause-status g c =
    let printed = c.print_answer-ending.ensures in
    status-settled c.args.command _ c.settle.result _ _ _ _ _ _ c.print_answer-ending.result
    (λ e. let done = printed.done e in (done.text, done.answer))
    printed.refused printed.read printed.write printed.usage c.settle.ensures

pub returns-clause-refused : goal.returns-clause-refused
returns-clause-refused g c =
    refusal-settled c.args.command _ c.settle.result _ _ _ _ c.print_answer-ending.result
    c.print_answer-ending.ensures.refused c.settle.ensures
