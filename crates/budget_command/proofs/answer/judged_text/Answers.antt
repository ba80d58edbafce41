use Rattle.std.proofs.Common.{◌≡◌, refl, subst}
use Rattle.std.specs.Prelude.{Option}
use Rattle.csv_records.specs.Records.{csv_records}
use Rattle.budget_command.specs.Tables.{ComesTo}
use Rattle.budget_command.specs.declared.fault.RecordFault.{RecordFault}
use Rattle.budget_command.specs.declared.fault.BudgetFault.TheVariants.{BadRecord}
use Rattle.budget_command.proofs.BudgetLemmas.{answer-broken, same_refusal}
use Rattle.budget_command.proofs.answer.judged_text.Goals as goal

pub returns-in-Some-clause-fault : goal.returns-in-Some-clause-fault
returns-in-Some-clause-fault c = λ refusal told bytes few judged.
    let number = c.args.judging.now.number in
    let fault = c.in-Some.fault in
    let is : BadRecord number fault ≡ refusal = same_refusal number number fault fault refusal told
    refl refl in
    let comes = subst (λ (f : Option RecordFault). ComesTo (csv_records bytes) f number
    c.args.judging.now.table) c.in-Some.is judged.comes in
    answer-broken c.args.order bytes number fault refusal few comes is
