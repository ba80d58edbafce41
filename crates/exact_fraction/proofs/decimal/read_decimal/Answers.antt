use Rattle.std.proofs.Common.{◌∙◌, subst, sym, Result, ℕ}
use Rattle.exact_fraction.specs.Decimal.{AnswersDecimal}
use Rattle.exact_fraction.specs.declared.decimal.DecimalFault.{DecimalFault}
use Rattle.exact_fraction.proofs.DecimalForm.{answers-by_cuts, answers-unique}
use Rattle.exact_fraction.proofs.decimal.read_decimal.Goals as goal

pub returns-clause-answer : goal.returns-clause-answer
returns-clause-answer c =
    let P : Result ℕ DecimalFault → Type 0 = AnswersDecimal c.args.text.now in
    subst P (sym c.read_by_cuts.ensures) (answers-by_cuts c.args.text.now)

pub returns-clause-only : goal.returns-clause-only
returns-clause-only c other h = c.read_by_cuts.ensures
    ∙ answers-unique c.args.text.now _ other (answers-by_cuts c.args.text.now) h
