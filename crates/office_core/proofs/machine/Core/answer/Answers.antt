use Rattle.std.proofs.Common.{◌≡◌, ◌≤◌, ◌⊎◌, List, refl, subst, sym, arith}
use Rattle.object_terms.specs.declared.Object.{Object}
use Rattle.record_form.specs.declared.Outcome.TheVariants.{NoMemory}
use Rattle.office_history.specs.Answers.{Answers}
use Rattle.office_history.specs.Catalog.{catalog_in}
use Rattle.office_history.specs.History.{present}
use Rattle.history_answers.specs.Learning.{KnowsAnswered}
use Rattle.kept_lines.specs.Known.{AllKnow}
use Rattle.office_core.specs.Seen.{Machine}
use Rattle.office_core.specs.Machine.{office_of}
use Rattle.office_core.proofs.MachineLemmas.{begun}
use Rattle.office_core.proofs.machine.Core.answer.Goals as goal

pub answer-requires-clause-begun : goal.answer-requires-clause-begun
answer-requires-clause-begun c =
    let later : present (office_of c.self.inside.derived c.self.inside.records.history)
    ≤ c.args.moment = subst (λ (m : Machine). present m.office ≤ c.args.moment)
    (sym c.self.view_is) c.requires.later in
    omega (arith, begun (office_of c.self.inside.derived c.self.inside.records.history), later)

pub returns-clause-know : goal.returns-clause-know
returns-clause-know c =
    subst (λ (m : Machine). AllKnow m.lines c.answer.new.lines.kept) c.self.view_is
    c.answer.ensures.know

pub returns-clause-learnt : goal.returns-clause-learnt
returns-clause-learnt c =
    let kept = c.answer.new.lines.kept in
    subst (λ (m : Machine).
    KnowsAnswered (catalog_in m.office.history) kept c.args.query.now c.answer.result)
    c.self.view_is
    (subst (λ (os : List Object). KnowsAnswered os kept c.args.query.now c.answer.result)
    c.self.invariant.reflects.catalog c.answer.ensures.learnt)

pub returns-clause-answer : goal.returns-clause-answer
returns-clause-answer c =
    subst (λ (m : Machine). Answers m.office c.args.moment c.args.query.now c.answer.result
    ⊎ (c.answer.result ≡ NoMemory)) c.self.view_is
    (c.answer.ensures.answer (office_of c.self.inside.derived c.self.inside.records.history)
    c.self.invariant.reflects refl c.self.invariant.legal)
