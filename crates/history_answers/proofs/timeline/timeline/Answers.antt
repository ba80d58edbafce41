use Rattle.std.proofs.Common.{◌∙◌, Option, IfOk, subst, sym}
use Rattle.office_history.specs.Alerts.{Watch}
use Rattle.office_history.specs.Answers.{AnswersTimeline}
use Rattle.history_answers.specs.Learning.{KnowsGiven}
use Rattle.history_answers.proofs.TimelineLemmas.{answers_binding}
use Rattle.kept_lines.proofs.KnownLemmas.{all_know}
use Rattle.history_answers.proofs.timeline.timeline.Goals as goal

pub returns-in-Some-clause-answer : goal.returns-in-Some-clause-answer
returns-in-Some-clause-answer c = λ o r.
    answers_binding c.args.derived.now o r c.args.moment c.args.from c.args.to c.args.binding.now
    c.watched.result c.timeline_of.result c.watched.ensures.value
    (subst (λ (w : Option Watch). IfOk c.timeline_of.result
    (AnswersTimeline o c.args.moment c.args.from c.args.to w)) (sym c.in-Some.is)
    (c.timeline_of.ensures.answer o r))

pub returns-in-Some-clause-learnt : goal.returns-in-Some-clause-learnt
returns-in-Some-clause-learnt c =
    subst (λ (w : Option Watch). IfOk c.timeline_of.result
    (λ outcome. KnowsGiven c.timeline_of.new.lines.kept c.args.from c.args.to outcome w))
    (sym c.in-Some.is ∙ c.watched.ensures.value) c.timeline_of.ensures.learnt

pub returns-in-None-clause-know : goal.returns-in-None-clause-know
returns-in-None-clause-know c = all_know c.args.lines.now.kept
