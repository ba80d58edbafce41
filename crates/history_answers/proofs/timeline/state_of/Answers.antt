use Rattle.history_answers.proofs.TimelineLemmas.{one_state}
use Rattle.kept_lines.proofs.KnownLemmas.{all_know}
use Rattle.history_answers.proofs.timeline.state_of.Goals as goal

pub returns-in-Some-clause-state : goal.returns-in-Some-clause-state
returns-in-Some-clause-state c = λ o r.
    one_state c.args.derived.now o r
    (record { slo = c.args.slo; objective = c.args.objective; policy = c.args.policy }) c.args.at
    c.watched.result c.in-Some.watch c.state_at.result c.watched.ensures.value
    c.in-Some.is c.state_at.ensures.value

pub returns-in-None-clause-know : goal.returns-in-None-clause-know
returns-in-None-clause-know c = all_know c.args.lines.now.kept
