use Rattle.std.proofs.Common.{refl}
use Rattle.office_keep.specs.Steps.{is_changeless, is_refused, lacks_memory}
use Rattle.office_keep.proofs.steps.judge.Goals as goal

pub returns-in-Same-clause-judged : goal.returns-in-Same-clause-judged
returns-in-Same-clause-judged c =
    let verdict = c.in-Same.ensures.verdict in (is_changeless verdict.0, verdict.1)

pub returns-in-Refused-clause-judged : goal.returns-in-Refused-clause-judged
returns-in-Refused-clause-judged c =
    let verdict = c.in-Refused.ensures.verdict in
    (is_refused c.in-Refused.refusal refl verdict.0, verdict.1)

pub returns-in-NoMemory-clause-judged : goal.returns-in-NoMemory-clause-judged
returns-in-NoMemory-clause-judged c = (lacks_memory refl, c.in-NoMemory.ensures.verdict)
