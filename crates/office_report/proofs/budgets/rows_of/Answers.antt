use Rattle.std.proofs.Common.{◌<◌, ◌≤◌, arith}
use Rattle.office_history.specs.History.{end_of, present}
use Rattle.office_report.proofs.AnswerLemmas.{nothing_else, refused_rows}
use Rattle.office_report.proofs.PresentLemmas.{present_in_range}
use Rattle.office_report.proofs.budgets.rows_of.Goals as goal

pub answer-requires-clause-in_range : goal.answer-requires-clause-in_range
answer-requires-clause-in_range c =
    let o = c.args.core.now.office in
    let now : present o < end_of o.origin = present_in_range o.origin c.is_legal.ensures.legal in
    omega (arith, c.moment-moment.ensures)

pub returns-in-Refused-clause-rows : goal.returns-in-Refused-clause-rows
returns-in-Refused-clause-rows c =
    refused_rows c.args.core.now.office c.moment-moment.result c.args.at c.args.name
    c.in-Refused.field-0 c.requires.begun (omega (arith, c.moment-moment.ensures))
    c.in-Refused.ensures.answer

pub unreachable-requires : goal.unreachable-requires
unreachable-requires c =
    nothing_else c.args.core.now.office c.moment-moment.result c.args.at c.args.name
    c.answer.result c.answer.ensures.answer c.in_default.not-Budgets c.in_default.not-Refused
    c.in_default.not-NoMemory
