use Rattle.std.proofs.Common.{◌∙◌}
use Rattle.budget_command.proofs.BudgetLemmas.{answer-lines}
use Rattle.budget_command.proofs.EventLemmas.{budget_lines-kept}
use Rattle.budget_command.proofs.answer.table_text.Goals as goal

pub returns-in-Ok-clause-ok : goal.returns-in-Ok-clause-ok
returns-in-Ok-clause-ok c = λ bytes next few all.
    let events = c.events_within-events in
    let table = c.args.table.now in
    answer-lines c.args.order bytes all.came _ few all.judged
    (c.in-Ok.ensures
    ∙ budget_lines-kept c.args.order all.came table.book.rows events.result.cells table.corrected
    table.repeated table.superseded events.result.sum
    all.kept events.ensures.cells c.requires.range events.ensures.good events.ensures.total)
