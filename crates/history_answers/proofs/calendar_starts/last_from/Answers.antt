use Rattle.std.proofs.Common.{subst}
use Rattle.zone_calendar.specs.Window.{IsLastStart}
use Rattle.history_answers.proofs.StartLemmas.{last_before, last_nowhere, last_there}
use Rattle.history_answers.proofs.calendar_starts.last_from.Goals as goal

pub returns-then-start-from : goal.returns-then-start-from
returns-then-start-from c =
    last_before c.args.zone.now c.args.calendar.now c.args.step c.args.horizon c.args.from
    c.args.at c.in-Some.start
    (subst (IsLastStart c.args.zone.now c.args.calendar.now.start_time c.args.step c.args.horizon
    c.args.at) c.in-Some.is c.last_start.ensures) c.if-start-from.true

pub returns-else-start-from : goal.returns-else-start-from
returns-else-start-from c =
    last_there c.args.zone.now c.args.calendar.now c.args.step c.args.horizon c.args.from
    c.args.at c.in-Some.start
    (subst (IsLastStart c.args.zone.now c.args.calendar.now.start_time c.args.step c.args.horizon
    c.args.at) c.in-Some.is c.last_start.ensures) c.if-start-from.false

pub returns-in-None : goal.returns-in-None
returns-in-None c =
    last_nowhere c.args.zone.now c.args.calendar.now c.args.step c.args.horizon c.args.from
    c.args.at
    (subst (IsLastStart c.args.zone.now c.args.calendar.now.start_time c.args.step c.args.horizon
    c.args.at) c.in-None.is c.last_start.ensures)
