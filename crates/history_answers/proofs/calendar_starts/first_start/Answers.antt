use Rattle.std.proofs.Common.{Some, subst}
use Rattle.office_history.specs.Windows.{IsStartIn}
use Rattle.history_answers.specs.Starts.{IsLastFrom}
use Rattle.history_answers.proofs.StartLemmas.{nowhere_from}
use Rattle.history_answers.proofs.calendar_starts.first_start.Goals as goal

pub first_up_to-requires-clause-start : goal.first_up_to-requires-clause-start
first_up_to-requires-clause-start c =
    (subst (IsLastFrom (IsStartIn (Some c.args.zone.now) c.args.calendar.now c.args.step
    c.args.horizon) c.args.from 4_294_967_295) c.in-Some.is c.last_from.ensures).0

pub first_up_to-requires-clause-later : goal.first_up_to-requires-clause-later
first_up_to-requires-clause-later c =
    (subst (IsLastFrom (IsStartIn (Some c.args.zone.now) c.args.calendar.now c.args.step
    c.args.horizon) c.args.from 4_294_967_295) c.in-Some.is c.last_from.ensures).1

pub returns-in-None : goal.returns-in-None
returns-in-None c =
    nowhere_from c.args.zone.now c.args.calendar.now c.args.step c.args.horizon c.args.from
    c.a_clock_is_less_than_26_hours_from_utc.ensures c.requires.horizon
    (subst (IsLastFrom (IsStartIn (Some c.args.zone.now) c.args.calendar.now c.args.step
    c.args.horizon) c.args.from 4_294_967_295) c.in-None.is c.last_from.ensures)
