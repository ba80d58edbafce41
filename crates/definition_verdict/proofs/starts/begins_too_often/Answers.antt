use Rattle.std.proofs.Common.{sym}
use Rattle.definition_verdict.proofs.StartLemmas.{calendar_step}
use Rattle.definition_verdict.proofs.starts.begins_too_often.Goals as goal

pub has_too_many_starts-requires-clause-step : goal.has_too_many_starts-requires-clause-step
has_too_many_starts-requires-clause-step c =
    let slo = c.in-Some.slo.now in
    calendar_step slo.time_window c.in-Some-calendar.calendar
    (c.windows_are_in_range.ensures c.args.object.now slo c.requires.document
    (sym c.in-Some.ensures)) c.in-Some-calendar.is
