use Rattle.std.proofs.Common.{sym}
use Rattle.object_terms.specs.Slo.{calendar}
use Rattle.object_fields.proofs.ReadLemmas.{reads_behind}
use Rattle.slo_objects.proofs.window.CalendarFormReadForm.read.Goals as goal

-- line by line
pub returns : goal.returns
unfolding calendar
returns c =
    rw (sym c.in-Some.ensures)
    (reads_behind _ _ _ _ _ _ _ c.in_ok-start_time.ensures
    (reads_behind _ _ _ _ _ _ _ c.in_ok-time_zone.ensures
    c.close_with.ensures))
