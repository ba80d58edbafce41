-- The windows of a calendar in a document follow each other by a step of calendars.
use Rattle.std.proofs.Common.{◌≡◌, Some, subst}
use Rattle.std.specs.Prelude.{IfSome}
use Rattle.object_laws.specs.Ranges.{IsWindow}
use Rattle.object_terms.specs.declared.Calendar.{Calendar}
use Rattle.object_terms.specs.declared.window.TimeWindow.{TimeWindow}
use Rattle.zone_calendar.specs.Starts.{IsCalendarStep}

pub calendar_step : (window : TimeWindow) (calendar : Calendar) → IsWindow window
    → window.calendar ≡ Some calendar → IsCalendarStep window.duration.span
calendar_step window calendar is has =
    subst (λ found. IfSome found (λ _. IsCalendarStep window.duration.span)) has is.step
