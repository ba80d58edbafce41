use Rattle.std.proofs.Common.{sym, arith}
use Rattle.jiff_core.proofs.SignedLemmas.{signed_arith}
use Rattle.zone_calendar.proofs.CivilLemmas.{small_cast}
use Rattle.zone_calendar.specs.CivilRead.{in_range}
use Rattle.zone_calendar.proofs.civil_text.moment_of.Goals as goal

pub invariant_of-result-clause-year_in : goal.invariant_of-result-clause-year_in
invariant_of-result-clause-year_in c =
    let range = in_range c.args.parts (sym c.if-is_real.ensures) in
    rw (small_cast c.args.parts.year range.year_high) (
      omega (arith, signed_arith, range.year_low),
      omega (arith, signed_arith, range.year_high),
    )

pub invariant_of-result-clause-month_in : goal.invariant_of-result-clause-month_in
invariant_of-result-clause-month_in c =
    let range = in_range c.args.parts (sym c.if-is_real.ensures) in
    (range.month_low, range.month_high)

pub invariant_of-result-clause-day_in : goal.invariant_of-result-clause-day_in
invariant_of-result-clause-day_in c =
    let range = in_range c.args.parts (sym c.if-is_real.ensures) in
    rw (small_cast c.args.parts.year range.year_high) (range.day_low, range.day_high)

pub invariant_of-result-clause-hour_in : goal.invariant_of-result-clause-hour_in
invariant_of-result-clause-hour_in c = (in_range c.args.parts (sym c.if-is_real.ensures)).hour

pub invariant_of-result-clause-minute_in : goal.invariant_of-result-clause-minute_in
invariant_of-result-clause-minute_in c = (in_range c.args.parts (sym c.if-is_real.ensures)).minute

pub invariant_of-result-clause-second_in : goal.invariant_of-result-clause-second_in
invariant_of-result-clause-second_in c = (in_range c.args.parts (sym c.if-is_real.ensures)).second
