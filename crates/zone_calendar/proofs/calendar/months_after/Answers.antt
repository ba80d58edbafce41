use Rattle.std.proofs.Common.{◌≡◌, ◌↔◌, ◌<◌, ℤ, pos, ◌+ℤ◌, refl, subst, arith, w32, to_z}
use Rattle.std.specs.Prelude.{IsOk}
use Rattle.std.proofs.lemmas.Int.{to_z_pos}
use Rattle.jiff_core.proofs.SignedLemmas.{signed_arith}
use Rattle.jiff_core.specs.Calendar.{IsYear}
use Rattle.jiff_span.specs.Months.{month_number}
use Rattle.zone_calendar.specs.Starts.{month_of, year_of_month}
use Rattle.zone_calendar.proofs.DateLemmas.{clamped_day-far, month_of-low}
use Rattle.zone_calendar.proofs.StartLemmas.{none_is_far}
use Rattle.zone_calendar.proofs.calendar.months_after.Goals as goal

pub returns-then-count-gt-MOST_MONTHS-clause-none :
    goal.returns-then-count-gt-MOST_MONTHS-clause-none
returns-then-count-gt-MOST_MONTHS-clause-none c =
    let first = c.args.first.now in
    let far : 480_000 < c.args.count = omega (arith, c.if-count-gt-MOST_MONTHS.true) in
    clamped_day-far (month_of first +ℤ pos c.args.count) first.day first.day_in.0
    (omega (arith, signed_arith, far, month_of-low first))

pub returns-clause-none : goal.returns-clause-none
returns-clause-none c =
    let first = c.args.first.now in
    let months : month_number c.date_of.result +ℤ to_z w32 c.args.count
    ≡ month_of first +ℤ pos c.args.count =
    rw (
      c.date_of.ensures.year,
      c.date_of.ensures.month,
      to_z_pos w32 c.args.count (omega arith),
    ) refl in
    none_is_far c.ok.result c.add_months.result (month_of first +ℤ pos c.args.count) first.day
    c.ok.ensures.value
    (subst (λ (m : ℤ). IsOk c.add_months.result ↔ IsYear (year_of_month m)) months
    c.add_months.ensures.succeeds)
    (omega (arith, signed_arith, month_of-low first)) first.day_in.0
