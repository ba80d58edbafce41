use Rattle.std.proofs.Common.{◌≡◌, pos, ◌-ℤ◌, arith, subst, w64, FitsSigned, Option}
use Rattle.std.specs.Prelude.{IfSome}
use Rattle.std.specs.Int.{int_div_euclid}
use Rattle.std.proofs.lemmas.Int.{to_z-of_z}
use Rattle.jiff_core.proofs.SignedLemmas.{signed_arith}
use Rattle.jiff_core.specs.Calendar.{IsWithin}
use Rattle.jiff_core.specs.declared.civil.datetime.DateTime.{DateTime}
use Rattle.zone_calendar.specs.Moments.{IsMomentOf}
use Rattle.zone_calendar.specs.Starts.{civil_second}
use Rattle.zone_calendar.proofs.StartLemmas.{unsigned_below, minute_fits, civil_second-low}
use Rattle.zone_calendar.proofs.StartLemmas.{below_test}
use Rattle.zone_calendar.proofs.calendar.start.Goals as goal

pub overflow_cast-result : goal.overflow_cast-result
overflow_cast-result c =
    let first = c.args.first.now in
    let second = civil_second first c.args.step c.args.k in
    let moment : IsMomentOf first c.args.step c.args.k c.unwrap-moment.result =
    subst (λ (r : Option DateTime). IfSome r (IsMomentOf first c.args.step c.args.k))
    c.unwrap-moment.ensures c.moment_after.ensures.some in
    let near : IsWithin 93_599 (c.instant.result -ℤ second) =
    rw moment.second at c.instant.ensures.near in
    let low = civil_second-low first c.args.step c.args.k in
    let high = below_test _ _ c.requires.counted in
    let minute =
    minute_fits c.instant.result second c.args.horizon near low high c.requires.horizon in
    let fits : FitsSigned w64 c.instant.result =
    omega (arith, signed_arith, near, low, high, c.requires.horizon) in
    let value : c.div_euclid.result ≡ int_div_euclid c.instant.result (pos 60) =
    rw (to_z-of_z w64 c.instant.result fits) at c.div_euclid.ensures in
    let whole : FitsSigned w64 (int_div_euclid c.instant.result (pos 60)) =
    omega (arith, signed_arith, minute.low, minute.high) in
    rw (value, to_z-of_z w64 _ whole) (
      omega (arith, signed_arith, minute.low),
      omega (arith, unsigned_below _ _ minute.low minute.high),
    )
