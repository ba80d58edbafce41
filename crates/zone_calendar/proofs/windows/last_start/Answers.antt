use Rattle.std.proofs.Common.{◌≡◌, ◌+◌, min, arith}
use Rattle.zone_calendar.proofs.LastLemmas.{last_by_six}
use Rattle.zone_calendar.proofs.windows.last_start.Goals as goal

pub returns : goal.returns
returns c =
    let least : c.min-end.result ≡ min c.args.horizon (c.args.minute + 1) =
    omega (arith, c.min-end.ensures, c.saturating_add.ensures, c.requires.horizon) in
    last_by_six c.args.zone.now c.args.first.now c.args.step c.args.horizon c.args.minute
    c.min-end.result c.count_starts-count.result c.last_among.result c.requires.step
    c.requires.horizon least c.a_clock_is_less_than_26_hours_from_utc.ensures
    c.count_starts-count.ensures.below c.count_starts-count.ensures.end c.last_among.ensures
