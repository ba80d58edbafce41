-- How long a duration is.
use Rattle.std.specs.Prelude.{ℕ, ◌*◌}
use Rattle.slo_duration.specs.Unit.{unit_minutes}
use Rattle.slo_duration.specs.declared.duration.Duration.{Duration}

-- the minutes of a duration in a rolling window or a lookback
abbrev pub minutes_of : Duration → ℕ
minutes_of duration = duration.count * unit_minutes duration.unit
