-- The library's moments that stand for starts.
use Rattle.std.specs.Prelude.{◌≡◌, ℕ}
use Rattle.jiff_core.specs.DateTime.{civil_seconds}
use Rattle.jiff_core.specs.declared.civil.datetime.DateTime.{DateTime}
use Rattle.slo_duration.specs.declared.duration.Duration.{Duration}
use Rattle.zone_calendar.specs.Starts.{civil_second}
use Rattle.zone_calendar.specs.declared.civil.Civil.{Civil}

-- a whole second, that of the start number k
pub record IsMomentOf (first : Civil) (step : Duration) (k : ℕ) (moment : DateTime) : Type 0 where
  pub second : civil_seconds moment ≡ civil_second first step k
  pub whole : moment.time.subsec_nanosecond ≡ 0
