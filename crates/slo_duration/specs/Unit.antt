-- The units of OpenSLO's duration shorthand.
use Rattle.std.specs.Prelude.{ℕ, List, [], ◌∷◌, Option, Some, None, ◌==◌, if◌then◌else◌}
use Rattle.slo_duration.specs.declared.unit.Unit.{Unit}
use Rattle.slo_duration.specs.declared.unit.Unit.TheVariants.{Minute, Hour, Day, Week, Month}
use Rattle.slo_duration.specs.declared.unit.Unit.TheVariants.{Quarter, Year}

-- OpenSLO v1, duration shorthand: the letter of a unit, `m h d w M Q Y`
abbrev pub letter : Unit → ℕ
letter Minute = 109
letter Hour = 104
letter Day = 100
letter Week = 119
letter Month = 77
letter Quarter = 81
letter Year = 89

-- the unit of a letter
abbrev pub unit_of_letter : ℕ → Option Unit
unit_of_letter byte =
    if byte == 109 then Some Minute
    else (if byte == 104 then Some Hour
    else (if byte == 100 then Some Day
    else (if byte == 119 then Some Week
    else (if byte == 77 then Some Month
    else (if byte == 81 then Some Quarter
    else (if byte == 89 then Some Year else None))))))

-- the unit of a text that is one letter
abbrev pub unit_of : List ℕ → Option Unit
unit_of [] = None
unit_of (byte ∷ []) = unit_of_letter byte
unit_of (byte ∷ next ∷ more) = None

-- a unit's minutes in rolling windows and lookbacks: a month counts 30 days, a quarter 90,
-- a year 365
abbrev pub unit_minutes : Unit → ℕ
unit_minutes Minute = 1
unit_minutes Hour = 60
unit_minutes Day = 1_440
unit_minutes Week = 10_080
unit_minutes Month = 43_200
unit_minutes Quarter = 129_600
unit_minutes Year = 525_600
