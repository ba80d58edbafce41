-- How a duration is written.
use Rattle.std.specs.Prelude.{ℕ, List, [], ◌∷◌, ◌++◌, decimal}
use Rattle.slo_duration.specs.Unit.{letter}
use Rattle.slo_duration.specs.declared.duration.Duration.{Duration}

-- the count in decimal digits, then the letter of the unit
abbrev pub duration_text : Duration → List ℕ
duration_text value = decimal value.count ++ letter value.unit ∷ []
