-- What scalars stand for: durations.
use Rattle.std.specs.Prelude.{ℕ, List, Result, Ok, Err}
use Rattle.yaml_terms.specs.Spelling.{Spelling, word}
use Rattle.slo_duration.specs.Reading.{duration_of}
use Rattle.slo_duration.specs.Writing.{duration_text}
use Rattle.slo_duration.specs.declared.duration.Duration.{Duration}
use Rattle.slo_duration.specs.declared.read.DurationFault.{DurationFault}
use Rattle.slo_duration.specs.declared.read.DurationFault.TheVariants as durations
use Rattle.object_terms.specs.declared.fault.Rule.{Rule}
use Rattle.object_terms.specs.declared.fault.Rule.TheVariants as rules
use Rattle.object_terms.specs.Form.{Form, scalar_form}
use Rattle.object_terms.specs.Ranges.{Range}
use Rattle.object_terms.specs.Scalars.{ranged}

-- the rule that a text breaks which is no duration
abbrev pub duration_ruled : Result Duration DurationFault → Result Duration Rule
duration_ruled (Ok d) = Ok d
duration_ruled (Err durations.TooLong) = Err rules.OutOfRange
duration_ruled (Err durations.Empty) = Err rules.NotDuration
duration_ruled (Err durations.BadNumber) = Err rules.NotDuration
duration_ruled (Err durations.BadUnit) = Err rules.NotDuration

-- the duration of a text, or the rule that it breaks
unfoldable pub duration_or_rule : List ℕ → Result Duration Rule
duration_or_rule bytes = duration_ruled (duration_of bytes)

-- a duration in a range
unfoldable pub duration_value : {A : Type 0} → Range Duration A → List ℕ → Result A Rule
duration_value range bytes = ranged range.in_range (duration_or_rule bytes)

abbrev pub duration_written : {A : Type 0} → Range Duration A → A → Spelling
duration_written range value = word (duration_text (range.value value))

abbrev pub duration : {A : Type 0} → Range Duration A → Form A
duration range = scalar_form rules.NotDuration (duration_value range) (duration_written range)
