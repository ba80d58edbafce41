-- How the amounts of an indicator's rows are read (OpenSLO v1, SLI), and whose reading a text
-- changes.
use Rattle.std.specs.Prelude.{Bool, true, false, not, cond, ℕ, List, [], ◌∷◌, Option, Some, None}
use Rattle.std.specs.Option.{option_or}
use Rattle.slice_method.specs.declared.Reading.{Reading}
use Rattle.slice_method.specs.declared.Reading.TheVariants as readings
use Rattle.sample_book.specs.declared.Row.{Row}
use Rattle.sample_book.specs.Counting.{first_of}
use Rattle.object_terms.specs.declared.Object.{Object}
use Rattle.object_terms.specs.declared.Sli.{Sli}
use Rattle.object_terms.specs.declared.Metric.{Metric}
use Rattle.object_terms.specs.declared.Metric.TheVariants as metrics
use Rattle.object_terms.specs.declared.Ratio.{Ratio}
use Rattle.object_terms.specs.declared.Ratio.TheVariants as ratios
use Rattle.object_terms.specs.declared.RawType.{RawType}
use Rattle.object_terms.specs.declared.RawType.TheVariants as raw_types
use Rattle.object_terms.specs.declared.Events.{Events}
use Rattle.object_terms.specs.declared.Events.TheVariants as events
use Rattle.object_terms.specs.Sli.{sli_in}
use Rattle.catalog_terms.specs.NeedsOp.{sli_named}

abbrev pub reading_of_raw : RawType → Reading
reading_of_raw raw_types.Success = readings.RawSuccess
reading_of_raw raw_types.Failure = readings.RawFailure

abbrev pub reading_of_events : Events → Reading
reading_of_events (events.Good source) = readings.Good
reading_of_events (events.Bad source) = readings.Bad

abbrev pub reading_of_ratio : Ratio → Reading
reading_of_ratio (ratios.Raw raw raw_type) = reading_of_raw raw_type
reading_of_ratio (ratios.Counts total counted) = reading_of_events counted

-- how the amounts of an indicator are read
abbrev pub reading_of : Metric → Reading
reading_of (metrics.Threshold source) = readings.Threshold
reading_of (metrics.Ratio ratio) = reading_of_ratio ratio.ratio

abbrev pub same_reading : Reading → Reading → Bool
same_reading readings.Good readings.Good = true
same_reading readings.Bad readings.Bad = true
same_reading readings.Threshold readings.Threshold = true
same_reading readings.RawSuccess readings.RawSuccess = true
same_reading readings.RawFailure readings.RawFailure = true
same_reading _ _ = false

-- the member is read otherwise
abbrev pub is_other_reading : Reading → Option Sli → Bool
is_other_reading reading None = false
is_other_reading reading (Some member) = not (same_reading reading (reading_of member.metric))

-- the first row of an indicator of the objects that has rows and would get another reading than the
-- member's
abbrev pub row_read_anew : List Object → List Row → List ℕ → Option Sli → Option Row
row_read_anew members rows name None = None
row_read_anew members rows name (Some sli) =
    cond (is_other_reading (reading_of sli.metric) (sli_named members name)) (first_of rows name)
    None

abbrev pub first_read_anew : List Object → List Row → List Object → Option Row
first_read_anew members rows [] = None
first_read_anew members rows (o ∷ os) =
    option_or (row_read_anew members rows o.name (sli_in o.body)) (first_read_anew members rows os)
