-- Indicators (OpenSLO v1, SLI).
use Rattle.std.specs.Prelude.{Bool, true, false, List, [], ◌∷◌, Option, Some, None, Result, codes}
use Rattle.yaml_terms.specs.Spelling.{Spelling, word, fields}
use Rattle.object_terms.specs.declared.sli.Sli.{Sli}
use Rattle.object_terms.specs.declared.sli.Metric.{Metric}
use Rattle.object_terms.specs.declared.sli.Metric.TheVariants as metrics
use Rattle.object_terms.specs.declared.sli.MetricSource.{MetricSource}
use Rattle.object_terms.specs.declared.sli.RatioMetric.{RatioMetric}
use Rattle.object_terms.specs.declared.sli.Ratio.{Ratio}
use Rattle.object_terms.specs.declared.sli.Ratio.TheVariants as ratios
use Rattle.object_terms.specs.declared.sli.RawType.{RawType}
use Rattle.object_terms.specs.declared.sli.RawType.TheVariants.{Success, Failure}
use Rattle.object_terms.specs.declared.sli.Events.{Events}
use Rattle.object_terms.specs.declared.sli.Events.TheVariants.{Good, Bad}
use Rattle.object_terms.specs.declared.fault.Rule.{Rule}
use Rattle.object_terms.specs.declared.fault.Rule.TheVariants as rules
use Rattle.object_terms.specs.declared.object.Body.{Body}
use Rattle.object_terms.specs.declared.object.Body.TheVariants as bodies
use Rattle.object_terms.specs.Form.{Key, Form, FieldTable, done, ◌of◌, ◌>>=◌, required, optional}
use Rattle.object_terms.specs.Form.{optional_alone, one_of, map_with, variant, fields_by, free}
use Rattle.object_terms.specs.Form.{scalar_form, written_where}
use Rattle.object_terms.specs.Scalars.{description, text, name, boolean, found_or, of_word}
use Rattle.object_terms.specs.declared.keys.TheConstants.{DESCRIPTION, SPEC, TYPE, BAD, COUNTER}
use Rattle.object_terms.specs.declared.keys.TheConstants.{GOOD, METRIC_SOURCE, METRIC_SOURCE_REF}
use Rattle.object_terms.specs.declared.keys.TheConstants.{RATIO_METRIC, RAW, RAW_TYPE}
use Rattle.object_terms.specs.declared.keys.TheConstants.{THRESHOLD_METRIC, TOTAL}

-- `metricSource`
unfoldable pub metric_source : FieldTable MetricSource
metric_source = do
  metric_source_ref ← optional METRIC_SOURCE_REF.now name of λ m. m.metric_source_ref
  type_text ← optional TYPE.now text of λ m. m.type_text
  spec ← optional SPEC.now free of λ m. m.spec
  done (record { metric_source_ref = metric_source_ref; type_text = type_text; spec = spec })

-- `thresholdMetric`, `raw`, `total`, `good` and `bad`: a map of `metricSource`
unfoldable pub source_map : FieldTable MetricSource
source_map = do
  source ← required METRIC_SOURCE.now (map_with metric_source) of λ m. m
  done source

abbrev pub source : Form MetricSource
source = map_with source_map

-- the words of `rawType`
abbrev pub raw_type_word : RawType → Key
raw_type_word Success = codes "success"
raw_type_word Failure = codes "failure"

abbrev pub all_raw_types : List RawType
all_raw_types = Success ∷ Failure ∷ []

unfoldable pub raw_type_value : Key → Result RawType Rule
raw_type_value bytes = found_or rules.BadWord (of_word raw_type_word all_raw_types bytes)

abbrev pub raw_type : Form RawType
raw_type = scalar_form rules.BadWord raw_type_value (λ t. word (raw_type_word t))

-- `good` or `bad`
abbrev pub source_of : Events → MetricSource
source_of (Good m) = m
source_of (Bad m) = m

abbrev pub is_good : Events → Bool
is_good (Good m) = true
is_good (Bad m) = false

abbrev pub events_written : Events → Spelling
events_written e = source.write (source_of e)

-- the parts of a ratio: where it is raw, what is said of its counts isn't looked at, and the
-- other way round
abbrev pub raw_in : Ratio → Option MetricSource
raw_in (ratios.Raw raw _) = Some raw
raw_in (ratios.Counts total events) = None

abbrev pub raw_type_in : Ratio → RawType
raw_type_in (ratios.Raw _ t) = t
raw_type_in (ratios.Counts total events) = Success

abbrev pub total_in : Ratio → MetricSource
total_in (ratios.Raw raw _) = raw
total_in (ratios.Counts total events) = total

abbrev pub events_in : Ratio → Events
events_in (ratios.Raw raw _) = Good raw
events_in (ratios.Counts total events) = events

-- a ratio behind `counter` and `raw`, where `raw` stands and where it doesn't
unfoldable pub raw_ratio : Option Bool → MetricSource → FieldTable RatioMetric
raw_ratio counter raw = do
  raw_type ← required RAW_TYPE.now raw_type of λ r. raw_type_in r.ratio
  done (record { counter = counter; ratio = ratios.Raw raw raw_type })

unfoldable pub counted_ratio : Option Bool → FieldTable RatioMetric
counted_ratio counter = do
  total ← required TOTAL.now source of λ r. total_in r.ratio
  events ← one_of GOOD.now (variant source Good events_written) BAD.now
      (variant source Bad events_written) is_good of λ r. events_in r.ratio
  done (record { counter = counter; ratio = ratios.Counts total events })

abbrev pub rest_of_ratio : Option Bool → Option MetricSource → FieldTable RatioMetric
rest_of_ratio counter (Some raw) = raw_ratio counter raw
rest_of_ratio counter None = counted_ratio counter

-- the fields before them
abbrev pub known_with_raw : List Key
known_with_raw = COUNTER.now ∷ RAW.now ∷ []

-- `ratioMetric`
unfoldable pub ratio_metric : FieldTable RatioMetric
ratio_metric = do
  counter ← optional COUNTER.now boolean of λ r. r.counter
  raw ← optional_alone RAW.now (TOTAL.now ∷ GOOD.now ∷ BAD.now ∷ []) source of λ r. raw_in r.ratio
  rest_of_ratio counter raw

abbrev pub is_threshold : Metric → Bool
is_threshold (metrics.Threshold m) = true
is_threshold (metrics.Ratio r) = false

abbrev pub metric_written : Metric → Spelling
metric_written (metrics.Threshold m) = source.write m
metric_written (metrics.Ratio r) = fields (fields_by ratio_metric r)

-- `spec`
unfoldable pub sli : FieldTable Sli
sli = do
  description ← optional DESCRIPTION.now description of λ s. s.description
  metric ← one_of THRESHOLD_METRIC.now (variant source metrics.Threshold metric_written)
      RATIO_METRIC.now (variant (map_with ratio_metric) metrics.Ratio metric_written) is_threshold
      of λ s. s.metric
  done (record { description = description; metric = metric })

-- the object's body
abbrev pub sli_in : Body → Option Sli
sli_in (bodies.Sli s) = Some s
sli_in _ = None

abbrev pub sli_body : Form Body
sli_body = variant (map_with sli) bodies.Sli (written_where (map_with sli) sli_in)
