-- What was read is read again from what it is written as: the tables of the kinds, line by line.
use Rattle.std.proofs.Common.{◌≡◌, Bool, true, [], ◌∷◌, Option, Some, None, refl, ℕ, false, cond}
use Rattle.std.proofs.Common.{arith}
use Rattle.std.specs.Prelude.{codes}
use Rattle.object_terms.specs.declared.object.Object.{Object}
use Rattle.object_terms.specs.declared.sli.MetricSource.{MetricSource}
use Rattle.object_terms.specs.declared.sli.Events.TheVariants.{Good, Bad}
use Rattle.object_terms.specs.Form.{Form, map_with, variant, written_where, free, free_map}
use Rattle.object_terms.specs.Form.{FieldTable}
use Rattle.object_terms.specs.Scalars.{description, text, name, boolean, op, number}
use Rattle.object_terms.specs.Scalars.{description_value, text_value, name_value, boolean_value}
use Rattle.object_terms.specs.Scalars.{op_value, op_word, number_value, number_written, version}
use Rattle.object_terms.specs.Scalars.{version_value, version_text, kind, kind_value, kind_word}
use Rattle.object_terms.specs.Scalars.{only_kind, only_kind_value, zone_name, zone_value}
use Rattle.object_terms.specs.Ranges.{Range, lookback_range, threshold_range, wait_range}
use Rattle.object_terms.specs.Durations.{duration, duration_value, duration_written}
use Rattle.object_terms.specs.Metadata.{metadata}
use Rattle.object_terms.specs.Service.{service, service_in, service_body}
use Rattle.object_terms.specs.DataSource.{data_source, data_source_in, data_source_body}
use Rattle.object_terms.specs.AlertNotificationTarget.{alert_notification_target, target_in}
use Rattle.object_terms.specs.AlertNotificationTarget.{target_body}
use Rattle.object_terms.specs.AlertCondition.{condition_kind, condition, alert_condition}
use Rattle.object_terms.specs.AlertCondition.{condition_in, condition_body, condition_kind_value}
use Rattle.object_terms.specs.AlertCondition.{condition_word}
use Rattle.object_terms.specs.Sli.{metric_source, source_map, source, raw_type, is_good}
use Rattle.object_terms.specs.Sli.{events_written, raw_in, rest_of_ratio, raw_ratio, counted_ratio}
use Rattle.object_terms.specs.Sli.{ratio_metric, is_threshold, metric_written, sli, sli_in}
use Rattle.object_terms.specs.Sli.{sli_body, raw_type_value, raw_type_word}
use Rattle.object_laws.proofs.LawFields.{apart}
use Rattle.object_laws.proofs.LawFieldTables.{FormLaw, Made, TableLaw, map_law}
use Rattle.object_laws.proofs.LawLines.{optional_law, required_law}
use Rattle.object_laws.proofs.LawChoices.{EitherLaw, alone_asks, alone_law, one_of_law}
use Rattle.object_laws.proofs.LawForms.{StrongLaw, variant_law, chosen_first, chosen_second}
use Rattle.object_laws.proofs.LawForms.{free_law, free_map_law}
use Rattle.object_laws.proofs.LawScalars.{text_law, description_law, name_law, boolean_law, op_law}
use Rattle.object_laws.proofs.LawScalars.{condition_kind_law, raw_type_law, text_same}
use Rattle.object_laws.proofs.LawScalars.{description_same, name_same, zone_same}
use Rattle.object_laws.proofs.LawNumbers.{number_law, duration_law, number_ok}
use Rattle.object_terms.proofs.RangeLemmas.{IsRange, lookback_is, threshold_is, wait_is}
use Rattle.object_terms.specs.declared.keys.TheConstants.{ALERT_AFTER, CONDITION, LOOKBACK_WINDOW}
use Rattle.object_terms.specs.declared.keys.TheConstants.{SEVERITY, THRESHOLD, CONNECTION_DETAILS}
use Rattle.object_terms.specs.declared.keys.TheConstants.{ANNOTATIONS, LABELS, NAME, DESCRIPTION}
use Rattle.object_terms.specs.declared.keys.TheConstants.{DISPLAY_NAME, KIND, OP, SPEC, TARGET}
use Rattle.object_terms.specs.declared.keys.TheConstants.{TYPE, BAD, COUNTER, GOOD, METRIC_SOURCE}
use Rattle.object_terms.specs.declared.keys.TheConstants.{METRIC_SOURCE_REF, RATIO_METRIC, RAW}
use Rattle.object_terms.specs.declared.keys.TheConstants.{RAW_TYPE, THRESHOLD_METRIC, TOTAL}
use Rattle.yaml_terms.specs.Spelling.{word, quoted}
use Rattle.yaml_terms.specs.SpellingFits.{SpellingFits}
use Rattle.exact_fraction.specs.declared.op.Op.TheVariants.{Lte, Gte, Lt, Gt}
use Rattle.slo_duration.specs.declared.duration.Duration.{Duration}
use Rattle.exact_fraction.specs.declared.op.Op.{Op}
use Rattle.object_terms.specs.declared.alert_condition.ConditionKind.{ConditionKind}
use Rattle.object_terms.specs.declared.sli.RawType.{RawType}
use Rattle.object_terms.specs.declared.alert_condition.ConditionKind.TheVariants.{Burnrate}
use Rattle.object_terms.specs.declared.kind.Kind.{Kind}
use Rattle.object_terms.specs.declared.sli.RawType.TheVariants.{Success, Failure}
use Rattle.object_laws.proofs.LawPlain.{decimal_written, duration_plain}
use Rattle.object_laws.proofs.LawFits.{FormFit, TableFit, Within, map_fit, optional_fit}
use Rattle.object_laws.proofs.LawFits.{required_fit, alone_fit, one_of_fit}
use Rattle.object_laws.proofs.LawFitForms.{variant_fit, chosen_fit, free_fit, free_map_fit}
use Rattle.object_laws.proofs.LawFitForms.{scalar_fit, quoted_fit, word_fit}
use Rattle.object_terms.specs.declared.object.Body.TheVariants as bodies
use Rattle.object_terms.specs.declared.sli.Metric.TheVariants as metrics
use Rattle.object_terms.specs.declared.fault.Rule.TheVariants as rules
use Rattle.object_terms.specs.declared.kind.Kind.TheVariants as kinds

-- a form that reads no null reads again what isn't null
pub loose : {A : Type 0} (P : Object → Type 0) (f : Form A) → StrongLaw P f → FormLaw P f
loose P f law key t y n e = law key t y e

abbrev pub description_line : (P : Object → Type 0) → FormLaw P description
description_line P = loose P description (description_law P)

abbrev pub text_line : (P : Object → Type 0) → FormLaw P text
text_line P = loose P text (text_law P)

abbrev pub name_line : (P : Object → Type 0) → FormLaw P name
name_line P = loose P name (name_law P)

pub metadata_law : (P : Object → Type 0) → TableLaw P [] metadata
unfolding metadata
metadata_law P = (
  required_law P NAME.now name (name_line P),
  λ n. (
    refl,
    λ d l a. refl,
    (
      optional_law P DISPLAY_NAME.now text (text_line P),
      λ d. (
        refl,
        λ l a. refl,
        (
          optional_law P LABELS.now free_map (free_map_law P),
          λ l. (
            refl,
            λ a. refl,
            (optional_law P ANNOTATIONS.now free_map (free_map_law P), λ a. (refl, refl, tt)),
          ),
        ),
      ),
    ),
  ),
)

pub service_law : (P : Object → Type 0) → TableLaw P [] service
unfolding service
service_law P = (
  optional_law P DESCRIPTION.now description (description_line P),
  λ d. (refl, refl, tt),
)

pub data_source_law : (P : Object → Type 0) → TableLaw P [] data_source
unfolding data_source
data_source_law P = (
  optional_law P DESCRIPTION.now description (description_line P),
  λ d. (
    refl,
    λ t c. refl,
    (
      required_law P TYPE.now text (text_line P),
      λ t. (
        refl,
        λ c. refl,
        (optional_law P CONNECTION_DETAILS.now free (free_law P), λ c. (refl, refl, tt)),
      ),
    ),
  ),
)

pub notification_target_law : (P : Object → Type 0) → TableLaw P [] alert_notification_target
unfolding alert_notification_target
notification_target_law P = (
  optional_law P DESCRIPTION.now description (description_line P),
  λ d. (
    refl,
    λ t. refl,
    (required_law P TARGET.now text (text_line P), λ t. (refl, refl, tt)),
  ),
)

pub condition_law : (P : Object → Type 0) → TableLaw P [] condition
unfolding condition
condition_law P = (
  optional_law P KIND.now condition_kind (loose P condition_kind (condition_kind_law P)),
  λ k. (
    refl,
    λ o t l a. refl,
    (
      optional_law P OP.now op (loose P op (op_law P)),
      λ o. (
        refl,
        λ t l a. refl,
        (
          required_law P THRESHOLD.now (number threshold_range)
              (loose P (number threshold_range) (number_law P threshold_range threshold_is)),
          λ t. (
            refl,
            λ l a. refl,
            (
              required_law P LOOKBACK_WINDOW.now (duration lookback_range)
                  (loose P (duration lookback_range) (duration_law P lookback_range lookback_is)),
              λ l. (
                refl,
                λ a. refl,
                (
                  optional_law P ALERT_AFTER.now (duration wait_range)
                      (loose P (duration wait_range) (duration_law P wait_range wait_is)),
                  λ a. (refl, refl, tt),
                ),
              ),
            ),
          ),
        ),
      ),
    ),
  ),
)

pub alert_condition_law : (P : Object → Type 0) → TableLaw P [] alert_condition
unfolding alert_condition
alert_condition_law P = (
  optional_law P DESCRIPTION.now description (description_line P),
  λ d. (
    refl,
    λ s c. refl,
    (
      required_law P SEVERITY.now text (text_line P),
      λ s. (
        refl,
        λ c. refl,
        (
          required_law P CONDITION.now (map_with condition) (map_law P condition (condition_law P)),
          λ c. (refl, refl, tt),
        ),
      ),
    ),
  ),
)

-- INDICATORS

pub metric_source_law : (P : Object → Type 0) → TableLaw P [] metric_source
unfolding metric_source
metric_source_law P = (
  optional_law P METRIC_SOURCE_REF.now name (name_line P),
  λ m. (
    refl,
    λ t s. refl,
    (
      optional_law P TYPE.now text (text_line P),
      λ t. (
        refl,
        λ s. refl,
        (optional_law P SPEC.now free (free_law P), λ s. (refl, refl, tt)),
      ),
    ),
  ),
)

pub source_map_law : (P : Object → Type 0) → TableLaw P [] source_map
unfolding source_map
source_map_law P = (
  required_law P METRIC_SOURCE.now (map_with metric_source)
      (map_law P metric_source (metric_source_law P)),
  λ m. (refl, refl, tt),
)

pub source_law : (P : Object → Type 0) → FormLaw P source
source_law P = map_law P source_map (source_map_law P)

good_law : (P : Object → Type 0) → EitherLaw P (variant source Good events_written)
    (variant source Good events_written) (variant source Bad events_written) is_good
good_law P = chosen_first P source Good events_written (variant source Bad events_written) is_good
    (λ m. refl) (λ m. refl) (source_law P)

bad_law : (P : Object → Type 0) → EitherLaw P (variant source Bad events_written)
    (variant source Good events_written) (variant source Bad events_written) is_good
bad_law P = chosen_second P source Bad events_written (variant source Good events_written) is_good
    (λ m. refl) (λ m. refl) (source_law P)

raw_ratio_law : (P : Object → Type 0) (counter : Option Bool) (raw : MetricSource) → TableLaw P
    (COUNTER.now ∷ RAW.now ∷ TOTAL.now ∷ GOOD.now ∷ BAD.now ∷ []) (raw_ratio counter raw)
unfolding raw_ratio
raw_ratio_law P counter raw = (
  required_law P RAW_TYPE.now raw_type (loose P raw_type (raw_type_law P)),
  λ t. (refl, refl, tt),
)

counted_ratio_law : (P : Object → Type 0) (counter : Option Bool)
    → TableLaw P (COUNTER.now ∷ RAW.now ∷ []) (counted_ratio counter)
unfolding counted_ratio
counted_ratio_law P counter = (
  required_law P TOTAL.now source (source_law P),
  λ t. (
    refl,
    λ e. refl,
    (
      one_of_law P GOOD.now (variant source Good events_written)
          BAD.now (variant source Bad events_written) is_good refl refl (good_law P) (bad_law P),
      λ e. (refl, refl, tt),
    ),
  ),
)

made_counter : (counter : Option Bool) (raw : Option MetricSource)
    → Made (rest_of_ratio counter raw) (λ v. v.counter ≡ counter)
unfolding raw_ratio counted_ratio
made_counter counter (Some raw) = λ t. refl
made_counter counter None = λ t e. refl

made_raw : (counter : Option Bool) (raw : Option MetricSource)
    → Made (rest_of_ratio counter raw) (λ v. raw_in v.ratio ≡ raw)
unfolding raw_ratio counted_ratio
made_raw counter (Some raw) = λ t. refl
made_raw counter None = λ t e. refl

pub ratio_metric_law : (P : Object → Type 0) → TableLaw P [] ratio_metric
unfolding ratio_metric
ratio_metric_law P = (
  optional_law P COUNTER.now boolean (loose P boolean (boolean_law P)),
  λ c. (
    refl,
    made_counter c,
    (
      alone_law P RAW.now (TOTAL.now ∷ GOOD.now ∷ BAD.now ∷ []) source refl (source_law P),
      λ raw. (is_apart raw, made_raw c raw, later c raw),
    ),
  ),
)
  where
    is_apart : (raw : Option MetricSource) → apart
        (alone_asks RAW.now (TOTAL.now ∷ GOOD.now ∷ BAD.now ∷ []) raw) (COUNTER.now ∷ []) ≡ true
    is_apart None = refl
    is_apart (Some raw) = refl

    later : (c : Option Bool) (raw : Option MetricSource) → TableLaw P (COUNTER.now
        ∷ alone_asks RAW.now (TOTAL.now ∷ GOOD.now ∷ BAD.now ∷ []) raw) (rest_of_ratio c raw)
    later c None = counted_ratio_law P c
    later c (Some raw) = raw_ratio_law P c raw

pub sli_law : (P : Object → Type 0) → TableLaw P [] sli
unfolding sli
sli_law P = (
  optional_law P DESCRIPTION.now description (description_line P),
  λ d. (
    refl,
    λ m. refl,
    (
      one_of_law P THRESHOLD_METRIC.now (variant source metrics.Threshold metric_written)
          RATIO_METRIC.now (variant (map_with ratio_metric) metrics.Ratio metric_written)
          is_threshold refl refl
          (chosen_first P source metrics.Threshold metric_written (variant (map_with ratio_metric)
          metrics.Ratio metric_written) is_threshold (λ m. refl) (λ m. refl) (source_law P))
          (chosen_second P (map_with ratio_metric) metrics.Ratio metric_written
          (variant source metrics.Threshold metric_written) is_threshold (λ m. refl) (λ m. refl)
          (map_law P ratio_metric (ratio_metric_law P))),
      λ m. (refl, refl, tt),
    ),
  ),
)

-- BODIES

pub service_body_law : (P : Object → Type 0) → FormLaw P service_body
service_body_law P = variant_law P (map_with service) bodies.Service
    (written_where (map_with service) service_in) (λ a. refl) (map_law P service (service_law P))

pub data_source_body_law : (P : Object → Type 0) → FormLaw P data_source_body
data_source_body_law P = variant_law P (map_with data_source) bodies.DataSource (written_where
    (map_with data_source) data_source_in) (λ a. refl) (map_law P data_source (data_source_law P))

pub target_body_law : (P : Object → Type 0) → FormLaw P target_body
target_body_law P = variant_law P (map_with alert_notification_target)
    bodies.AlertNotificationTarget (written_where (map_with alert_notification_target) target_in)
    (λ a. refl) (map_law P alert_notification_target (notification_target_law P))

pub condition_body_law : (P : Object → Type 0) → FormLaw P condition_body
condition_body_law P = variant_law P (map_with alert_condition)
    bodies.AlertCondition (written_where (map_with alert_condition) condition_in) (λ a. refl)
    (map_law P alert_condition (alert_condition_law P))

pub sli_body_law : (P : Object → Type 0) → FormLaw P sli_body
sli_body_law P = variant_law P (map_with sli) bodies.Sli (written_where (map_with sli) sli_in)
    (λ a. refl) (map_law P sli (sli_law P))

-- WHAT IS WRITTEN OF A NODE THAT CAN BE WRITTEN CAN BE WRITTEN: THE TABLES OF THE KINDS,
-- LINE BY LINE

abbrev Any : Object → Type 0
Any o = Unit {0}

pub no_room : Within 0 0
no_room d h = omega arith

-- a map that needs no room of its own
pub plain_map_fit : {A : Type 0} (Q : Object → Type 0) (table : FieldTable A)
    → TableLaw Any [] table
    → TableFit Q 0 table → FormFit Q 0 (map_with table)
plain_map_fit Q table law fit = map_fit Q 0 0 Any table no_room law fit

-- SCALARS

pub text_fit : (Q : Object → Type 0) (room : ℕ) → FormFit Q room text
text_fit Q room =
    scalar_fit Q room rules.NotText text_value quoted (quoted_fit text_value text_same)

pub description_fit : (Q : Object → Type 0) (room : ℕ) → FormFit Q room description
description_fit Q room = scalar_fit Q room rules.NotText description_value quoted
    (quoted_fit description_value description_same)

pub name_fit : (Q : Object → Type 0) (room : ℕ) → FormFit Q room name
name_fit Q room =
    scalar_fit Q room rules.BadName name_value quoted (quoted_fit name_value name_same)

pub zone_fit : (Q : Object → Type 0) (room : ℕ) → FormFit Q room zone_name
zone_fit Q room =
    scalar_fit Q room rules.BadName zone_value quoted (quoted_fit zone_value zone_same)

pub boolean_fit : (Q : Object → Type 0) (room : ℕ) → FormFit Q room boolean
boolean_fit Q room = scalar_fit Q room rules.NotBool boolean_value
    (λ b. word (cond b (codes "true") (codes "false"))) (λ t b e u q d. by b d)
  where
    by : (b : Bool) (d : ℕ) → SpellingFits d (word (cond b (codes "true") (codes "false")))
    by true d = word_fit (codes "true") d refl refl
    by false d = word_fit (codes "false") d refl refl

pub op_fit : (Q : Object → Type 0) (room : ℕ) → FormFit Q room op
op_fit Q room =
    scalar_fit Q room rules.BadWord op_value (λ o. word (op_word o)) (λ t o e u q d. by o d)
  where
    by : (o : Op) (d : ℕ) → SpellingFits d (word (op_word o))
    by Lte d = word_fit (codes "lte") d refl refl
    by Gte d = word_fit (codes "gte") d refl refl
    by Lt d = word_fit (codes "lt") d refl refl
    by Gt d = word_fit (codes "gt") d refl refl

pub kind_fits : (k : Kind) (d : ℕ) → SpellingFits d (word (kind_word k))
kind_fits kinds.DataSource d = word_fit (codes "DataSource") d refl refl
kind_fits kinds.Service d = word_fit (codes "Service") d refl refl
kind_fits kinds.Sli d = word_fit (codes "SLI") d refl refl
kind_fits kinds.Slo d = word_fit (codes "SLO") d refl refl
kind_fits kinds.AlertPolicy d = word_fit (codes "AlertPolicy") d refl refl
kind_fits kinds.AlertCondition d = word_fit (codes "AlertCondition") d refl refl
kind_fits kinds.AlertNotificationTarget d = word_fit (codes "AlertNotificationTarget") d refl refl

pub kind_fit : (Q : Object → Type 0) (room : ℕ) → FormFit Q room kind
kind_fit Q room = scalar_fit Q room rules.BadKind kind_value (λ k. word (kind_word k))
    (λ t k e u q d. kind_fits k d)

pub version_fit : (Q : Object → Type 0) (room : ℕ) → FormFit Q room version
version_fit Q room = scalar_fit Q room rules.BadVersion version_value (λ _. word version_text)
    (λ t k e u q d. word_fit version_text d refl refl)

pub only_kind_fit : (Q : Object → Type 0) (room : ℕ) (k : Kind) → FormFit Q room (only_kind k)
only_kind_fit Q room k = scalar_fit Q room rules.BadKind (only_kind_value k)
    (λ _. word (kind_word k)) (λ t a e u q d. kind_fits k d)

condition_kind_fit : (Q : Object → Type 0) (room : ℕ) → FormFit Q room condition_kind
condition_kind_fit Q room = scalar_fit Q room rules.BadWord condition_kind_value
    (λ k. word (condition_word k)) (λ t k e u q d. by k d)
  where
    by : (k : ConditionKind) (d : ℕ) → SpellingFits d (word (condition_word k))
    by Burnrate d = word_fit (codes "burnrate") d refl refl

raw_type_fit : (Q : Object → Type 0) (room : ℕ) → FormFit Q room raw_type
raw_type_fit Q room = scalar_fit Q room rules.BadWord raw_type_value (λ k. word (raw_type_word k))
    (λ t k e u q d. by k d)
  where
    by : (k : RawType) (d : ℕ) → SpellingFits d (word (raw_type_word k))
    by Success d = word_fit (codes "success") d refl refl
    by Failure d = word_fit (codes "failure") d refl refl

pub number_fit : {A : Type 0} (Q : Object → Type 0) (room : ℕ) (range : Range ℕ A) → IsRange range
    → FormFit Q room (number range)
number_fit Q room range is =
    scalar_fit Q room rules.NotNumber (number_value range) (number_written range)
    (λ t a e u q d. decimal_written (range.value a) (number_ok range is t a e))

pub duration_fit : {A : Type 0} (Q : Object → Type 0) (room : ℕ) (range : Range Duration A)
    → FormFit Q room (duration range)
duration_fit Q room range =
    scalar_fit Q room rules.NotDuration (duration_value range) (duration_written range)
    (λ t a e u q d. duration_plain (range.value a))

-- TABLES

metadata_table : (Q : Object → Type 0) → TableFit Q 0 metadata
unfolding metadata
metadata_table Q = (
  required_fit Q 0 NAME.now name refl (name_fit Q 0),
  λ n. (
    optional_fit Q 0 DISPLAY_NAME.now text refl (text_fit Q 0),
    λ d. (
      optional_fit Q 0 LABELS.now free_map refl (free_map_fit Q 0),
      λ l.
          (optional_fit Q 0 ANNOTATIONS.now free_map refl (free_map_fit Q 0), λ a. tt),
    ),
  ),
)

pub metadata_fit : (Q : Object → Type 0) → FormFit Q 0 (map_with metadata)
metadata_fit Q = plain_map_fit Q metadata (metadata_law Any) (metadata_table Q)

service_table : (Q : Object → Type 0) → TableFit Q 0 service
unfolding service
service_table Q = (optional_fit Q 0 DESCRIPTION.now description refl (description_fit Q 0), λ d. tt)

data_source_table : (Q : Object → Type 0) → TableFit Q 0 data_source
unfolding data_source
data_source_table Q = (
  optional_fit Q 0 DESCRIPTION.now description refl (description_fit Q 0),
  λ d. (
    required_fit Q 0 TYPE.now text refl (text_fit Q 0),
    λ t.
        (optional_fit Q 0 CONNECTION_DETAILS.now free refl (free_fit Q 0), λ c. tt),
  ),
)

target_table : (Q : Object → Type 0) → TableFit Q 0 alert_notification_target
unfolding alert_notification_target
target_table Q = (
  optional_fit Q 0 DESCRIPTION.now description refl (description_fit Q 0),
  λ d.
      (required_fit Q 0 TARGET.now text refl (text_fit Q 0), λ t. tt),
)

condition_table : (Q : Object → Type 0) → TableFit Q 0 condition
unfolding condition
condition_table Q = (
  optional_fit Q 0 KIND.now condition_kind refl (condition_kind_fit Q 0),
  λ k. (
    optional_fit Q 0 OP.now op refl (op_fit Q 0),
    λ o. (
      required_fit Q 0 THRESHOLD.now (number threshold_range) refl
          (number_fit Q 0 threshold_range threshold_is),
      λ t. (
        required_fit Q 0 LOOKBACK_WINDOW.now (duration lookback_range) refl
            (duration_fit Q 0 lookback_range),
        λ l. (
          optional_fit Q 0 ALERT_AFTER.now (duration wait_range) refl (duration_fit Q 0 wait_range),
          λ a. tt,
        ),
      ),
    ),
  ),
)

alert_condition_table : (Q : Object → Type 0) → TableFit Q 0 alert_condition
unfolding alert_condition
alert_condition_table Q = (
  optional_fit Q 0 DESCRIPTION.now description refl (description_fit Q 0),
  λ d. (
    required_fit Q 0 SEVERITY.now text refl (text_fit Q 0),
    λ s. (
      required_fit Q 0 CONDITION.now (map_with condition) refl
          (plain_map_fit Q condition (condition_law Any) (condition_table Q)),
      λ c. tt,
    ),
  ),
)

metric_source_table : (Q : Object → Type 0) → TableFit Q 0 metric_source
unfolding metric_source
metric_source_table Q = (
  optional_fit Q 0 METRIC_SOURCE_REF.now name refl (name_fit Q 0),
  λ m. (
    optional_fit Q 0 TYPE.now text refl (text_fit Q 0),
    λ t.
        (optional_fit Q 0 SPEC.now free refl (free_fit Q 0), λ s. tt),
  ),
)

source_table : (Q : Object → Type 0) → TableFit Q 0 source_map
unfolding source_map
source_table Q = (
  required_fit Q 0 METRIC_SOURCE.now (map_with metric_source) refl
      (plain_map_fit Q metric_source (metric_source_law Any) (metric_source_table Q)),
  λ m. tt,
)

source_fit : (Q : Object → Type 0) → FormFit Q 0 source
source_fit Q = plain_map_fit Q source_map (source_map_law Any) (source_table Q)

rest_table : (Q : Object → Type 0) (c : Option Bool) (raw : Option MetricSource)
    → TableFit Q 0 (rest_of_ratio c raw)
unfolding raw_ratio counted_ratio
rest_table Q c (Some raw) = (
  required_fit Q 0 RAW_TYPE.now raw_type refl (raw_type_fit Q 0),
  λ t. tt,
)
rest_table Q c None = (
  required_fit Q 0 TOTAL.now source refl (source_fit Q),
  λ t. (
    one_of_fit Q 0 GOOD.now (variant source Good events_written) BAD.now
        (variant source Bad events_written) is_good refl refl
        (chosen_fit Q 0 source Good (variant source Good events_written) (variant source Bad
        events_written) is_good (λ m. refl) (λ m. refl) (source_fit Q) events_written)
        (chosen_fit Q 0 source Bad (variant source Good events_written) (variant source Bad
        events_written) is_good (λ m. refl) (λ m. refl) (source_fit Q) events_written),
    λ e. tt,
  ),
)

ratio_table : (Q : Object → Type 0) → TableFit Q 0 ratio_metric
unfolding ratio_metric
ratio_table Q = (
  optional_fit Q 0 COUNTER.now boolean refl (boolean_fit Q 0),
  λ c. (
    alone_fit Q 0 RAW.now (TOTAL.now ∷ GOOD.now ∷ BAD.now ∷ []) source refl (source_fit Q),
    λ raw. rest_table Q c raw,
  ),
)

sli_table : (Q : Object → Type 0) → TableFit Q 0 sli
unfolding sli
sli_table Q = (
  optional_fit Q 0 DESCRIPTION.now description refl (description_fit Q 0),
  λ d. (
    one_of_fit Q 0 THRESHOLD_METRIC.now (variant source metrics.Threshold metric_written)
        RATIO_METRIC.now (variant (map_with ratio_metric) metrics.Ratio metric_written)
        is_threshold refl refl
        (chosen_fit Q 0 source metrics.Threshold (variant source metrics.Threshold metric_written)
        (variant (map_with ratio_metric) metrics.Ratio metric_written) is_threshold (λ m. refl)
        (λ m. refl) (source_fit Q) metric_written)
        (chosen_fit Q 0 (map_with ratio_metric) metrics.Ratio
        (variant source metrics.Threshold metric_written) (variant (map_with ratio_metric)
        metrics.Ratio metric_written) is_threshold (λ m. refl) (λ m. refl)
        (plain_map_fit Q ratio_metric (ratio_metric_law Any) (ratio_table Q)) metric_written),
    λ m. tt,
  ),
)

-- BODIES

pub service_body_fit : (Q : Object → Type 0) → FormFit Q 0 service_body
service_body_fit Q =
    variant_fit Q 0 (map_with service) bodies.Service (written_where (map_with service) service_in)
    (λ a. refl) (plain_map_fit Q service (service_law Any) (service_table Q))

pub data_source_body_fit : (Q : Object → Type 0) → FormFit Q 0 data_source_body
data_source_body_fit Q = variant_fit Q 0 (map_with data_source)
    bodies.DataSource (written_where (map_with data_source) data_source_in) (λ a. refl)
    (plain_map_fit Q data_source (data_source_law Any) (data_source_table Q))

pub target_body_fit : (Q : Object → Type 0) → FormFit Q 0 target_body
target_body_fit Q =
    variant_fit Q 0 (map_with alert_notification_target) bodies.AlertNotificationTarget
    (written_where (map_with alert_notification_target) target_in) (λ a. refl)
    (plain_map_fit Q alert_notification_target (notification_target_law Any) (target_table Q))

pub condition_body_fit : (Q : Object → Type 0) → FormFit Q 0 condition_body
condition_body_fit Q = variant_fit Q 0 (map_with alert_condition) bodies.AlertCondition
    (written_where (map_with alert_condition) condition_in) (λ a. refl)
    (plain_map_fit Q alert_condition (alert_condition_law Any) (alert_condition_table Q))

pub sli_body_fit : (Q : Object → Type 0) → FormFit Q 0 sli_body
sli_body_fit Q = variant_fit Q 0 (map_with sli) bodies.Sli (written_where (map_with sli) sli_in)
    (λ a. refl) (plain_map_fit Q sli (sli_law Any) (sli_table Q))
