-- What was read is read again from what it is written as: policies and objectives.
use Rattle.std.proofs.Common.{◌≡◌, ℕ, Bool, true, false, List, [], Ok, Err, cond, refl, sym, ap}
use Rattle.std.proofs.Common.{◌∙◌, subst, zero, suc, ◌≤◌, ◌∷◌, ◌++◌, Option, Some, None, arith}
use Rattle.std.specs.Prelude.{◌||◌, codes, decimal, is_none}
use Rattle.std.specs.List.{AllByRecursion}
use Rattle.std.proofs.lemmas.Bool.{false≢true}
use Rattle.yaml_terms.specs.Tree.{Tree, mapping, sequence, scalar, Entries}
use Rattle.object_terms.specs.declared.object.Object.{Object}
use Rattle.object_terms.specs.declared.slo.BudgetingMethod.{BudgetingMethod}
use Rattle.object_terms.specs.Form.{Key, Answer, gives, refused, told, is_among, is_null, map_with}
use Rattle.object_terms.specs.Form.{single, written_where, field_of, Form, answer_by, own, required}
use Rattle.object_terms.specs.Form.{optional}
use Rattle.object_terms.specs.Scalars.{description, text, name, boolean, op, number, percent}
use Rattle.object_terms.specs.Scalars.{zone_name, name_value, number_written, percent_value}
use Rattle.object_terms.specs.Scalars.{version, only_kind, found_or}
use Rattle.object_terms.specs.Ranges.{every_number, slice_target_range, target_range, window_range}
use Rattle.object_terms.specs.Durations.{duration}
use Rattle.object_terms.specs.Moments.{moment, moment_value}
use Rattle.object_terms.specs.Inline.{reference_written, inline_object, taken_out, inline_read}
use Rattle.object_terms.specs.Inline.{reference, item_read, reference_item}
use Rattle.object_terms.specs.AlertCondition.{condition_body}
use Rattle.object_terms.specs.AlertNotificationTarget.{target_body}
use Rattle.object_terms.specs.AlertPolicy.{at_most_one, any_number_of, condition_item, target_item}
use Rattle.object_terms.specs.AlertPolicy.{conditions, targets, alert_policy, policy_in}
use Rattle.object_terms.specs.AlertPolicy.{policy_body}
use Rattle.object_terms.specs.Sli.{sli_body}
use Rattle.object_terms.specs.Slo.{calendar, is_rolling, is_calendar_unit, time_window, method}
use Rattle.object_terms.specs.Slo.{has_slice_target, has_slices, slice_width, target, is_target}
use Rattle.object_terms.specs.Slo.{objective, is_objective_count, objective_item, objectives}
use Rattle.object_terms.specs.Slo.{inline_indicator, is_inline, unrepeated, policy_form}
use Rattle.object_terms.specs.Slo.{policy_item, is_policy_count, policies, slo, slo_in, slo_body}
use Rattle.object_terms.specs.Slo.{method_value, method_word, width_value}
use Rattle.object_terms.proofs.AnswerLemmas.{ok_same, err_not_ok}
use Rattle.object_laws.proofs.LawFieldTables.{Back, FormLaw, TableLaw, map_law, all_joined, given}
use Rattle.object_laws.proofs.LawLines.{refused_not_ok, optional_law, required_law}
use Rattle.object_laws.proofs.LawLines.{required_where_law, required_unless_law}
use Rattle.object_laws.proofs.LawChoices.{EitherLaw, one_of_law, holding_law}
use Rattle.object_laws.proofs.LawForms.{ItemLaw, map_strong, list_law, single_law, variant_law}
use Rattle.object_laws.proofs.LawScalars.{name_law, boolean_law, op_law, zone_law, method_law}
use Rattle.object_laws.proofs.LawScalars.{rule_same, rule_not_ok}
use Rattle.object_laws.proofs.LawNumbers.{number_law, percent_law, target_law, duration_law}
use Rattle.object_laws.proofs.LawNumbers.{width_law, moment_law, target_bound, width_most}
use Rattle.object_terms.proofs.RangeLemmas.{every_number_is, slice_target_is, target_is, window_is}
use Rattle.object_laws.proofs.LawTables.{loose, description_line, text_line, name_line}
use Rattle.object_laws.proofs.LawTables.{condition_body_law, target_body_law, sli_body_law, no_room}
use Rattle.object_laws.proofs.LawTables.{plain_map_fit, text_fit, description_fit, name_fit}
use Rattle.object_laws.proofs.LawTables.{zone_fit, boolean_fit, op_fit, version_fit, only_kind_fit}
use Rattle.object_laws.proofs.LawTables.{number_fit, duration_fit, metadata_fit, condition_body_fit}
use Rattle.object_laws.proofs.LawTables.{target_body_fit, sli_body_fit}
use Rattle.object_laws.proofs.LawInline.{name_ok, Own, ItemOk, inline_ok, item_ok, item_again}
use Rattle.object_laws.proofs.LawInline.{reference_item_law, field_ok, reference_ok}
use Rattle.object_terms.specs.declared.keys.TheConstants.{ALERT_WHEN_BREACHING, ALERT_WHEN_NO_DATA}
use Rattle.object_terms.specs.declared.keys.TheConstants.{ALERT_WHEN_RESOLVED, CONDITIONS}
use Rattle.object_terms.specs.declared.keys.TheConstants.{CONDITION_REF, NOTIFICATION_TARGETS}
use Rattle.object_terms.specs.declared.keys.TheConstants.{TARGET_REF, DESCRIPTION, DISPLAY_NAME, OP}
use Rattle.object_terms.specs.declared.keys.TheConstants.{TARGET, API_VERSION, KIND, METADATA, SPEC}
use Rattle.object_terms.specs.declared.keys.TheConstants.{TARGET_PERCENT, TIME_SLICE_TARGET}
use Rattle.object_terms.specs.declared.keys.TheConstants.{TIME_SLICE_WINDOW, VALUE, ALERT_POLICIES}
use Rattle.object_terms.specs.declared.keys.TheConstants.{ALERT_POLICY_REF, BUDGETING_METHOD}
use Rattle.object_terms.specs.declared.keys.TheConstants.{INDICATOR, INDICATOR_REF, OBJECTIVES}
use Rattle.object_terms.specs.declared.keys.TheConstants.{SERVICE, TIME_WINDOW, CALENDAR, DURATION}
use Rattle.object_terms.specs.declared.keys.TheConstants.{IS_ROLLING, START_TIME, TIME_ZONE}
use Rattle.yaml_terms.specs.Spelling.{word, quoted, no_fields, spelled, fields_spelled}
use Rattle.yaml_terms.specs.Profile.{max_depth}
use Rattle.yaml_terms.specs.SpellingFits.{SpellingFits, FitFields}
use Rattle.zone_calendar.specs.CivilText.{parts_in, parts_of, parts_text, is_moment, civil_text}
use Rattle.zone_calendar.specs.CivilRead.{in_range, civil_of, civil_from, civil_when, civil_read}
use Rattle.zone_calendar.specs.declared.civil.Civil.{Civil}
use Rattle.zone_calendar.proofs.CivilLemmas.{text_of_parts}
use Rattle.object_terms.specs.declared.object.Body.{Body}
use Rattle.object_terms.specs.declared.metadata.Metadata.{Metadata}
use Rattle.object_terms.specs.declared.kind.Kind.{Kind}
use Rattle.object_terms.specs.declared.slo.BudgetingMethod.TheVariants.{Occurrences, Timeslices}
use Rattle.object_terms.specs.declared.slo.BudgetingMethod.TheVariants.{RatioTimeslices}
use Rattle.object_terms.specs.Metadata.{metadata, object_with}
use Rattle.object_laws.proofs.LawPlain.{decimal_written, width_written}
use Rattle.object_laws.proofs.LawFits.{own_key, own_fits, found_fits, FormFit, TableFit, EitherFit}
use Rattle.object_laws.proofs.LawFits.{Within, map_fit, optional_fit, required_fit}
use Rattle.object_laws.proofs.LawFits.{required_where_fit, required_unless_fit, one_of_fit}
use Rattle.object_laws.proofs.LawFits.{holding_fit}
use Rattle.object_laws.proofs.LawFitForms.{variant_fit, ItemFit, list_fit, single_fit, scalar_fit}
use Rattle.object_laws.proofs.LawFitForms.{word_fit, name_fits}
use Rattle.object_terms.specs.declared.object.Body.TheVariants as bodies
use Rattle.object_terms.specs.declared.kind.Kind.TheVariants as kinds
use Rattle.object_terms.specs.declared.fault.Rule.TheVariants as rules

abbrev boolean_line : (P : Object → Type 0) → FormLaw P boolean
boolean_line P = loose P boolean (boolean_law P)

-- POLICIES

conditions_law : (P : Object → Type 0) → Own P kinds.AlertCondition condition_body
    → FormLaw P conditions
conditions_law P own = loose P conditions
    (list_law P at_most_one condition_item (reference_written CONDITION_REF.now) (reference_item_law
    P CONDITION_REF.now kinds.AlertCondition condition_body (condition_body_law P) own))

targets_law : (P : Object → Type 0) → Own P kinds.AlertNotificationTarget target_body
    → FormLaw P targets
targets_law P own = loose P targets
    (list_law P any_number_of target_item (reference_written TARGET_REF.now) (reference_item_law P
    TARGET_REF.now kinds.AlertNotificationTarget target_body (target_body_law P) own))

pub policy_law : (P : Object → Type 0) → Own P kinds.AlertCondition condition_body
    → Own P kinds.AlertNotificationTarget target_body → TableLaw P [] alert_policy
unfolding alert_policy
policy_law P own_condition own_target = (
  optional_law P DESCRIPTION.now description (description_line P),
  λ d. (
    refl,
    λ n r b c t. refl,
    (
      optional_law P ALERT_WHEN_NO_DATA.now boolean (boolean_line P),
      λ n. (
        refl,
        λ r b c t. refl,
        (
          optional_law P ALERT_WHEN_RESOLVED.now boolean (boolean_line P),
          λ r. (
            refl,
            λ b c t. refl,
            (
              optional_law P ALERT_WHEN_BREACHING.now boolean (boolean_line P),
              λ b. (
                refl,
                λ c t. refl,
                (
                  optional_law P CONDITIONS.now conditions (conditions_law P own_condition),
                  λ c. (
                    refl,
                    λ t. refl,
                    (
                      optional_law P NOTIFICATION_TARGETS.now targets (targets_law P own_target),
                      λ t. (refl, refl, tt),
                    ),
                  ),
                ),
              ),
            ),
          ),
        ),
      ),
    ),
  ),
)

pub policy_body_law : (P : Object → Type 0) → Own P kinds.AlertCondition condition_body
    → Own P kinds.AlertNotificationTarget target_body → FormLaw P policy_body
policy_body_law P c t = variant_law P (map_with alert_policy)
    bodies.AlertPolicy (written_where (map_with alert_policy) policy_in) (λ a. refl)
    (map_law P alert_policy (policy_law P c t))

-- OBJECTIVES

pub calendar_law : (P : Object → Type 0) → TableLaw P [] calendar
unfolding calendar
calendar_law P = (
  required_law P START_TIME.now moment (loose P moment (moment_law P)),
  λ s. (
    refl,
    λ z. refl,
    (
      required_law P TIME_ZONE.now zone_name (loose P zone_name (zone_law P)),
      λ z. (refl, refl, tt),
    ),
  ),
)

pub window_law : (P : Object → Type 0) → TableLaw P [] time_window
unfolding time_window
window_law P = (
  required_law P DURATION.now (duration window_range)
      (loose P (duration window_range) (duration_law P window_range window_is)),
  λ d. (
    refl,
    λ r u c. refl,
    (
      optional_law P IS_ROLLING.now boolean (boolean_line P),
      λ r. (
        refl,
        λ u c. refl,
        (
          holding_law P (is_rolling r || is_calendar_unit d.span.unit) DURATION.now
              rules.OutOfRange,
          λ u. (
            refl,
            λ c. refl,
            (
              required_unless_law P (is_rolling r) CALENDAR.now (map_with calendar)
                  (map_law P calendar (calendar_law P)),
              λ c. (refl, refl, tt),
            ),
          ),
        ),
      ),
    ),
  ),
)

pub objective_law : (P : Object → Type 0) (method : BudgetingMethod)
    → TableLaw P [] (objective method)
unfolding objective
objective_law P method = (
  optional_law P DISPLAY_NAME.now text (text_line P),
  λ d. (
    refl,
    λ o v t s w. refl,
    (
      optional_law P OP.now op (loose P op (op_law P)),
      λ o. (
        refl,
        λ v t s w. refl,
        (
          optional_law P VALUE.now (number every_number)
              (loose P (number every_number) (number_law P every_number every_number_is)),
          λ v. (
            refl,
            λ t s w. refl,
            (
              one_of_law P TARGET.now target TARGET_PERCENT.now percent is_target refl refl
                  (target_law P) (percent_law P),
              λ t. (
                refl,
                λ s w. refl,
                (
                  required_where_law P (has_slice_target method) TIME_SLICE_TARGET.now
                      (number slice_target_range) (loose P (number slice_target_range)
                      (number_law P slice_target_range slice_target_is)),
                  λ s. (
                    refl,
                    λ w. refl,
                    (
                      required_where_law P (has_slices method) TIME_SLICE_WINDOW.now slice_width
                          (loose P slice_width (width_law P)),
                      λ w. (refl, refl, tt),
                    ),
                  ),
                ),
              ),
            ),
          ),
        ),
      ),
    ),
  ),
)

objectives_law : (P : Object → Type 0) (method : BudgetingMethod) → FormLaw P (objectives method)
objectives_law P method = loose P (objectives method)
    (list_law P is_objective_count (objective_item method) (map_with (objective method)).write
    (λ key before t y e. let back = map_strong P (objective method) (objective_law P method) key t y
    e in record { again = back.again; taken = back.taken }))

-- the indicator, which is written as a reference

name_back : (P : Object → Type 0) (t : Tree) (y : List Object × List ℕ) → ItemOk P y
    → Back P (List ℕ) name t y
name_back P t y h = record { again = λ k. ap (told k) h.is_name; shown = refl; taken = h.taken }

inline_indicator_law : (P : Object → Type 0) → Own P kinds.Sli sli_body
    → EitherLaw P inline_indicator inline_indicator name is_inline
inline_indicator_law P own key (mapping es) y n e = let h =
    inline_ok P kinds.Sli sli_body (sli_body_law P) own es y e in
    record {
      first = λ f. absurd (false≢true f);
      second = λ _. name_back P (mapping es) y h;
      both_taken = h.taken;
    }
inline_indicator_law P own key (sequence ts) y n e = refused_not_ok key rules.NotMap y e
inline_indicator_law P own key (scalar bytes plain) y n e = refused_not_ok key rules.NotMap y e

named_indicator_law : (P : Object → Type 0) → EitherLaw P name inline_indicator name is_inline
named_indicator_law P key t y n e = let back = name_law P key t y e in
    record { first = λ f. absurd (false≢true f); second = λ _. back; both_taken = back.taken }

-- the policies

pub policy_ok : (P : Object → Type 0) → FormLaw P policy_body → Own P kinds.AlertPolicy policy_body
    → (key : Key) (t : Tree) (y : List Object × List ℕ) → policy_form key t ≡ Ok y → ItemOk P y
policy_ok P law own key (mapping es) y e =
    item_ok P ALERT_POLICY_REF.now kinds.AlertPolicy policy_body law own es y e
policy_ok P law own key (sequence ts) y e = refused_not_ok key rules.NotMap y e
policy_ok P law own key (scalar text plain) y e = by (is_null (scalar text plain)) e
  where
    by : (b : Bool) → cond b (refused key rules.BadName) (name.read key (scalar text plain)) ≡ Ok y
        → ItemOk P y
    by true f = refused_not_ok key rules.BadName y f
    by false f = let k = name_ok key (scalar text plain) y f in
        record { is_name = k.is_name; taken = subst (AllByRecursion P) (sym k.alone) tt }

-- what is known of a name that isn't repeated
pub record NewOk (before : List Key) (a : Answer Key) (y : List Object × Key) : Type 0 where
  pub is_read : a ≡ Ok y
  pub is_new : is_among before y.1 ≡ false

pub new_ok : (listed : Key) (before : List Key) (a : Answer Key) (y : List Object × Key)
    → unrepeated listed before a ≡ Ok y → NewOk before a y
new_ok listed before (Ok p) y e = by (is_among before p.1) refl e
  where
    by : (b : Bool) → is_among before p.1 ≡ b → cond b (refused listed rules.Repeated) (Ok p) ≡ Ok y
        → NewOk before (Ok p) y
    by true f g = refused_not_ok listed rules.Repeated y g
    by false f g = let s = ok_same p y g in
        record { is_read = ap Ok s; is_new = ap (λ z. is_among before z.1) (sym s) ∙ f }
new_ok listed before (Err f) y e = absurd (err_not_ok f y e)

policy_item_law : (P : Object → Type 0)
    → FormLaw P policy_body → Own P kinds.AlertPolicy policy_body
    → ItemLaw P policy_item (reference_written ALERT_POLICY_REF.now)
policy_item_law P law own key before t y e =
    let new = new_ok key before (policy_form key t) y e in
    let h = policy_ok P law own key t y new.is_read in
    record {
      again = λ k. ap (unrepeated k before)
          (item_again ALERT_POLICY_REF.now kinds.AlertPolicy policy_body y.1 h.is_name)
          ∙ ap (λ b. cond b (refused k rules.Repeated) (gives y.1)) new.is_new;
      taken = h.taken;
    }

policies_law : (P : Object → Type 0) → FormLaw P policy_body → Own P kinds.AlertPolicy policy_body
    → FormLaw P policies
policies_law P law own = loose P policies (list_law P is_policy_count policy_item
    (reference_written ALERT_POLICY_REF.now) (policy_item_law P law own))

pub slo_law : (P : Object → Type 0) → FormLaw P policy_body → Own P kinds.AlertPolicy policy_body
    → Own P kinds.Sli sli_body → TableLaw P [] slo
unfolding slo
slo_law P policy_body_law own_policy own_sli = (
  optional_law P DESCRIPTION.now description (description_line P),
  λ d. (
    refl,
    λ s i t m o p. refl,
    (
      required_law P SERVICE.now name (name_line P),
      λ s. (
        refl,
        λ i t m o p. refl,
        (
          one_of_law P INDICATOR.now inline_indicator INDICATOR_REF.now name is_inline refl refl
              (inline_indicator_law P own_sli) (named_indicator_law P),
          λ i. (
            refl,
            λ t m o p. refl,
            (
              required_law P TIME_WINDOW.now (single (map_with time_window))
                  (loose P (single (map_with time_window)) (single_law P (map_with time_window)
                  (map_strong P time_window (window_law P)))),
              λ t. (
                refl,
                λ m o p. refl,
                (
                  required_law P BUDGETING_METHOD.now method (loose P method (method_law P)),
                  λ m. (
                    refl,
                    λ o p. refl,
                    (
                      required_law P OBJECTIVES.now (objectives m) (objectives_law P m),
                      λ o. (
                        refl,
                        λ p. refl,
                        (
                          optional_law P ALERT_POLICIES.now policies
                              (policies_law P policy_body_law own_policy),
                          λ p. (refl, refl, tt),
                        ),
                      ),
                    ),
                  ),
                ),
              ),
            ),
          ),
        ),
      ),
    ),
  ),
)

pub slo_body_law : (P : Object → Type 0) → FormLaw P policy_body
    → Own P kinds.AlertPolicy policy_body → Own P kinds.Sli sli_body → FormLaw P slo_body
slo_body_law P law p s = variant_law P (map_with slo) bodies.Slo
    (written_where (map_with slo) slo_in) (λ a. refl) (map_law P slo (slo_law P law p s))

-- WHAT IS WRITTEN OF A NODE THAT CAN BE WRITTEN CAN BE WRITTEN: REFERENCES, OBJECTS THAT STOOD
-- INLINE, POLICIES AND OBJECTIVES

abbrev Any : Object → Type 0
Any o = Unit {0}

any_own : (k : Kind) (body : Form Body) → Own Any k body
any_own k body tm ts m b nm ns em eb = tt

-- a form that needs no room needs none where there is some
pub roomy : {A : Type 0} (Q : Object → Type 0) (room : ℕ) (f : Form A) → FormFit Q 0 f
    → FormFit Q room f
roomy Q room f fit key t y e d h m ft = fit key t y e d (omega arith) m ft

-- OBJECTS THAT STOOD INLINE

-- what is to hold of each object that stood inline
abbrev pub OwnFit : (Q : Object → Type 0) → Kind → Form Body → Type 0
OwnFit Q kind body = (tm ts : Tree) (m : List Object × Metadata) (b : List Object × Body)
    → (map_with metadata).read METADATA.now tm ≡ Ok m → body.read SPEC.now ts ≡ Ok b
    → (d : ℕ) → suc d ≤ max_depth → SpellingFits d (spelled tm) → SpellingFits d (spelled ts)
    → Q (object_with kind m.1 b.1)

taken_fit : (Q : Object → Type 0) (a : Answer Object) (y : List Object × List ℕ)
    → ((p : List Object × Object) → a ≡ Ok p → AllByRecursion Q (p.0 ++ p.1 ∷ []))
    → taken_out a ≡ Ok y → AllByRecursion Q y.0
taken_fit Q (Ok p) y h e =
    subst (AllByRecursion Q) (ap (λ z. z.0) (ok_same (p.0 ++ p.1 ∷ [], p.1.name) y e)) (h p refl)
taken_fit Q (Err f) y h e = absurd (err_not_ok f y e)

inline_fit : (Q : Object → Type 0) (kind : Kind) (body : Form Body)
    → FormFit Q 0 body → OwnFit Q kind body → (es : Entries) (y : List Object × List ℕ)
    → inline_read kind body es ≡ Ok y
    → (d : ℕ) → suc d ≤ max_depth → FitFields d (fields_spelled es) → AllByRecursion Q y.0
unfolding inline_object
inline_fit Q kind body fit own es y e d h fe = taken_fit Q
    (answer_by (inline_object kind body) [] es)
    y (λ p g. given (inline_object kind body) es [] (λ os o. AllByRecursion Q (os ++ o ∷ []))
    (λ v ev k ek m em s es2. parts v ev k ek m em s es2) [] p g) e
  where
    low : d ≤ max_depth
    low = omega arith

    none : 0 ≤ d
    none = omega arith

    parts : (v : List Object × Option (Unit {0}))
        → (optional API_VERSION.now version).read es ≡ Ok v
        → (k : List Object × Option (Unit {0}))
        → (optional KIND.now (only_kind kind)).read es ≡ Ok k
        → (m : List Object × Metadata) → (required METADATA.now (map_with metadata)).read es ≡ Ok m
        → (s : List Object × Body) → (required SPEC.now body).read es ≡ Ok s
        → AllByRecursion Q ((([] ++ v.0) ++ k.0 ++ m.0 ++ s.0) ++ object_with kind m.1 s.1 ∷ [])
    parts v ev k ek m em s es2 =
        let fm = field_ok METADATA.now (map_with metadata) es m em in
        let fs = field_ok SPEC.now body es s es2 in
        let ftm = found_fits d METADATA.now es fm.value fm.found fe in
        let fts = found_fits d SPEC.now es fs.value fs.found fe in
        let tv = (optional_fit Q 0 API_VERSION.now version refl (version_fit Q 0) es v ev d none low
        fe no_fields tt refl).1 in
        let tk = (optional_fit Q 0 KIND.now (only_kind kind) refl (only_kind_fit Q 0 kind) es k ek d
        none low fe no_fields tt refl).1 in
        let tm = (metadata_fit Q METADATA.now fm.value m fm.is_read d none low ftm).1 in
        let ts = (fit SPEC.now fs.value s fs.is_read d none low fts).1 in
        let o = own fm.value fs.value m s fm.is_read fs.is_read d h ftm fts in
        all_joined Q (([] ++ v.0) ++ k.0 ++ m.0 ++ s.0) (object_with kind m.1 s.1 ∷ [])
        (all_joined Q (([] ++ v.0) ++ k.0 ++ m.0) s.0 (all_joined Q (([] ++ v.0) ++ k.0) m.0
        (all_joined Q ([] ++ v.0) k.0 tv tk) tm) ts) (o, tt)

-- REFERENCES

reference_fits : (key : Key) (n : List ℕ) (d : ℕ) → own_key key ≡ true → name_value n ≡ Ok n
    → FitFields d (own key (quoted n) no_fields)
reference_fits key n d k e = own_fits d key (quoted n) no_fields k refl (name_fits n e d) tt

item_taken : (Q : Object → Type 0) (key : Key) (kind : Kind) (body : Form Body)
    → FormFit Q 0 body → OwnFit Q kind body → (es : Entries) (y : List Object × List ℕ)
    → item_read key kind body es ≡ Ok y → (d : ℕ) → suc d ≤ max_depth
    → FitFields d (fields_spelled es) → AllByRecursion Q y.0
item_taken Q key kind body fit own es y e d h fe = by (is_none (field_of key es)) e
  where
    by : (b : Bool) → cond b (inline_read kind body es) (answer_by (reference key) [] es) ≡ Ok y
        → AllByRecursion Q y.0
    by true f = inline_fit Q kind body fit own es y f d h fe
    by false f = (reference_ok Q key es y f).taken

reference_item_fit : (Q : Object → Type 0) (key : Key) (kind : Kind) (body : Form Body)
    → own_key key ≡ true → FormLaw Any body → FormFit Q 0 body → OwnFit Q kind body
    → ItemFit Q 0 (reference_item key kind body) (reference_written key)
reference_item_fit Q key kind body k law fit own listed before (mapping es) y e zero h m ft =
    absurd ft
reference_item_fit Q key kind body k law fit own listed before (mapping es) y e (suc d) h m ft = (
  reference_fits key y.1 d k (item_ok Any key kind body law (any_own kind body) es y e).is_name,
  item_taken Q key kind body fit own es y e d m ft,
)
reference_item_fit Q key kind body k law fit own listed before (sequence ts) y e d h m ft =
    refused_not_ok listed rules.NotMap y e
reference_item_fit Q key kind body k law fit own listed before (scalar bytes plain) y e d h m ft =
    refused_not_ok listed rules.NotMap y e

-- POLICIES

policy_table : (Q : Object → Type 0) → OwnFit Q kinds.AlertCondition condition_body
    → OwnFit Q kinds.AlertNotificationTarget target_body → TableFit Q 0 alert_policy
unfolding alert_policy
policy_table Q own_condition own_target = (
  optional_fit Q 0 DESCRIPTION.now description refl (description_fit Q 0),
  λ d. (
    optional_fit Q 0 ALERT_WHEN_NO_DATA.now boolean refl (boolean_fit Q 0),
    λ n. (
      optional_fit Q 0 ALERT_WHEN_RESOLVED.now boolean refl (boolean_fit Q 0),
      λ r. (
        optional_fit Q 0 ALERT_WHEN_BREACHING.now boolean refl (boolean_fit Q 0),
        λ b. (
          optional_fit Q 0 CONDITIONS.now conditions refl (list_fit Q 0 0 at_most_one condition_item
              (reference_written CONDITION_REF.now) no_room
              (reference_item_fit Q CONDITION_REF.now kinds.AlertCondition condition_body refl
              (condition_body_law Any) (condition_body_fit Q) own_condition)),
          λ c. (
            optional_fit Q 0 NOTIFICATION_TARGETS.now targets refl
                (list_fit Q 0 0 any_number_of target_item (reference_written TARGET_REF.now) no_room
                (reference_item_fit Q TARGET_REF.now kinds.AlertNotificationTarget target_body refl
                (target_body_law Any) (target_body_fit Q) own_target)),
            λ t. tt,
          ),
        ),
      ),
    ),
  ),
)

any_policy_law : TableLaw Any [] alert_policy
any_policy_law = policy_law Any (any_own kinds.AlertCondition condition_body)
    (any_own kinds.AlertNotificationTarget target_body)

any_policy_body_law : FormLaw Any policy_body
any_policy_body_law = policy_body_law Any (any_own kinds.AlertCondition condition_body)
    (any_own kinds.AlertNotificationTarget target_body)

pub policy_body_fit : (Q : Object → Type 0) → OwnFit Q kinds.AlertCondition condition_body
    → OwnFit Q kinds.AlertNotificationTarget target_body → FormFit Q 0 policy_body
policy_body_fit Q c t = variant_fit Q 0 (map_with alert_policy)
    bodies.AlertPolicy (written_where (map_with alert_policy) policy_in) (λ a. refl)
    (plain_map_fit Q alert_policy any_policy_law (policy_table Q c t))

-- MOMENTS, WIDTHS AND PERCENTAGES

moment_same : (bytes : List ℕ) (m : Civil) → moment_value bytes ≡ Ok m → bytes ≡ civil_text m
unfolding moment_value civil_read
moment_same bytes m e = (elim (parts_in bytes) as (λ o. parts_in bytes ≡ o
    → found_or rules.NotMoment (civil_when o) ≡ Ok m → bytes ≡ civil_text m) [
      | None ↦ λ f g. rule_not_ok rules.NotMoment m g
      | Some p ↦ λ f g. text_of_parts bytes p f ∙ ap parts_text ((elim (is_moment p) as (λ b.
          (h : is_moment p ≡ b) → found_or rules.NotMoment (civil_from p b h) ≡ Ok m
          → p ≡ parts_of m) [
            | true ↦ λ h k. ap parts_of (rule_same (civil_of p (in_range p h)) m k)
            | false ↦ λ h k. rule_not_ok rules.NotMoment m k
          ]) refl g)
    ]) refl e

moment_fit : (Q : Object → Type 0) (room : ℕ) → FormFit Q room moment
moment_fit Q room = scalar_fit Q room rules.NotMoment moment_value (λ m. quoted (civil_text m))
    (λ t m e u q d. subst (λ z. SpellingFits d (quoted z)) (moment_same t m e) (u, q))

width_fit : (Q : Object → Type 0) (room : ℕ) → FormFit Q room slice_width
width_fit Q room = scalar_fit Q room rules.NotDuration width_value (λ w. word (decimal w.minutes))
    (λ t w e u q d. width_written w.minutes (width_most w))

percent_fit : (Q : Object → Type 0) (room : ℕ) → FormFit Q room percent
percent_fit Q room = scalar_fit Q room rules.NotNumber percent_value (number_written target_range)
    (λ t a e u q d. decimal_written a.ratio (target_bound a))

target_either : (Q : Object → Type 0) (room : ℕ) → EitherFit Q room target target percent is_target
target_either Q room key t y e d h m ft = let r =
    number_fit Q room target_range target_is key t y e d h m ft in (λ _. r.0, λ _. r.0, r.1)

percent_either : (Q : Object → Type 0) (room : ℕ)
    → EitherFit Q room percent target percent is_target
percent_either Q room key t y e d h m ft = let r = percent_fit Q room key t y e d h m ft in
    (λ _. r.0, λ _. r.0, r.1)

method_fit : (Q : Object → Type 0) (room : ℕ) → FormFit Q room method
method_fit Q room =
    scalar_fit Q room rules.BadWord method_value (λ m. word (method_word m)) (λ t k e u q d. by k d)
  where
    by : (k : BudgetingMethod) (d : ℕ) → SpellingFits d (word (method_word k))
    by Occurrences d = word_fit (codes "Occurrences") d refl refl
    by Timeslices d = word_fit (codes "Timeslices") d refl refl
    by RatioTimeslices d = word_fit (codes "RatioTimeslices") d refl refl

-- OBJECTIVES

calendar_table : (Q : Object → Type 0) → TableFit Q 0 calendar
unfolding calendar
calendar_table Q = (
  required_fit Q 0 START_TIME.now moment refl (moment_fit Q 0),
  λ s. (required_fit Q 0 TIME_ZONE.now zone_name refl (zone_fit Q 0), λ z. tt),
)

window_table : (Q : Object → Type 0) → TableFit Q 0 time_window
unfolding time_window
window_table Q = (
  required_fit Q 0 DURATION.now (duration window_range) refl (duration_fit Q 0 window_range),
  λ d. (
    optional_fit Q 0 IS_ROLLING.now boolean refl (boolean_fit Q 0),
    λ r. (
      holding_fit Q 0 (is_rolling r || is_calendar_unit d.span.unit) DURATION.now rules.OutOfRange,
      λ u. (
        required_unless_fit Q 0 (is_rolling r) CALENDAR.now (map_with calendar) refl
            (plain_map_fit Q calendar (calendar_law Any) (calendar_table Q)),
        λ c. tt,
      ),
    ),
  ),
)

objective_table : (Q : Object → Type 0) (method : BudgetingMethod) → TableFit Q 0 (objective method)
unfolding objective
objective_table Q method = (
  optional_fit Q 0 DISPLAY_NAME.now text refl (text_fit Q 0),
  λ d. (
    optional_fit Q 0 OP.now op refl (op_fit Q 0),
    λ o. (
      optional_fit Q 0 VALUE.now (number every_number) refl
          (number_fit Q 0 every_number every_number_is),
      λ v. (
        one_of_fit Q 0 TARGET.now target TARGET_PERCENT.now percent is_target refl refl
            (target_either Q 0) (percent_either Q 0),
        λ t. (
          required_where_fit Q 0 (has_slice_target method) TIME_SLICE_TARGET.now
              (number slice_target_range) refl
              (number_fit Q 0 slice_target_range slice_target_is),
          λ s. (
            required_where_fit Q 0 (has_slices method) TIME_SLICE_WINDOW.now slice_width refl
                (width_fit Q 0),
            λ w. tt,
          ),
        ),
      ),
    ),
  ),
)

objectives_fit : (Q : Object → Type 0) (method : BudgetingMethod) → FormFit Q 0 (objectives method)
objectives_fit Q method =
    list_fit Q 0 0 is_objective_count (objective_item method) (map_with (objective method)).write
    no_room
    (λ key before t y e d h m ft. plain_map_fit Q (objective method) (objective_law Any method)
    (objective_table Q method) key t y e d h m ft)

inline_indicator_fit : (Q : Object → Type 0) (room : ℕ) → OwnFit Q kinds.Sli sli_body
    → EitherFit Q room inline_indicator inline_indicator name is_inline
inline_indicator_fit Q room own key (mapping es) y e zero h m ft = absurd ft
inline_indicator_fit Q room own key (mapping es) y e (suc d) h m ft = let n =
    name_fits y.1 (inline_ok Any kinds.Sli sli_body (sli_body_law Any) (any_own kinds.Sli sli_body)
    es y e).is_name (suc d) in
    (λ _. n, λ _. n, inline_fit Q kinds.Sli sli_body (sli_body_fit Q) own es y e d m ft)
inline_indicator_fit Q room own key (sequence ts) y e d h m ft = refused_not_ok key rules.NotMap y e
inline_indicator_fit Q room own key (scalar bytes plain) y e d h m ft =
    refused_not_ok key rules.NotMap y e

named_indicator_fit : (Q : Object → Type 0) (room : ℕ)
    → EitherFit Q room name inline_indicator name is_inline
named_indicator_fit Q room key t y e d h m ft = let r = name_fit Q room key t y e d h m ft in
    (λ _. r.0, λ _. r.0, r.1)

-- an item of the policies, which is written as a map also where it is a name
policy_item_fit : (Q : Object → Type 0)
    → FormFit Q 0 policy_body → OwnFit Q kinds.AlertPolicy policy_body
    → ItemFit Q 1 policy_item (reference_written ALERT_POLICY_REF.now)
policy_item_fit Q fit own key before t y e zero h m ft = absurd (let k = h in omega arith)
policy_item_fit Q fit own key before t y e (suc d) h m ft = let new =
    (new_ok key before (policy_form key t) y e).is_read in (
      reference_fits ALERT_POLICY_REF.now y.1 d refl (policy_ok Any any_policy_body_law
          (any_own kinds.AlertPolicy policy_body) key t y new).is_name,
      taken t new ft,
    )
  where
    taken : (t : Tree) → policy_form key t ≡ Ok y → SpellingFits (suc d) (spelled t)
        → AllByRecursion Q y.0
    taken (mapping es) f g =
        item_taken Q ALERT_POLICY_REF.now kinds.AlertPolicy policy_body fit own es y f d m g
    taken (sequence ts) f g = refused_not_ok key rules.NotMap y f
    taken (scalar bytes plain) f g = by (is_null (scalar bytes plain)) f
      where
        by : (b : Bool) → cond b (refused key rules.BadName) (name.read key (scalar bytes plain))
            ≡ Ok y → AllByRecursion Q y.0
        by true i = refused_not_ok key rules.BadName y i
        by false i = (name_fit Q 0 key (scalar bytes plain) y i (suc d) (omega arith) m g).1

two_levels : Within 2 1
two_levels d h = omega arith

three_levels : Within 3 2
three_levels d h = omega arith

slo_table : (Q : Object → Type 0) → FormFit Q 0 policy_body → OwnFit Q kinds.AlertPolicy policy_body
    → OwnFit Q kinds.Sli sli_body → TableFit Q 2 slo
unfolding slo
slo_table Q policy_fit own_policy own_sli = (
  optional_fit Q 2 DESCRIPTION.now description refl (description_fit Q 2),
  λ d. (
    required_fit Q 2 SERVICE.now name refl (name_fit Q 2),
    λ s. (
      one_of_fit Q 2 INDICATOR.now inline_indicator INDICATOR_REF.now name is_inline refl refl
          (inline_indicator_fit Q 2 own_sli) (named_indicator_fit Q 2),
      λ i. (
        required_fit Q 2 TIME_WINDOW.now (single (map_with time_window)) refl
            (roomy Q 2 (single (map_with time_window)) (single_fit Q 0 0 (map_with time_window)
            no_room (plain_map_fit Q time_window (window_law Any) (window_table Q)))),
        λ t. (
          required_fit Q 2 BUDGETING_METHOD.now method refl (method_fit Q 2),
          λ m. (
            required_fit Q 2 OBJECTIVES.now (objectives m) refl
                (roomy Q 2 (objectives m) (objectives_fit Q m)),
            λ o. (
              optional_fit Q 2 ALERT_POLICIES.now policies refl
                  (list_fit Q 2 1 is_policy_count policy_item
                  (reference_written ALERT_POLICY_REF.now)
                  two_levels (policy_item_fit Q policy_fit own_policy)),
              λ p. tt,
            ),
          ),
        ),
      ),
    ),
  ),
)

pub slo_body_fit : (Q : Object → Type 0) → FormFit Q 0 policy_body
    → OwnFit Q kinds.AlertPolicy policy_body → OwnFit Q kinds.Sli sli_body → FormFit Q 3 slo_body
slo_body_fit Q policy_fit own_policy own_sli =
    variant_fit Q 3 (map_with slo) bodies.Slo (written_where (map_with slo) slo_in) (λ a. refl)
    (map_fit Q 3 2 Any slo three_levels (slo_law Any any_policy_body_law (any_own kinds.AlertPolicy
    policy_body) (any_own kinds.Sli sli_body)) (slo_table Q policy_fit own_policy own_sli))
