-- What was read is read again from what it is written as: texts, names and words.
use Rattle.std.proofs.Common.{◌≡◌, ℕ, Bool, true, false, List, Some, None, Result, Ok, Err, cond}
use Rattle.std.proofs.Common.{refl, sym, ap, ◌∙◌}
use Rattle.std.specs.Prelude.{nat_le, length, codes}
use Rattle.std.specs.Str.{is_utf8, chars}
use Rattle.yaml_terms.specs.Tree.{scalar}
use Rattle.yaml_terms.specs.Spelling.{Spelling, word, quoted, meant}
use Rattle.exact_fraction.specs.ZoneName.{is_zone_name}
use Rattle.exact_fraction.specs.declared.op.Op.{Op}
use Rattle.exact_fraction.specs.declared.op.Op.TheVariants.{Lte, Gte, Lt, Gt}
use Rattle.object_terms.specs.declared.object.Object.{Object}
use Rattle.object_terms.specs.declared.fault.Rule.{Rule}
use Rattle.object_terms.specs.declared.fault.Rule.TheVariants as rules
use Rattle.object_terms.specs.declared.kind.Kind.{Kind}
use Rattle.object_terms.specs.declared.kind.Kind.TheVariants as kinds
use Rattle.object_terms.specs.declared.alert_condition.ConditionKind.{ConditionKind}
use Rattle.object_terms.specs.declared.alert_condition.ConditionKind.TheVariants.{Burnrate}
use Rattle.object_terms.specs.declared.sli.RawType.{RawType}
use Rattle.object_terms.specs.declared.sli.RawType.TheVariants.{Success, Failure}
use Rattle.object_terms.specs.declared.slo.BudgetingMethod.{BudgetingMethod}
use Rattle.object_terms.specs.declared.slo.BudgetingMethod.TheVariants.{Occurrences, Timeslices}
use Rattle.object_terms.specs.declared.slo.BudgetingMethod.TheVariants.{RatioTimeslices}
use Rattle.object_terms.specs.Form.{is_null, utf8_in}
use Rattle.object_terms.specs.Scalars.{found_or, text_value, text, most_characters, short_text}
use Rattle.object_terms.specs.Scalars.{description_value, description, is_object_name, name_value}
use Rattle.object_terms.specs.Scalars.{name, zone_value, zone_name, version_value, version_text}
use Rattle.object_terms.specs.Scalars.{version, kind_value, kind_word, kind, only_kind_value}
use Rattle.object_terms.specs.Scalars.{only_kind, op_value, op_word, op, boolean_value, boolean}
use Rattle.object_terms.specs.AlertCondition.{condition_kind, condition_kind_value, condition_word}
use Rattle.object_terms.specs.Sli.{raw_type, raw_type_value, raw_type_word}
use Rattle.object_terms.specs.Slo.{method, method_value, method_word}
use Rattle.object_laws.proofs.LawForms.{StrongLaw, Spelt, scalar_law}

pub rule_same : {A : Type 0} (x y : A) → (let r : Result A Rule = Ok x in r) ≡ Ok y → x ≡ y
rule_same x y e = cc

pub rule_not_ok : {A : Type 0} {Q : Type 0} (r : Rule) (y : A)
    → (let a : Result A Rule = Err r in a) ≡ Ok y → Q
rule_not_ok r y e = absurd (contra r y e)
  where
    contra : {A : Type 0} (r : Rule) (y : A) → (let a : Result A Rule = Err r in a) ≡ Ok y → ⊥
    contra r y e = cc

-- TEXTS

-- a text that is read as it stands
quoted_spelt : (parse : List ℕ → Result (List ℕ) Rule) (t a : List ℕ) → t ≡ a → parse t ≡ Ok a
    → Spelt (List ℕ) parse quoted a
quoted_spelt parse t a s e = record {
  text = a;
  plain = false;
  is_written = refl;
  stands = ap parse (sym s) ∙ e;
  shown = refl;
}

found_when : (rule : Rule) (b : Bool) (t a : List ℕ)
    → found_or rule (cond b (Some t) None) ≡ Ok a → t ≡ a
found_when rule true t a e = rule_same t a e
found_when rule false t a e = rule_not_ok rule a e

pub text_same : (t a : List ℕ) → text_value t ≡ Ok a → t ≡ a
unfolding text_value utf8_in
text_same t a e = found_when rules.NotText (is_utf8 t) t a e

short_same : (b : Bool) (t a : List ℕ) → short_text (cond b (Some t) None) ≡ Ok a → t ≡ a
short_same true t a e = by (nat_le (length (chars t)) most_characters) e
  where
    by : (c : Bool) → cond c (Ok t) (Err rules.TooLong) ≡ Ok a → t ≡ a
    by true g = rule_same t a g
    by false g = rule_not_ok rules.TooLong a g
short_same false t a e = rule_not_ok rules.NotText a e

pub description_same : (t a : List ℕ) → description_value t ≡ Ok a → t ≡ a
unfolding description_value utf8_in
description_same t a e = short_same (is_utf8 t) t a e

ok_when : (rule : Rule) (b : Bool) (t a : List ℕ) → cond b (Ok t) (Err rule) ≡ Ok a → t ≡ a
ok_when rule true t a e = rule_same t a e
ok_when rule false t a e = rule_not_ok rule a e

pub name_same : (t a : List ℕ) → name_value t ≡ Ok a → t ≡ a
unfolding name_value
name_same t a e = ok_when rules.BadName (is_object_name t) t a e

pub zone_same : (t a : List ℕ) → zone_value t ≡ Ok a → t ≡ a
unfolding zone_value
zone_same t a e = found_when rules.BadName (is_zone_name t) t a e

pub text_law : (P : Object → Type 0) → StrongLaw P text
text_law P = scalar_law P rules.NotText text_value quoted
    (λ t a e. quoted_spelt text_value t a (text_same t a e) e)

pub description_law : (P : Object → Type 0) → StrongLaw P description
description_law P = scalar_law P rules.NotText description_value quoted
    (λ t a e. quoted_spelt description_value t a (description_same t a e) e)

pub name_law : (P : Object → Type 0) → StrongLaw P name
name_law P = scalar_law P rules.BadName name_value quoted
    (λ t a e. quoted_spelt name_value t a (name_same t a e) e)

pub zone_law : (P : Object → Type 0) → StrongLaw P zone_name
zone_law P = scalar_law P rules.BadName zone_value quoted
    (λ t a e. quoted_spelt zone_value t a (zone_same t a e) e)

-- WORDS

word_spelt : {A : Type 0} (parse : List ℕ → Result A Rule)
    (write : A → Spelling) (a : A) (w : List ℕ) → meant (write a) ≡ scalar w true → parse w ≡ Ok a
    → is_null (scalar w true) ≡ false → Spelt A parse write a
word_spelt parse write a w e f g = record {
  text = w;
  plain = true;
  is_written = e;
  stands = f;
  shown = g;
}

op_spelt : (o : Op) → Spelt Op op_value (λ o. word (op_word o)) o
unfolding op_value
op_spelt Lte = word_spelt op_value (λ o. word (op_word o)) Lte (op_word Lte) refl refl refl
op_spelt Gte = word_spelt op_value (λ o. word (op_word o)) Gte (op_word Gte) refl refl refl
op_spelt Lt = word_spelt op_value (λ o. word (op_word o)) Lt (op_word Lt) refl refl refl
op_spelt Gt = word_spelt op_value (λ o. word (op_word o)) Gt (op_word Gt) refl refl refl

pub op_law : (P : Object → Type 0) → StrongLaw P op
op_law P = scalar_law P rules.BadWord op_value (λ o. word (op_word o)) (λ t a e. op_spelt a)

pub kind_stands : (k : Kind) → kind_value (kind_word k) ≡ Ok k
unfolding kind_value
kind_stands kinds.DataSource = refl
kind_stands kinds.Service = refl
kind_stands kinds.Sli = refl
kind_stands kinds.Slo = refl
kind_stands kinds.AlertPolicy = refl
kind_stands kinds.AlertCondition = refl
kind_stands kinds.AlertNotificationTarget = refl

pub kind_shown : (k : Kind) → is_null (scalar (kind_word k) true) ≡ false
kind_shown kinds.DataSource = refl
kind_shown kinds.Service = refl
kind_shown kinds.Sli = refl
kind_shown kinds.Slo = refl
kind_shown kinds.AlertPolicy = refl
kind_shown kinds.AlertCondition = refl
kind_shown kinds.AlertNotificationTarget = refl

pub kind_law : (P : Object → Type 0) → StrongLaw P kind
kind_law P = scalar_law P rules.BadKind kind_value (λ k. word (kind_word k)) (λ t a e. word_spelt
    kind_value (λ k. word (kind_word k)) a (kind_word a) refl (kind_stands a) (kind_shown a))

pub version_law : (P : Object → Type 0) → StrongLaw P version
unfolding version_value
version_law P = scalar_law P rules.BadVersion version_value (λ _. word version_text)
    (λ t a e. word_spelt version_value (λ _. word version_text) tt version_text refl refl refl)

only_kind_stands : (k : Kind) → only_kind_value k (kind_word k) ≡ Ok tt
unfolding only_kind_value
only_kind_stands kinds.DataSource = refl
only_kind_stands kinds.Service = refl
only_kind_stands kinds.Sli = refl
only_kind_stands kinds.Slo = refl
only_kind_stands kinds.AlertPolicy = refl
only_kind_stands kinds.AlertCondition = refl
only_kind_stands kinds.AlertNotificationTarget = refl

pub only_kind_law : (P : Object → Type 0) (k : Kind) → StrongLaw P (only_kind k)
only_kind_law P k = scalar_law P rules.BadKind (only_kind_value k) (λ _. word (kind_word k))
    (λ t a e. word_spelt (only_kind_value k) (λ _. word (kind_word k)) tt (kind_word k) refl
    (only_kind_stands k) (kind_shown k))

boolean_spelt : (b : Bool)
    → Spelt Bool boolean_value (λ b. word (cond b (codes "true") (codes "false"))) b
unfolding boolean_value
boolean_spelt true = word_spelt boolean_value (λ b. word (cond b (codes "true") (codes "false")))
    true (codes "true") refl refl refl
boolean_spelt false = word_spelt boolean_value (λ b. word (cond b (codes "true") (codes "false")))
    false (codes "false") refl refl refl

pub boolean_law : (P : Object → Type 0) → StrongLaw P boolean
boolean_law P = scalar_law P rules.NotBool boolean_value
    (λ b. word (cond b (codes "true") (codes "false"))) (λ t a e. boolean_spelt a)

condition_kind_spelt : (k : ConditionKind)
    → Spelt ConditionKind condition_kind_value (λ k. word (condition_word k)) k
unfolding condition_kind_value
condition_kind_spelt Burnrate = word_spelt condition_kind_value (λ k. word (condition_word k))
    Burnrate (condition_word Burnrate) refl refl refl

pub condition_kind_law : (P : Object → Type 0) → StrongLaw P condition_kind
condition_kind_law P = scalar_law P rules.BadWord condition_kind_value
    (λ k. word (condition_word k)) (λ t a e. condition_kind_spelt a)

raw_type_spelt : (k : RawType) → Spelt RawType raw_type_value (λ k. word (raw_type_word k)) k
unfolding raw_type_value
raw_type_spelt Success = word_spelt raw_type_value (λ k. word (raw_type_word k)) Success
    (raw_type_word Success) refl refl refl
raw_type_spelt Failure = word_spelt raw_type_value (λ k. word (raw_type_word k)) Failure
    (raw_type_word Failure) refl refl refl

pub raw_type_law : (P : Object → Type 0) → StrongLaw P raw_type
raw_type_law P = scalar_law P rules.BadWord raw_type_value (λ k. word (raw_type_word k))
    (λ t a e. raw_type_spelt a)

method_spelt : (k : BudgetingMethod)
    → Spelt BudgetingMethod method_value (λ k. word (method_word k)) k
unfolding method_value
method_spelt Occurrences = word_spelt method_value (λ k. word (method_word k)) Occurrences
    (method_word Occurrences) refl refl refl
method_spelt Timeslices = word_spelt method_value (λ k. word (method_word k)) Timeslices
    (method_word Timeslices) refl refl refl
method_spelt RatioTimeslices = word_spelt method_value (λ k. word (method_word k)) RatioTimeslices
    (method_word RatioTimeslices) refl refl refl

pub method_law : (P : Object → Type 0) → StrongLaw P method
method_law P =
    scalar_law P rules.BadWord method_value (λ k. word (method_word k)) (λ t a e. method_spelt a)
