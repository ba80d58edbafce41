-- What scalars stand for: texts, names, words, booleans and numbers.
use Rattle.std.specs.Prelude.{ℕ, ◌+◌, ◌-◌, ◌/◌, ◌==◌, Bool, true, false, ◌&&◌, ◌||◌, not, cond}
use Rattle.std.specs.Prelude.{nat_le, List, [], ◌∷◌, length, slice_index, Option, Some, None}
use Rattle.std.specs.Prelude.{Result, Ok, Err, codes}
use Rattle.std.specs.List.{list_all}
use Rattle.std.specs.Str.{bytes_eq, chars}
use Rattle.std.specs.Char.{is_ascii_digit, is_ascii_lowercase}
use Rattle.yaml_terms.specs.Spelling.{Spelling, word, quoted}
use Rattle.exact_fraction.specs.DecimalCuts.{decimal_by_cuts, leading_digits}
use Rattle.exact_fraction.specs.DecimalText.{decimal_text}
use Rattle.exact_fraction.specs.ZoneName.{zone_name_of}
use Rattle.exact_fraction.specs.declared.decimal.DecimalFault.{DecimalFault}
use Rattle.exact_fraction.specs.declared.decimal.DecimalFault.TheVariants as decimals
use Rattle.exact_fraction.specs.declared.op.Op.{Op}
use Rattle.exact_fraction.specs.declared.op.Op.TheVariants.{Lte, Gte, Lt, Gt}
use Rattle.object_terms.specs.declared.fault.Rule.{Rule}
use Rattle.object_terms.specs.declared.fault.Rule.TheVariants as rules
use Rattle.object_terms.specs.declared.kind.Kind.{Kind}
use Rattle.object_terms.specs.declared.kind.Kind.TheVariants as kinds
use Rattle.object_terms.specs.declared.ranges.Target.{Target}
use Rattle.object_terms.specs.Form.{Key, Form, scalar_form, is_among, utf8_in}
use Rattle.object_terms.specs.Ranges.{Range, target_in, target_range}

-- a value where it is found, and else the rule that is broken
abbrev pub found_or : {A : Type 0} → Rule → Option A → Result A Rule
found_or rule None = Err rule
found_or rule (Some a) = Ok a

-- a text is UTF-8, as every scalar of a document is, and is written in quotes
unfoldable pub text_value : List ℕ → Result (List ℕ) Rule
text_value bytes = found_or rules.NotText (utf8_in bytes)

abbrev pub text : Form (List ℕ)
text = scalar_form rules.NotText text_value quoted

-- The most characters of a description (OpenSLO v1).
abbrev pub most_characters : ℕ
most_characters = 1050

abbrev pub short_text : Option (List ℕ) → Result (List ℕ) Rule
short_text None = Err rules.NotText
short_text (Some t) = cond (nat_le (length (chars t)) most_characters) (Ok t) (Err rules.TooLong)

unfoldable pub description_value : List ℕ → Result (List ℕ) Rule
description_value bytes = short_text (utf8_in bytes)

abbrev pub description : Form (List ℕ)
description = scalar_form rules.NotText description_value quoted

-- An object's name is a DNS label (OpenSLO v1, RFC 1123): 1 to 63 of lower-case letters, digits and
-- `-`, the first and the last no `-`.
abbrev pub is_name_byte : ℕ → Bool
is_name_byte byte = is_ascii_lowercase byte || is_ascii_digit byte || byte == 45

abbrev pub is_object_name : List ℕ → Bool
is_object_name name =
    nat_le 1 (length name) && nat_le (length name) 63 && list_all is_name_byte name
    && not (slice_index name 0 == 45) && not (slice_index name (length name - 1) == 45)

unfoldable pub name_value : List ℕ → Result (List ℕ) Rule
name_value bytes = cond (is_object_name bytes) (Ok bytes) (Err rules.BadName)

abbrev pub name : Form (List ℕ)
name = scalar_form rules.BadName name_value quoted

unfoldable pub zone_value : List ℕ → Result (List ℕ) Rule
zone_value bytes = found_or rules.BadName (zone_name_of bytes)

abbrev pub zone_name : Form (List ℕ)
zone_name = scalar_form rules.BadName zone_value quoted

-- the first of these values whose word it is
abbrev pub of_word : {A : Type 0} → (A → Key) → List A → Key → Option A
of_word spelling [] bytes = None
of_word spelling (a ∷ more) bytes =
    cond (bytes_eq (spelling a) bytes) (Some a) (of_word spelling more bytes)

-- the one version that is read
abbrev pub version_text : Key
version_text = codes "openslo/v1"

unfoldable pub version_value : Key → Result (Unit {0}) Rule
version_value bytes = cond (bytes_eq version_text bytes) (Ok tt) (Err rules.BadVersion)

abbrev pub version : Form (Unit {0})
version = scalar_form rules.BadVersion version_value (λ _. word version_text)

-- the words of the kinds
abbrev pub kind_word : Kind → Key
kind_word kinds.DataSource = codes "DataSource"
kind_word kinds.Service = codes "Service"
kind_word kinds.Sli = codes "SLI"
kind_word kinds.Slo = codes "SLO"
kind_word kinds.AlertPolicy = codes "AlertPolicy"
kind_word kinds.AlertCondition = codes "AlertCondition"
kind_word kinds.AlertNotificationTarget = codes "AlertNotificationTarget"

abbrev pub all_kinds : List Kind
all_kinds = kinds.DataSource ∷ kinds.Service ∷ kinds.Sli ∷ kinds.Slo ∷ kinds.AlertPolicy
    ∷ kinds.AlertCondition ∷ kinds.AlertNotificationTarget ∷ []

unfoldable pub kind_value : Key → Result Kind Rule
kind_value bytes = found_or rules.BadKind (of_word kind_word all_kinds bytes)

abbrev pub kind : Form Kind
kind = scalar_form rules.BadKind kind_value (λ k. word (kind_word k))

-- the word of that kind alone
unfoldable pub only_kind_value : Kind → Key → Result (Unit {0}) Rule
only_kind_value k bytes = cond (bytes_eq (kind_word k) bytes) (Ok tt) (Err rules.BadKind)

abbrev pub only_kind : Kind → Form (Unit {0})
only_kind k = scalar_form rules.BadKind (only_kind_value k) (λ _. word (kind_word k))

-- comparisons (OpenSLO v1: lte, gte, lt, gt)
abbrev pub op_word : Op → Key
op_word Lte = codes "lte"
op_word Gte = codes "gte"
op_word Lt = codes "lt"
op_word Gt = codes "gt"

abbrev pub all_ops : List Op
all_ops = Lte ∷ Gte ∷ Lt ∷ Gt ∷ []

unfoldable pub op_value : Key → Result Op Rule
op_value bytes = found_or rules.BadWord (of_word op_word all_ops bytes)

abbrev pub op : Form Op
op = scalar_form rules.BadWord op_value (λ o. word (op_word o))

-- The forms of booleans (YAML 1.2.2, section 10.3.2). They are written in small letters.
abbrev pub trues : List Key
trues = codes "true" ∷ codes "True" ∷ codes "TRUE" ∷ []

abbrev pub falses : List Key
falses = codes "false" ∷ codes "False" ∷ codes "FALSE" ∷ []

unfoldable pub boolean_value : Key → Result Bool Rule
boolean_value bytes = cond (is_among trues bytes) (Ok true)
    (cond (is_among falses bytes) (Ok false) (Err rules.NotBool))

abbrev pub boolean : Form Bool
boolean =
    scalar_form rules.NotBool boolean_value (λ b. word (cond b (codes "true") (codes "false")))

-- a value in its range, or the rule that one outside of it breaks
abbrev pub ranged : {A B : Type 0} → (B → Option A) → Result B Rule → Result A Rule
ranged in_range (Ok b) = found_or rules.OutOfRange (in_range b)
ranged in_range (Err rule) = Err rule

-- the rule that a text breaks which is no decimal
abbrev pub number_ruled : Result ℕ DecimalFault → Result ℕ Rule
number_ruled (Ok n) = Ok n
number_ruled (Err decimals.TooLarge) = Err rules.OutOfRange
number_ruled (Err decimals.Empty) = Err rules.NotNumber
number_ruled (Err (decimals.BadByte place)) = Err rules.NotNumber
number_ruled (Err decimals.TooManyDecimals) = Err rules.NotNumber

-- the decimal of a text, in billionths, or the rule that it breaks
unfoldable pub number_or_rule : List ℕ → Result ℕ Rule
number_or_rule bytes = number_ruled (decimal_by_cuts bytes)

-- a decimal in a range
unfoldable pub number_value : {A : Type 0} → Range ℕ A → List ℕ → Result A Rule
number_value range bytes = ranged range.in_range (number_or_rule bytes)

abbrev pub number_written : {A : Type 0} → Range ℕ A → A → Spelling
number_written range value = word (decimal_text (range.value value))

abbrev pub number : {A : Type 0} → Range ℕ A → Form A
number range = scalar_form rules.NotNumber (number_value range) (number_written range)

-- A percentage has at most seven decimals, so that its hundredth has at most nine.
abbrev pub has_few_decimals : List ℕ → Bool
has_few_decimals bytes = nat_le (length bytes) (leading_digits bytes + 8)

unfoldable pub percent_value : List ℕ → Result Target Rule
percent_value bytes = cond (has_few_decimals bytes)
    (ranged (λ n. target_in (n / 100)) (number_or_rule bytes)) (Err rules.NotNumber)

-- A percentage, whose hundredth is a target: it is kept, and is written as a number.
abbrev pub percent : Form Target
percent = scalar_form rules.NotNumber percent_value (number_written target_range)
