-- What was read is read again from what it is written as: numbers, durations, widths and moments.
use Rattle.std.proofs.Common.{◌≡◌, ℕ, ◌^◌, ◌<◌, ◌≤◌, Bool, true, false, List, [], ◌∷◌, Option, Some}
use Rattle.std.proofs.Common.{None, Result, Ok, Err, cond, length, take, refl, sym, ap, ◌∙◌, subst}
use Rattle.std.proofs.Common.{arith, decimal}
use Rattle.std.specs.Prelude.{nat_le, codes, option_and_then}
use Rattle.std.specs.Str.{bytes_eq}
use Rattle.std.specs.List.{prefix_len}
use Rattle.std.specs.Char.{is_ascii_digit}
use Rattle.std.proofs.Math.Nat.{le_of_dvd}
use Rattle.std.proofs.lemmas.Bool.{false≢true, true≢false, le-leb}
use Rattle.std.proofs.lemmas.List.{take_all}
use Rattle.yaml_terms.specs.Tree.{scalar}
use Rattle.yaml_terms.specs.Spelling.{word, quoted}
use Rattle.exact_fraction.specs.Digits.{is_number, number_of, number_within, at_most}
use Rattle.exact_fraction.specs.Decimal.{AnswersDecimal, StandsForBillionths}
use Rattle.exact_fraction.specs.DecimalCuts.{decimal_by_cuts}
use Rattle.exact_fraction.specs.DecimalText.{decimal_text}
use Rattle.exact_fraction.specs.declared.decimal.DecimalFault.{DecimalFault}
use Rattle.exact_fraction.specs.declared.decimal.DecimalFault.TheVariants as decimals
use Rattle.exact_fraction.proofs.DecimalForm.{answers-by_cuts, answers-unique}
use Rattle.exact_fraction.proofs.SpelledDecimals.{spelled-reads}
use Rattle.slo_duration.specs.Minutes.{minutes_of}
use Rattle.slo_duration.specs.Reading.{duration_of}
use Rattle.slo_duration.specs.Writing.{duration_text}
use Rattle.slo_duration.specs.declared.duration.Duration.{Duration}
use Rattle.slo_duration.proofs.BackLemmas.{duration_of-text}
use Rattle.slo_duration.proofs.DigitLemmas.{AreDigits, decimal_are_digits, is_number-prefix}
use Rattle.zone_calendar.specs.CivilText.{parts_of, is_moment, civil_text}
use Rattle.zone_calendar.specs.CivilRead.{in_range as moment_in_range, civil_of, civil_from}
use Rattle.zone_calendar.specs.CivilRead.{civil_when, civil_read}
use Rattle.zone_calendar.specs.declared.civil.Civil.{Civil}
use Rattle.zone_calendar.proofs.CivilLemmas.{is_moment-civil, parts_in-civil}
use Rattle.zone_calendar.proofs.SameLemmas.{civil_same}
use Rattle.object_terms.specs.declared.object.Object.{Object}
use Rattle.object_terms.specs.declared.fault.Rule.{Rule}
use Rattle.object_terms.specs.declared.fault.Rule.TheVariants as rules
use Rattle.object_terms.specs.declared.ranges.SliceWidth.{SliceWidth}
use Rattle.object_terms.specs.declared.ranges.Target.{Target}
use Rattle.object_terms.specs.Form.{Key, is_null, is_among, nulls}
use Rattle.object_terms.specs.Scalars.{found_or, ranged, number_ruled, number_or_rule, number_value}
use Rattle.object_terms.specs.Scalars.{number_written, number, percent_value, percent}
use Rattle.object_terms.specs.Ranges.{Range, target_range, width_in}
use Rattle.object_terms.specs.Durations.{duration_ruled, duration_or_rule, duration_value}
use Rattle.object_terms.specs.Durations.{duration_written, duration}
use Rattle.object_terms.specs.Moments.{moment_value, moment}
use Rattle.object_terms.specs.Slo.{width_value, slice_width, target, is_target}
use Rattle.object_laws.proofs.LawFields.{bytes_same, or_either, false_if}
use Rattle.object_terms.proofs.RangeLemmas.{IsRange, target_is, width_is}
use Rattle.object_laws.proofs.LawForms.{StrongLaw, Spelt, scalar_other, scalar_law}
use Rattle.object_laws.proofs.LawScalars.{rule_same, rule_not_ok}
use Rattle.object_laws.proofs.LawChoices.{EitherLaw}

-- NULLS

-- a text that is read is none that stands for nothing, where none of those is read
among_nulls : (Q : List ℕ → Type 0) (ks : List Key) → ((k : Key) → is_among ks k ≡ true → Q k → ⊥)
    → (x : List ℕ) → Q x → is_among ks x ≡ false
among_nulls Q ks h x q = false_if (is_among ks x) (λ e. h x e q)

no_key : (Q : List ℕ → Type 0) (j : Key) (ks : List Key) → (Q j → ⊥)
    → ((k : Key) → is_among ks k ≡ true → Q k → ⊥) → (k : Key)
    → is_among (j ∷ ks) k ≡ true → Q k → ⊥
no_key Q j ks n h k e q = or_either (bytes_eq j k) (is_among ks k) e
    (λ f. n (subst Q (sym (bytes_same j k f)) q)) (λ f. h k f q)

not_null : {A : Type 0} (parse : List ℕ → Result A Rule) (a b c d e : Rule) → parse [] ≡ Err a
    → parse (codes "~") ≡ Err b → parse (codes "null") ≡ Err c → parse (codes "Null") ≡ Err d
    → parse (codes "NULL") ≡ Err e
    → (x : List ℕ) (v : A) → parse x ≡ Ok v → is_null (scalar x true) ≡ false
not_null parse a b c d e ea eb ec ed ee x v h = among_nulls (λ t. parse t ≡ Ok v) nulls
    (no_key (λ t. parse t ≡ Ok v) [] (codes "~" ∷ codes "null" ∷ codes "Null" ∷ codes "NULL" ∷ [])
    (λ f. rule_not_ok a v (sym ea ∙ f))
    (no_key (λ t. parse t ≡ Ok v) (codes "~") (codes "null" ∷ codes "Null" ∷ codes "NULL" ∷ [])
    (λ f. rule_not_ok b v (sym eb ∙ f))
    (no_key (λ t. parse t ≡ Ok v) (codes "null") (codes "Null" ∷ codes "NULL" ∷ [])
    (λ f. rule_not_ok c v (sym ec ∙ f))
    (no_key (λ t. parse t ≡ Ok v) (codes "Null") (codes "NULL" ∷ [])
    (λ f. rule_not_ok d v (sym ed ∙ f))
    (no_key (λ t. parse t ≡ Ok v) (codes "NULL") [] (λ f. rule_not_ok e v (sym ee ∙ f))
    (λ k f. absurd (false≢true f))))))) x h

-- DECIMALS

worth_bound : (t : List ℕ) (n : ℕ) → StandsForBillionths t n → n ≤ 10 ^ 18
worth_bound t n s = s.1.1.2

number_bound : (t : List ℕ) (n : ℕ) → number_or_rule t ≡ Ok n → n ≤ 10 ^ 18
unfolding number_or_rule
number_bound t n e = by (decimal_by_cuts t) refl e
  where
    by : (r : Result ℕ DecimalFault) → decimal_by_cuts t ≡ r → number_ruled r ≡ Ok n → n ≤ 10 ^ 18
    by (Ok m) f g = subst (λ z. z ≤ 10 ^ 18) (rule_same m n g)
        (worth_bound t m (subst (AnswersDecimal t) f (answers-by_cuts t)))
    by (Err decimals.TooLarge) f g = rule_not_ok rules.OutOfRange n g
    by (Err decimals.Empty) f g = rule_not_ok rules.NotNumber n g
    by (Err (decimals.BadByte place)) f g = rule_not_ok rules.NotNumber n g
    by (Err decimals.TooManyDecimals) f g = rule_not_ok rules.NotNumber n g

number_again : (n : ℕ) → n ≤ 10 ^ 18 → number_or_rule (decimal_text n) ≡ Ok n
unfolding number_or_rule
number_again n h =
    ap number_ruled (answers-unique (decimal_text n) (decimal_by_cuts (decimal_text n)) (Ok n)
    (answers-by_cuts (decimal_text n)) (spelled-reads n h))

-- what was read of a value in a range
ranged_ok : {A B : Type 0} (range : Range B A) → IsRange range → (r : Result B Rule) (a : A)
    → ranged range.in_range r ≡ Ok a → r ≡ Ok (range.value a)
ranged_ok {A} {B} range is (Ok b) a e = by (range.in_range b) refl e
  where
    of : (let r : Result B Rule = Ok (range.value a) in r) ≡ Ok b
        → (let r : Result B Rule = Ok b in r) ≡ Ok (range.value a)
    of f = sym f

    by : (o : Option A) → range.in_range b ≡ o → found_or rules.OutOfRange o ≡ Ok a
        → (let r : Result B Rule = Ok b in r) ≡ Ok (range.value a)
    by (Some c) f g = of (ap Ok (is.stands b a (f ∙ ap Some (rule_same c a g))))
    by None f g = rule_not_ok rules.OutOfRange a g
ranged_ok range is (Err rule) a e = rule_not_ok rule a e

pub number_ok : {A : Type 0} (range : Range ℕ A) → IsRange range → (t : List ℕ) (a : A)
    → number_value range t ≡ Ok a → range.value a ≤ 10 ^ 18
unfolding number_value
number_ok range is t a e =
    number_bound t (range.value a) (ranged_ok range is (number_or_rule t) a e)

number_stands : {A : Type 0} (range : Range ℕ A) → IsRange range → (a : A)
    → range.value a ≤ 10 ^ 18 → number_value range (decimal_text (range.value a)) ≡ Ok a
unfolding number_value
number_stands range is a h = ap (ranged range.in_range) (number_again (range.value a) h)
    ∙ ap (found_or rules.OutOfRange) (is.again a)

number_shown : {A : Type 0} (range : Range ℕ A) (x : List ℕ) (a : A) → number_value range x ≡ Ok a
    → is_null (scalar x true) ≡ false
unfolding number_value number_or_rule
number_shown range = not_null (number_value range) rules.NotNumber rules.NotNumber
    rules.NotNumber rules.NotNumber rules.NotNumber refl refl refl refl refl

number_spelt : {A : Type 0} (range : Range ℕ A) → IsRange range → (a : A)
    → range.value a ≤ 10 ^ 18 → Spelt A (number_value range) (number_written range) a
number_spelt range is a h = let s = number_stands range is a h in
    record {
      text = decimal_text (range.value a);
      plain = true;
      is_written = refl;
      stands = s;
      shown = number_shown range (decimal_text (range.value a)) a s;
    }

pub number_law : {A : Type 0} (P : Object → Type 0) (range : Range ℕ A) → IsRange range
    → StrongLaw P (number range)
number_law P range is = scalar_law P rules.NotNumber (number_value range) (number_written range)
    (λ t a e. number_spelt range is a (number_ok range is t a e))

-- PERCENTAGES

pub target_bound : (t : Target) → t.ratio ≤ 10 ^ 18
target_bound t = let below = t.below_one in omega arith

-- a percentage is read again as the target that it is written as
pub percent_law : (P : Object → Type 0) → EitherLaw P percent target percent is_target
percent_law P key t y n e =
    let back = scalar_other P rules.NotNumber
    rules.NotNumber percent_value (number_value target_range) (number_written target_range)
    (λ x a f. number_spelt target_range target_is a (target_bound a)) key t y e in
    record { first = λ _. back; second = λ f. absurd (true≢false f); both_taken = back.taken }

pub target_law : (P : Object → Type 0) → EitherLaw P target target percent is_target
target_law P key t y n e = let back = number_law P target_range target_is key t y e in
    record { first = λ _. back; second = λ f. absurd (true≢false f); both_taken = back.taken }

-- DURATIONS

duration_again : (d : Duration) → duration_or_rule (duration_text d) ≡ Ok d
unfolding duration_or_rule
duration_again d = ap duration_ruled (duration_of-text d)

duration_stands : {A : Type 0} (range : Range Duration A) → IsRange range → (a : A)
    → duration_value range (duration_text (range.value a)) ≡ Ok a
unfolding duration_value
duration_stands range is a = ap (ranged range.in_range) (duration_again (range.value a))
    ∙ ap (found_or rules.OutOfRange) (is.again a)

duration_shown : {A : Type 0} (range : Range Duration A) (x : List ℕ) (a : A)
    → duration_value range x ≡ Ok a → is_null (scalar x true) ≡ false
unfolding duration_value duration_or_rule duration_of
duration_shown range = not_null (duration_value range) rules.NotDuration rules.NotDuration
    rules.NotDuration rules.NotDuration rules.NotDuration refl refl refl refl refl

duration_spelt : {A : Type 0} (range : Range Duration A) → IsRange range → (a : A)
    → Spelt A (duration_value range) (duration_written range) a
duration_spelt range is a = let s = duration_stands range is a in
    record {
      text = duration_text (range.value a);
      plain = true;
      is_written = refl;
      stands = s;
      shown = duration_shown range (duration_text (range.value a)) a s;
    }

pub duration_law : {A : Type 0} (P : Object → Type 0) (range : Range Duration A) → IsRange range
    → StrongLaw P (duration range)
duration_law P range is = scalar_law P rules.NotDuration (duration_value range)
    (duration_written range) (λ t a e. duration_spelt range is a)

-- WIDTHS

pub width_most : (w : SliceWidth) → w.minutes ≤ 60
width_most w = let some : 0 < 60 = omega arith in le_of_dvd some w.divides

pub digits_number : (n : ℕ) (ds : List ℕ) → AreDigits n ds → is_number ds ≡ true
digits_number n ds h =
    let some : prefix_len is_ascii_digit ds ≡ 0 → ⊥ =
    λ z. (let a = h.all in let s = h.some in absurd (omega arith)) in
    let whole : take (prefix_len is_ascii_digit ds) ds ≡ ds = ap (λ (k : ℕ). take k ds) h.all
    ∙ take_all (length ds) ds (omega arith) in
    subst (λ z. is_number z ≡ true) whole (is_number-prefix ds some)

width_stands : (w : SliceWidth) → width_value (decimal w.minutes) ≡ Ok w
unfolding width_value
width_stands w =
    let n = w.minutes in
    let most : nat_le n 60 ≡ true = le-leb n 60 (width_most w) in
    let ds = decimal_are_digits n (let small = width_most w in omega arith) in
    let number = digits_number n (decimal n) ds in
    let found : number_within 60 (decimal n) ≡ Some n =
    ap (λ b. option_and_then (at_most 60) (cond b (Some (number_of (decimal n))) None)) number
    ∙ ap (at_most 60) ds.value ∙ ap (λ b. cond b (Some n) None) most in
    ap (λ b. cond b
    (found_or rules.OutOfRange (option_and_then width_in (number_within 60 (decimal n))))
    (ranged (λ d. width_in (minutes_of d)) (duration_or_rule (decimal n)))) number
    ∙ ap (λ o. found_or rules.OutOfRange (option_and_then width_in o)) found
    ∙ ap (found_or rules.OutOfRange) (width_is.again w)

width_shown : (x : List ℕ) (w : SliceWidth) → width_value x ≡ Ok w → is_null (scalar x true) ≡ false
unfolding width_value duration_or_rule duration_of
width_shown = not_null width_value rules.NotDuration rules.NotDuration rules.NotDuration
    rules.NotDuration rules.NotDuration refl refl refl refl refl

width_spelt : (w : SliceWidth) → Spelt SliceWidth width_value (λ w. word (decimal w.minutes)) w
width_spelt w = let s = width_stands w in record {
  text = decimal w.minutes;
  plain = true;
  is_written = refl;
  stands = s;
  shown = width_shown (decimal w.minutes) w s;
}

pub width_law : (P : Object → Type 0) → StrongLaw P slice_width
width_law P = scalar_law P rules.NotDuration width_value (λ w. word (decimal w.minutes))
    (λ t w e. width_spelt w)

-- MOMENTS

again_from : (m : Civil) (b : Bool) (e : is_moment (parts_of m) ≡ b)
    → civil_from (parts_of m) b e ≡ Some m
again_from m true e =
    ap Some (civil_same (civil_of (parts_of m) (moment_in_range (parts_of m) e)) m refl)
again_from m false e = absurd (true≢false (sym (is_moment-civil m) ∙ e))

moment_stands : (m : Civil) → moment_value (civil_text m) ≡ Ok m
unfolding moment_value civil_read
moment_stands m = ap (found_or rules.NotMoment)
    (ap civil_when (parts_in-civil m) ∙ again_from m (is_moment (parts_of m)) refl)

pub moment_law : (P : Object → Type 0) → StrongLaw P moment
moment_law P = scalar_law P rules.NotMoment moment_value (λ m. quoted (civil_text m))
    (λ t m e. record {
      text = civil_text m;
      plain = false;
      is_written = refl;
      stands = moment_stands m;
      shown = refl;
    })
