-- The test of keys tells whether they are one.
use Rattle.std.proofs.Common.{◌≡◌, ◌⊎◌, ◌∙◌, ◌&&◌, ◌||◌, ◌==◌, ℕ, Bool, true, false, List, [], ◌∷◌}
use Rattle.std.proofs.Common.{ap, arith, cond, filter, inl, inr, map, refl, sym}
use Rattle.std.specs.List.{Contains, list_any}
use Rattle.std.specs.Str.{bytes_eq}
use Rattle.std.proofs.lemmas.Bool.{and_parts}
use Rattle.std.proofs.lemmas.Bool.Decides.{nat_tests}
use Rattle.std.proofs.lemmas.Slice.Eq.{bytes_eq-Decides}
use Rattle.exact_fraction.specs.declared.Op.{Op}
use Rattle.exact_fraction.specs.declared.Op.TheVariants.{Gt, Gte, Lt, Lte}
use Rattle.slice_method.specs.declared.Method.{Method}
use Rattle.slice_method.specs.declared.Method.TheVariants.{Occurrences, RatioTimeslices, Timeslices}
use Rattle.slice_method.specs.declared.Reading.{Reading}
use Rattle.slice_method.specs.declared.Reading.TheVariants.{Bad, Good, RawFailure, RawSuccess}
use Rattle.slice_method.specs.declared.Reading.TheVariants.{Threshold}
use Rattle.office_history.specs.declared.Measure.{Measure}
use Rattle.kept_sums.specs.Keys.{is_alike, is_method, op_number, reading_number}
use Rattle.kept_sums.specs.Objectives.{key_by}
use Rattle.kept_sums.proofs.SharedLemmas.{CountAlike, alike}

same-number : (n m : ℕ) → (n == m) ≡ true → n ≡ m
same-number n m h = grind (arith, nat_tests)

number-same : (n : ℕ) → (n == n) ≡ true
number-same n = grind (arith, nat_tests)

same-reading : (a b : Reading) → reading_number a ≡ reading_number b → a ≡ b
same-reading Good Good e = refl
same-reading Good Bad e = cc e
same-reading Good Threshold e = cc e
same-reading Good RawSuccess e = cc e
same-reading Good RawFailure e = cc e
same-reading Bad Good e = cc e
same-reading Bad Bad e = refl
same-reading Bad Threshold e = cc e
same-reading Bad RawSuccess e = cc e
same-reading Bad RawFailure e = cc e
same-reading Threshold Good e = cc e
same-reading Threshold Bad e = cc e
same-reading Threshold Threshold e = refl
same-reading Threshold RawSuccess e = cc e
same-reading Threshold RawFailure e = cc e
same-reading RawSuccess Good e = cc e
same-reading RawSuccess Bad e = cc e
same-reading RawSuccess Threshold e = cc e
same-reading RawSuccess RawSuccess e = refl
same-reading RawSuccess RawFailure e = cc e
same-reading RawFailure Good e = cc e
same-reading RawFailure Bad e = cc e
same-reading RawFailure Threshold e = cc e
same-reading RawFailure RawSuccess e = cc e
same-reading RawFailure RawFailure e = refl

same-op : (a b : Op) → op_number a ≡ op_number b → a ≡ b
same-op Lte Lte e = refl
same-op Lte Gte e = cc e
same-op Lte Lt e = cc e
same-op Lte Gt e = cc e
same-op Gte Lte e = cc e
same-op Gte Gte e = refl
same-op Gte Lt e = cc e
same-op Gte Gt e = cc e
same-op Lt Lte e = cc e
same-op Lt Gte e = cc e
same-op Lt Lt e = refl
same-op Lt Gt e = cc e
same-op Gt Lte e = cc e
same-op Gt Gte e = cc e
same-op Gt Lt e = cc e
same-op Gt Gt e = refl

same-method : (a b : Method) → is_method a b ≡ true → a ≡ b
same-method Occurrences Occurrences e = refl
same-method Occurrences (Timeslices b u) e = cc e
same-method Occurrences (RatioTimeslices b) e = cc e
same-method (Timeslices a t) Occurrences e = cc e
same-method (Timeslices a t) (Timeslices b u) e =
    let parts = and_parts (a == b) (t == u) e in
    (λ i. Timeslices (same-number a b parts.0 i) (same-number t u parts.1 i))
same-method (Timeslices a t) (RatioTimeslices b) e = cc e
same-method (RatioTimeslices a) Occurrences e = cc e
same-method (RatioTimeslices a) (Timeslices b u) e = cc e
same-method (RatioTimeslices a) (RatioTimeslices b) e = ap RatioTimeslices (same-number a b e)

method-same : (a : Method) → is_method a a ≡ true
method-same Occurrences = refl
method-same (Timeslices a t) = (λ i. number-same a i && number-same t i)
method-same (RatioTimeslices a) = number-same a

-- what the test says of the parts
record Parts (a b : Measure) : Type 0 where
  sli : a.sli ≡ b.sli
  reading : a.reading ≡ b.reading
  op : a.op ≡ b.op
  value : a.value ≡ b.value
  method : a.method ≡ b.method

parts-of : (slo sli reading op value method : Bool) →
    (((((slo && sli) && reading) && op) && value) && method) ≡ true →
    (slo ≡ true) × (sli ≡ true) × (reading ≡ true) × (op ≡ true) × (value ≡ true)
    × (method ≡ true)
parts-of true true true true true true e = (refl, refl, refl, refl, refl, refl)
parts-of false sli reading op value method e = cc e
parts-of true false reading op value method e = cc e
parts-of true true false op value method e = cc e
parts-of true true true false value method e = cc e
parts-of true true true true false method e = cc e
parts-of true true true true true false e = cc e

-- where the test holds the keys are one
pub alike-key : (pool : Bool) (a b : Measure) → is_alike pool a b ≡ true
    → key_by pool a ≡ key_by pool b
alike-key pool a b e = by pool told.0
  where
    told : ((pool || bytes_eq a.slo b.slo) ≡ true) × (bytes_eq a.sli b.sli ≡ true)
        × ((reading_number a.reading == reading_number b.reading) ≡ true)
        × ((op_number a.op == op_number b.op) ≡ true) × ((a.value == b.value) ≡ true)
        × (is_method a.method b.method ≡ true)
    told = parts-of (pool || bytes_eq a.slo b.slo) (bytes_eq a.sli b.sli)
        (reading_number a.reading == reading_number b.reading) (op_number a.op == op_number b.op)
        (a.value == b.value) (is_method a.method b.method) e

    parts : Parts a b
    parts = record {
      sli = (bytes_eq-Decides a.sli b.sli).0 told.1;
      reading = same-reading a.reading b.reading
          (same-number (reading_number a.reading) (reading_number b.reading) told.2);
      op = same-op a.op b.op (same-number (op_number a.op) (op_number b.op) told.3);
      value = same-number a.value b.value told.4;
      method = same-method a.method b.method told.5;
    }

    by : (pool : Bool) → (pool || bytes_eq a.slo b.slo) ≡ true → key_by pool a ≡ key_by pool b
    by true h = λ i. record {
      slo = [];
      sli = parts.sli i;
      reading = parts.reading i;
      op = parts.op i;
      value = parts.value i;
      method = parts.method i;
      target = 0;
    }
    by false h = λ i. record {
      slo = (bytes_eq-Decides a.slo b.slo).0 h i;
      sli = parts.sli i;
      reading = parts.reading i;
      op = parts.op i;
      value = parts.value i;
      method = parts.method i;
      target = 0;
    }

-- and where they are one it holds
number-of : (n m : ℕ) → n ≡ m → (n == m) ≡ true
number-of n m e = ap (λ (k : ℕ). n == k) (sym e) ∙ number-same n

all-of : (slo : Bool) (a b : Measure) → slo ≡ true → CountAlike a b →
    (((((slo && bytes_eq a.sli b.sli) && (reading_number a.reading == reading_number b.reading))
    && (op_number a.op == op_number b.op)) && (a.value == b.value)) && is_method a.method b.method)
    ≡ true
all-of slo a b h same =
    let sli = (bytes_eq-Decides a.sli b.sli).1 same.sli in
    let reading = number-of (reading_number a.reading) (reading_number b.reading)
    (ap reading_number same.reading) in
    let op = number-of (op_number a.op) (op_number b.op) (ap op_number same.op) in
    let value = number-of a.value b.value same.value in
    let method : is_method a.method b.method ≡ true =
    ap (is_method a.method) (sym same.method) ∙ method-same a.method in
    (λ i. ((((h i && sli i) && reading i) && op i) && value i) && method i)

pub key-alike : (pool : Bool) (a b : Measure) → key_by pool a ≡ key_by pool b
    → is_alike pool a b ≡ true
key-alike true a b e = all-of true a b refl (alike true a b e)
key-alike false a b e =
    all-of (bytes_eq a.slo b.slo) a b
    ((bytes_eq-Decides a.slo b.slo).1 (ap (λ (m : Measure). m.slo) e)) (alike false a b e)
