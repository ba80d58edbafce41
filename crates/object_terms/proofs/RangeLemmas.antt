-- Values whose range is a fact of their type: each is the one value that stands for what it is made
-- of.
use Rattle.std.proofs.Common.{◌≡◌, ℕ, ◌<◌, ◌≤◌, Bool, true, false, Option, Some, None, refl, sym}
use Rattle.std.proofs.Common.{ap, subst, true≢false}
use Rattle.std.specs.Prelude.{◌%◌, ◌==◌, ◌&&◌, nat_lt, nat_le}
use Rattle.std.specs.Int.{◌∣◌}
use Rattle.std.proofs.Math.Path.{to_path_p}
use Rattle.std.proofs.Math.Nat.{mod-eq-zero_of_dvd}
use Rattle.std.proofs.Props.{props}
use Rattle.std.proofs.lemmas.Bool.{and_from, eq-eqb, le-leb, lt-ltb}
use Rattle.slo_duration.specs.Minutes.{minutes_of}
use Rattle.slo_duration.specs.declared.duration.Duration.{Duration}
use Rattle.slo_limits.specs.declared.TheConstants.{MAX_LOOKBACK, MAX_THRESHOLD, MAX_WINDOW, WHOLE}
use Rattle.object_terms.specs.declared.ranges.AlertAfter.{AlertAfter}
use Rattle.object_terms.specs.declared.ranges.Lookback.{Lookback}
use Rattle.object_terms.specs.declared.ranges.SliceTarget.{SliceTarget}
use Rattle.object_terms.specs.declared.ranges.SliceWidth.{SliceWidth}
use Rattle.object_terms.specs.declared.ranges.Target.{Target}
use Rattle.object_terms.specs.declared.ranges.Threshold.{Threshold}
use Rattle.object_terms.specs.declared.ranges.WindowLength.{WindowLength}
use Rattle.object_terms.specs.Ranges.{Range, made_where, every_number, target_range}
use Rattle.object_terms.specs.Ranges.{slice_target_range, width_range, threshold_range}
use Rattle.object_terms.specs.Ranges.{lookback_range, wait_range, window_range}

-- What is known of a range: a value of it is made again of what it stands for, and stands for what
-- it was made of.
pub record IsRange {A B : Type 0} (range : Range B A) : Type 0 where
  pub again : (a : A) → range.in_range (range.value a) ≡ Some a
  pub stands : (b : B) (a : A) → range.in_range b ≡ Some a → range.value a ≡ b

some_same : {A : Type 0} (x y : A) → (let o : Option A = Some x in o) ≡ Some y → x ≡ y
some_same x y e = cc

none_some : {A Q : Type 0} (x : A) → (let o : Option A = None in o) ≡ Some x → Q
none_some x e = absurd (let f : ⊥ = cc in f)

again_where : {A : Type 0} (test : Bool) (made : test ≡ true → A) (a : A)
    → ((e : test ≡ true) → made e ≡ a) → test ≡ true → made_where test made ≡ Some a
again_where true made a same e = ap Some (same refl)
again_where false made a same e = absurd (true≢false (sym e))

pub none_where : {A : Type 0} (test : Bool) (made : test ≡ true → A) → test ≡ false
    → made_where test made ≡ None
none_where true made e = absurd (true≢false e)
none_where false made e = refl

stands_where : {A B : Type 0} (value : A → B) (test : Bool) (made : test ≡ true → A) (b : B)
    → ((e : test ≡ true) → value (made e) ≡ b) → (a : A) → made_where test made ≡ Some a
    → value a ≡ b
stands_where value true made b is a e =
    subst (λ z. value z ≡ b) (some_same (made refl) a e) (is refl)
stands_where value false made b is a e = none_some a e

-- a value and its fact are one with another value and its fact where the values are one
one_made : {A B : Type 0} (Fact : B → Type 0) → ((b : B) → IsProp (Fact b))
    → (made : (b : B) → Fact b → A) (x y : B) (f : Fact x) (g : Fact y) → x ≡ y
    → made x f ≡ made y g
one_made Fact once made x y f g e = let h = to_path_p (λ i. Fact (e i)) (once y _ g) in
    λ i. made (e i) (h i)

-- a number above none, and at most this
abbrev Between : ℕ → ℕ → Type 0
Between most n = (0 < n) × (n ≤ most)

between_test : (most n : ℕ) → Between most n → (nat_lt 0 n && nat_le n most) ≡ true
between_test most n (some, within) =
    and_from (nat_lt 0 n) (nat_le n most) (lt-ltb 0 n some) (le-leb n most within)

pub every_number_is : IsRange every_number
every_number_is = record { again = λ n. refl; stands = λ b a e. sym (some_same b a e) }

-- RATIOS

abbrev made_target : (ratio : ℕ) → ratio < WHOLE → Target
made_target ratio fact = record { ratio = ratio; below_one = fact }

target_same : (a b : Target) → a.ratio ≡ b.ratio → a ≡ b
target_same a b e = one_made (λ n. n < WHOLE) (λ n. hlevel props) made_target a.ratio b.ratio
    a.below_one b.below_one e

pub target_is : IsRange target_range
target_is = record {
  again = λ t. again_where (nat_lt t.ratio WHOLE) _ t (λ e. target_same _ t refl)
      (lt-ltb t.ratio WHOLE t.below_one);
  stands = λ n t e. stands_where (λ (a : Target). a.ratio) (nat_lt n WHOLE) _ n (λ h. refl) t e;
}

abbrev made_slice_target : (ratio : ℕ) → Between WHOLE ratio → SliceTarget
made_slice_target ratio fact = record { ratio = ratio; some = fact.0; within_one = fact.1 }

slice_target_same : (a b : SliceTarget) → a.ratio ≡ b.ratio → a ≡ b
slice_target_same a b e = one_made (λ n. Between WHOLE n) (λ n. hlevel props) made_slice_target
    a.ratio b.ratio (a.some, a.within_one) (b.some, b.within_one) e

pub slice_target_is : IsRange slice_target_range
slice_target_is = record {
  again = λ t. again_where (nat_lt 0 t.ratio && nat_le t.ratio WHOLE) _ t
      (λ e. slice_target_same _ t refl) (between_test WHOLE t.ratio (t.some, t.within_one));
  stands = λ n t e. stands_where (λ (a : SliceTarget). a.ratio)
      (nat_lt 0 n && nat_le n WHOLE) _ n (λ h. refl) t e;
}

abbrev made_threshold : (rate : ℕ) → rate ≤ MAX_THRESHOLD → Threshold
made_threshold rate fact = record { rate = rate; fits = fact }

threshold_same : (a b : Threshold) → a.rate ≡ b.rate → a ≡ b
threshold_same a b e = one_made (λ n. n ≤ MAX_THRESHOLD) (λ n. hlevel props) made_threshold a.rate
    b.rate a.fits b.fits e

pub threshold_is : IsRange threshold_range
threshold_is = record {
  again = λ t. again_where (nat_le t.rate MAX_THRESHOLD) _ t (λ e. threshold_same _ t refl)
      (le-leb t.rate MAX_THRESHOLD t.fits);
  stands = λ n t e. stands_where (λ (a : Threshold). a.rate) (nat_le n MAX_THRESHOLD) _ n
      (λ h. refl) t e;
}

-- WIDTHS

abbrev IsWidth : ℕ → Type 0
IsWidth minutes = (0 < minutes) × (minutes ∣ 60)

abbrev made_width : (minutes : ℕ) → IsWidth minutes → SliceWidth
made_width minutes fact = record { minutes = minutes; some = fact.0; divides = fact.1 }

width_same : (a b : SliceWidth) → a.minutes ≡ b.minutes → a ≡ b
width_same a b e = one_made IsWidth (λ n. hlevel props) made_width a.minutes b.minutes
    (a.some, a.divides) (b.some, b.divides) e

pub width_is : IsRange width_range
width_is = record {
  again = λ w. again_where (nat_lt 0 w.minutes && (60 % w.minutes == 0)) _ w
      (λ e. width_same _ w refl) (and_from (nat_lt 0 w.minutes) (60 % w.minutes == 0)
      (lt-ltb 0 w.minutes w.some)
      (eq-eqb (60 % w.minutes) 0 (mod-eq-zero_of_dvd w.minutes w.divides)));
  stands = λ n w e. stands_where (λ (a : SliceWidth). a.minutes)
      (nat_lt 0 n && (60 % n == 0)) _ n (λ h. refl) w e;
}

-- SPANS

abbrev made_lookback : (span : Duration) → Between MAX_LOOKBACK (minutes_of span) → Lookback
made_lookback span fact = record { span = span; some = fact.0; short = fact.1 }

lookback_same : (a b : Lookback) → a.span ≡ b.span → a ≡ b
lookback_same a b e = one_made (λ d. Between MAX_LOOKBACK (minutes_of d))
    (λ d. hlevel props) made_lookback a.span b.span (a.some, a.short) (b.some, b.short) e

pub lookback_is : IsRange lookback_range
lookback_is = record {
  again = λ l. again_where (nat_lt 0 (minutes_of l.span) && nat_le (minutes_of l.span) MAX_LOOKBACK)
      _ l (λ e. lookback_same _ l refl)
      (between_test MAX_LOOKBACK (minutes_of l.span) (l.some, l.short));
  stands = λ d l e. stands_where (λ (a : Lookback). a.span)
      (nat_lt 0 (minutes_of d) && nat_le (minutes_of d) MAX_LOOKBACK) _ d (λ h. refl) l e;
}

abbrev made_wait : (span : Duration) → minutes_of span ≤ MAX_LOOKBACK → AlertAfter
made_wait span fact = record { span = span; short = fact }

wait_same : (a b : AlertAfter) → a.span ≡ b.span → a ≡ b
wait_same a b e = one_made (λ d. minutes_of d ≤ MAX_LOOKBACK) (λ d. hlevel props) made_wait a.span
    b.span a.short b.short e

pub wait_is : IsRange wait_range
wait_is = record {
  again = λ a. again_where (nat_le (minutes_of a.span) MAX_LOOKBACK) _ a (λ e. wait_same _ a refl)
      (le-leb (minutes_of a.span) MAX_LOOKBACK a.short);
  stands = λ d a e. stands_where (λ (b : AlertAfter). b.span)
      (nat_le (minutes_of d) MAX_LOOKBACK) _ d (λ h. refl) a e;
}

abbrev made_length : (span : Duration) → Between MAX_WINDOW (minutes_of span) → WindowLength
made_length span fact = record { span = span; some = fact.0; short = fact.1 }

length_same : (a b : WindowLength) → a.span ≡ b.span → a ≡ b
length_same a b e = one_made (λ d. Between MAX_WINDOW (minutes_of d))
    (λ d. hlevel props) made_length a.span b.span (a.some, a.short) (b.some, b.short) e

pub window_is : IsRange window_range
window_is = record {
  again = λ w. again_where (nat_lt 0 (minutes_of w.span) && nat_le (minutes_of w.span) MAX_WINDOW)
      _ w (λ e. length_same _ w refl)
      (between_test MAX_WINDOW (minutes_of w.span) (w.some, w.short));
  stands = λ d w e. stands_where (λ (a : WindowLength). a.span)
      (nat_lt 0 (minutes_of d) && nat_le (minutes_of d) MAX_WINDOW) _ d (λ h. refl) w e;
}
