-- The values of documents whose range is a fact of their type (OpenSLO v1, SLO and AlertCondition).
-- Ratios and rates are in billionths, times in minutes.
use Rattle.std.specs.Prelude.{◌≡◌, ℕ, ◌%◌, ◌==◌, Bool, true, false, ◌&&◌, nat_lt, nat_le, Option}
use Rattle.std.specs.Prelude.{Some, None, refl}
use Rattle.std.proofs.Math.Nat.{dvd_of_mod-eq-zero}
use Rattle.std.proofs.lemmas.Bool.{and_parts, eqb-true, leb-true, ltb-true}
use Rattle.slo_duration.specs.Minutes.{minutes_of}
use Rattle.slo_duration.specs.declared.duration.Duration.{Duration}
use Rattle.slo_limits.specs.declared.TheConstants.{MAX_LOOKBACK, MAX_THRESHOLD, MAX_WINDOW, WHOLE}
use Rattle.object_terms.specs.declared.ranges.AlertAfter.{AlertAfter}
use Rattle.object_terms.specs.declared.ranges.Lookback.{Lookback}
use Rattle.object_terms.specs.declared.ranges.SliceTarget.{SliceTarget}
use Rattle.object_terms.specs.declared.ranges.SliceWidth.{SliceWidth}
use Rattle.object_terms.specs.declared.ranges.Target.{Target}
use Rattle.object_terms.specs.declared.ranges.Threshold.{Threshold}
use Rattle.object_terms.specs.declared.ranges.WindowLength.{WindowLength}

-- A range: what stands for a value of another type, where that value is in the range; and the
-- value that it stands for.
pub record Range (B : Type 0) (A : Type 0) : Type 0 where
  pub in_range : B → Option A
  pub value : A → B

-- what is made where a test holds
abbrev pub made_where : {A : Type 0} (test : Bool) → (test ≡ true → A) → Option A
made_where true made = Some (made refl)
made_where false made = None

-- all numbers
abbrev pub every_number : Range ℕ ℕ
every_number = record { in_range = λ n. Some n; value = λ n. n }

-- a target is a ratio below one
abbrev pub target_in : ℕ → Option Target
target_in ratio = made_where (nat_lt ratio WHOLE)
    (λ e. record { ratio = ratio; below_one = ltb-true ratio WHOLE e })

abbrev pub target_range : Range ℕ Target
target_range = record { in_range = target_in; value = λ t. t.ratio }

-- a slice is good from a ratio on that is above zero and at most one
abbrev pub slice_target_in : ℕ → Option SliceTarget
slice_target_in ratio = made_where (nat_lt 0 ratio && nat_le ratio WHOLE) (λ e.
    let tests = and_parts (nat_lt 0 ratio) (nat_le ratio WHOLE) e in record {
      ratio = ratio;
      some = ltb-true 0 ratio tests.0;
      within_one = leb-true ratio WHOLE tests.1;
    })

abbrev pub slice_target_range : Range ℕ SliceTarget
slice_target_range = record { in_range = slice_target_in; value = λ t. t.ratio }

-- a slice lasts at least a minute, and so many of them are an hour
abbrev pub width_in : ℕ → Option SliceWidth
width_in minutes = made_where (nat_lt 0 minutes && (60 % minutes == 0)) (λ e.
    let tests = and_parts (nat_lt 0 minutes) (60 % minutes == 0) e in record {
      minutes = minutes;
      some = ltb-true 0 minutes tests.0;
      divides = dvd_of_mod-eq-zero minutes (eqb-true (60 % minutes) 0 tests.1);
    })

abbrev pub width_range : Range ℕ SliceWidth
width_range = record { in_range = width_in; value = λ w. w.minutes }

-- a threshold is at most 10,000
abbrev pub threshold_in : ℕ → Option Threshold
threshold_in rate = made_where (nat_le rate MAX_THRESHOLD)
    (λ e. record { rate = rate; fits = leb-true rate MAX_THRESHOLD e })

abbrev pub threshold_range : Range ℕ Threshold
threshold_range = record { in_range = threshold_in; value = λ t. t.rate }

-- a lookback lasts at least a minute and at most 30 days
abbrev pub lookback_in : Duration → Option Lookback
lookback_in span = made_where (nat_lt 0 (minutes_of span) && nat_le (minutes_of span) MAX_LOOKBACK)
    (λ e. let tests = and_parts (nat_lt 0 (minutes_of span))
    (nat_le (minutes_of span) MAX_LOOKBACK) e in record {
      span = span;
      some = ltb-true 0 (minutes_of span) tests.0;
      short = leb-true (minutes_of span) MAX_LOOKBACK tests.1;
    })

abbrev pub lookback_range : Range Duration Lookback
lookback_range = record { in_range = lookback_in; value = λ l. l.span }

-- an alert waits at most 30 days
abbrev pub wait_in : Duration → Option AlertAfter
wait_in span = made_where (nat_le (minutes_of span) MAX_LOOKBACK)
    (λ e. record { span = span; short = leb-true (minutes_of span) MAX_LOOKBACK e })

abbrev pub wait_range : Range Duration AlertAfter
wait_range = record { in_range = wait_in; value = λ a. a.span }

-- a window lasts at least a minute and at most 366 days
abbrev pub window_length_in : Duration → Option WindowLength
window_length_in span =
    made_where (nat_lt 0 (minutes_of span) && nat_le (minutes_of span) MAX_WINDOW)
    (λ e. let tests = and_parts (nat_lt 0 (minutes_of span))
    (nat_le (minutes_of span) MAX_WINDOW) e in record {
      span = span;
      some = ltb-true 0 (minutes_of span) tests.0;
      short = leb-true (minutes_of span) MAX_WINDOW tests.1;
    })

abbrev pub window_range : Range Duration WindowLength
window_range = record { in_range = window_length_in; value = λ w. w.span }
