-- The starts that count are those of the first numbers, and their minutes fit 32 bits.
use Rattle.std.proofs.Common.{◌≡◌, ◌↔◌, ◌⊎◌, inl, inr, ℕ, zero, suc, ◌+◌, ◌*◌, ◌<◌, ◌≤◌, ◌^◌, ℤ}
use Rattle.std.proofs.Common.{pos, negsuc, unsigned_abs, ◌+ℤ◌, ◌-ℤ◌, ◌*ℤ◌, ◌<ℤ◌, ◌≤ℤ◌, int_lt, Bool}
use Rattle.std.proofs.Common.{true, false, true≢false, Option, Some, None, Result, Ok, Err, List}
use Rattle.std.proofs.Common.{length, map, IsPermutation, refl, sym, subst, ap, ◌∙◌, arith}
use Rattle.std.specs.Prelude.{IfNone, IsOk, IsTrue}
use Rattle.std.specs.Result.{result_ok}
use Rattle.std.specs.Int.{int_div_euclid, int_max, int_min}
use Rattle.std.proofs.lemmas.Bool.Decides.{leb_tells}
use Rattle.std.proofs.lemmas.Int.{by_lt_z, ints}
use Rattle.jiff_core.specs.Calendar.{IsYear, IsWithin}
use Rattle.jiff_core.specs.Date.{epoch_day}
use Rattle.jiff_core.specs.DateTime.{civil_seconds}
use Rattle.jiff_core.specs.declared.civil.date.Date.{Date}
use Rattle.jiff_core.specs.declared.civil.time.Time.{Time}
use Rattle.jiff_core.specs.declared.error.Error.{Error}
use Rattle.jiff_core.proofs.SignedLemmas.{signed_arith}
use Rattle.slo_duration.specs.declared.duration.Duration.{Duration}
use Rattle.std.specs.List.{range_with_len}
use Rattle.std.specs.List.Sorted.{IsNonDecreasing}
use Rattle.std.proofs.lemmas.List.Sorted.{length_permutation}
use Rattle.std.proofs.lemmas.List.FromFn.{length-map-range_with_len}
use Rattle.zone_calendar.specs.Zone.{ZoneText, instant_at}
use Rattle.zone_calendar.specs.Starts.{IsCalendarStep, AreStarts, start_at, year_of_month}
use Rattle.zone_calendar.specs.Starts.{clamped_day, date_after, civil_second, is_counted}
use Rattle.zone_calendar.specs.Moments.{IsMomentOf}
use Rattle.zone_calendar.specs.declared.civil.Civil.{Civil}
use Rattle.zone_calendar.proofs.DateLemmas.{clamped_day-far, date_after-low, date_after-later}

-- a date that the library hasn't lies past every horizon
pub none_is_far : (r : Option Date) (q : Result Date Error) (months : ℤ) (day : ℕ)
    → r ≡ result_ok q → (IsOk q ↔ IsYear (year_of_month months)) → pos 0 ≤ℤ months → 1 ≤ day
    → IfNone r (pos 100_000 ≤ℤ clamped_day months day)
none_is_far (Some date) q months day e succeeds low first = tt
none_is_far None (Ok date) months day e succeeds low first = absurd (cc)
none_is_far None (Err error) months day e succeeds low first =
    by_lt_z (pos 27_588) months (clamped_day-far months day first)
    (λ near. absurd (true≢false
    (sym (succeeds.1 (omega (arith, signed_arith), omega (arith, signed_arith))))))

-- a date at the first's time of day is the moment of its start
pub moment_of_date : (date : Date) (time : Time) (first : Civil) (step : Duration) (k : ℕ)
    → epoch_day date ≡ date_after first step.unit (k * step.count) → time.hour ≡ first.hour
    → time.minute ≡ first.minute → time.second ≡ first.second → time.subsec_nanosecond ≡ 0
    → IsMomentOf first step k (record { date = date; time = time })
unfolding civil_seconds
moment_of_date date time first step k day hour minute second whole = record {
  second = rw (day, hour, minute, second) refl;
  whole = whole;
}

pub near_max : (a b s : ℤ) → IsWithin 93_599 (a -ℤ s) → IsWithin 93_599 (b -ℤ s)
    → IsWithin 93_599 (int_max a b -ℤ s)
near_max a b s near other = grind (arith, ints)

pub near_min : (a b s : ℤ) → IsWithin 93_599 (a -ℤ s) → IsWithin 93_599 (b -ℤ s)
    → IsWithin 93_599 (int_min a b -ℤ s)
near_min a b s near other = grind (arith, ints)

not_below : (a b : ℤ) → b ≤ℤ a → int_lt a b ≡ false
not_below a b le = grind (arith, ints)

pub above : (a b : ℤ) → int_lt a b ≡ false → b ≤ℤ a
above a b test = grind (arith, ints)

pub below_test : (a b : ℤ) → int_lt a b ≡ true → a <ℤ b
below_test a b test = grind (arith, ints)

grows : (k more count : ℕ) → 0 < count → k < more → k * count < more * count
grows k more count some lt = grind arith

stop_by : (a b : ℤ) (time : ℕ) (end : ℤ) → (a <ℤ b) ⊎ (pos 100_000 ≤ℤ b)
    → end ≤ℤ pos 8_640_000_000 → int_lt (a *ℤ pos 86_400 +ℤ pos time) end ≡ false
    → int_lt (b *ℤ pos 86_400 +ℤ pos time) end ≡ false
stop_by a b time end (inl later) near over =
    let at = above (a *ℤ pos 86_400 +ℤ pos time) end over in
    not_below (b *ℤ pos 86_400 +ℤ pos time) end (omega (arith, signed_arith))
stop_by a b time end (inr far) near over =
    not_below (b *ℤ pos 86_400 +ℤ pos time) end (omega (arith, signed_arith))

-- a moment past every horizon doesn't count
pub far_is_not_counted : (first : Civil) (step : Duration) (horizon k : ℕ)
    → horizon < 2 ^ 27 → pos 100_000 ≤ℤ date_after first step.unit (k * step.count)
    → is_counted first step horizon k ≡ false
far_is_not_counted first step horizon k below far = not_below (civil_second first step k)
    (pos ((horizon + 1_560) * 60)) (omega (arith, signed_arith))

-- once a start doesn't count, no later one does
pub stops : (first : Civil) (step : Duration) (horizon : ℕ) → IsCalendarStep step
    → horizon < 2 ^ 27 → (k more : ℕ) → k ≤ more → is_counted first step horizon k ≡ false
    → is_counted first step horizon more ≡ false
stops first step horizon calendar below k more le over =
    elim (leb_tells more k) [
      | inl same ↦ let e : k ≡ more = (let a = same.1 in omega arith) in
          subst (λ (n : ℕ). is_counted first step horizon n ≡ false) e over
      | inr less ↦
          let lt : k < more = (let a = less.1 in omega arith) in
          stop_by (date_after first step.unit (k * step.count))
          (date_after first step.unit (more * step.count)) _ (pos ((horizon + 1_560) * 60))
          (date_after-later first step.unit calendar.unit (k * step.count) (more * step.count)
          (grows k more step.count calendar.some lt))
          (omega (arith, signed_arith)) over
    ]

-- dates lie at least a day apart, up to those past every horizon
abbrev AreApart : ℤ → ℕ → ℤ → Type 0
AreApart a days b = ((a +ℤ pos days) ≤ℤ b) ⊎ (pos 100_000 ≤ℤ b)

one_more : (a b c : ℤ) (days : ℕ) → AreApart a days b → (b <ℤ c) ⊎ (pos 100_000 ≤ℤ c) →
    AreApart a (suc days) c
one_more a b c days (inl apart) (inl later) = inl (omega (arith, signed_arith))
one_more a b c days (inr far) (inl later) = inr (omega (arith, signed_arith))
one_more a b c days before (inr far) = inr far

pub apart : (first : Civil) (step : Duration) → IsCalendarStep step → (k days : ℕ) →
    AreApart (date_after first step.unit (k * step.count)) days
    (date_after first step.unit ((k + days) * step.count))
apart first step calendar k zero =
    let same : (k + zero) * step.count ≡ k * step.count =
    ap (λ (n : ℕ). n * step.count) (omega arith) in
    rw same (inl (omega (arith, signed_arith)))
apart first step calendar k (suc days) =
    one_more _ (date_after first step.unit ((k + days) * step.count)) _ days
    (apart first step calendar k days)
    (date_after-later first step.unit calendar.unit ((k + days) * step.count)
    ((k + suc days) * step.count)
    (grows (k + days) (k + suc days) step.count calendar.some (omega arith)))

-- below a horizon there are fewer starts than 100,000, since there are fewer days
pub few : (first : Civil) (step : Duration) (horizon : ℕ) → IsCalendarStep step →
    horizon < 2 ^ 27 → is_counted first step horizon 100_000 ≡ false
few first step horizon calendar below =
    far_is_not_counted first step horizon 100_000 below
    (far_by (apart first step calendar 0 100_000) (date_after-low first step.unit (0 * step.count)))
  where
    far_by : {a b : ℤ} → AreApart a 100_000 b → pos 31 ≤ℤ a → pos 100_000 ≤ℤ b
    far_by (inl later) low = omega (arith, signed_arith)
    far_by (inr far) low = far

either : (b : Bool) → (b ≡ true) ⊎ (b ≡ false)
either true = inl refl
either false = inr refl

-- where a start counts, each earlier one does
pub counted_up_to : (first : Civil) (step : Duration) (horizon : ℕ) → IsCalendarStep step
    → horizon < 2 ^ 27 → (k more : ℕ) → k ≤ more → is_counted first step horizon more ≡ true
    → is_counted first step horizon k ≡ true
counted_up_to first step horizon calendar below k more le counted =
    elim (either (is_counted first step horizon k)) [
      | inl there ↦ there
      | inr other ↦ absurd (true≢false
          (sym counted ∙ stops first step horizon calendar below k more le other))
    ]

-- all starts up to a number count where that of the number does
pub all_counted : (first : Civil) (step : Duration) (horizon most : ℕ) → IsCalendarStep step
    → horizon < 2 ^ 27 → IsTrue (is_counted first step horizon most)
    ↔ ((k : ℕ) → k ≤ most → IsTrue (is_counted first step horizon k))
all_counted first step horizon most calendar below = (
  λ counted k le. counted_up_to first step horizon calendar below k most le counted,
  λ all. all most (omega arith),
)

-- the starts that count are those below the first that doesn't
pub counted_below : (first : Civil) (step : Duration) (horizon : ℕ) → IsCalendarStep step
    → horizon < 2 ^ 27
    → (count : ℕ) → ((k : ℕ) → k < count → is_counted first step horizon k ≡ true)
    → is_counted first step horizon count ≡ false → (k : ℕ)
    → IsTrue (is_counted first step horizon k) ↔ (k < count)
counted_below first step horizon calendar below count all end k = (
  λ counted. elim (leb_tells count k) [
    | inl past ↦ absurd (true≢false
        (sym counted ∙ stops first step horizon calendar below count k past.1 end))
    | inr before ↦ (let a = before.1 in omega arith)
  ],
  λ lt. all k lt,
)

-- the minute of an instant that is near a start's civil moment fits 32 bits
pub record FitsMinute (minute : ℤ) : Type 0 where
  pub low : pos 0 ≤ℤ minute
  pub high : minute <ℤ pos (2 ^ 32)

pub minute_fits : (instant second : ℤ) (horizon : ℕ) → IsWithin 93_599 (instant -ℤ second)
    → pos 2_678_400 ≤ℤ second → second <ℤ pos ((horizon + 1_560) * 60) → horizon < 2 ^ 27
    → FitsMinute (int_div_euclid instant (pos 60))
minute_fits instant second horizon near low high below = record {
  low = omega (arith, signed_arith);
  high = omega (arith, signed_arith);
}

pub civil_second-low : (first : Civil) (step : Duration) (k : ℕ)
    → pos 2_678_400 ≤ℤ civil_second first step k
civil_second-low first step k =
    omega (arith, signed_arith, date_after-low first step.unit (k * step.count))

-- the minutes of the numbers below the first that doesn't count, in order, are the starts
pub are_starts : (zone : ZoneText) (first : Civil)
    (step : Duration) (horizon count : ℕ) (list : List ℕ) → IsCalendarStep step
    → horizon < 2 ^ 27 → ((k : ℕ) → k < count → is_counted first step horizon k ≡ true)
    → is_counted first step horizon count ≡ false
    → IsPermutation (map (start_at zone first step) (range_with_len 0 count)) list
    → IsNonDecreasing list → AreStarts zone first step horizon list
are_starts zone first step horizon count list calendar below all end made sorted =
    let long : count ≡ length list = sym (length_permutation _ _ made
    ∙ length-map-range_with_len (start_at zone first step) 0 count) in
    record {
      counted = subst (λ (n : ℕ). (k : ℕ) → IsTrue (is_counted first step horizon k) ↔ (k < n)) long
          (counted_below first step horizon calendar below count all end);
      starts = subst (λ (n : ℕ).
          IsPermutation (map (start_at zone first step) (range_with_len 0 n)) list) long made;
      sorted = sorted;
    }

pub unsigned_below : (m : ℤ) (n : ℕ) → pos 0 ≤ℤ m → m <ℤ pos n → unsigned_abs m < n
unsigned_below (pos m) n low high = omega (arith, signed_arith)
unsigned_below (negsuc m) n low high = absurd (omega (arith, signed_arith))

unsigned_least : (m : ℤ) (n : ℕ) → pos n ≤ℤ m → n ≤ unsigned_abs m
unsigned_least (pos m) n low = omega (arith, signed_arith)
unsigned_least (negsuc m) n low = absurd (omega (arith, signed_arith))

minute_later : (instant second : ℤ) (horizon : ℕ) → IsWithin 93_599 (instant -ℤ second)
    → pos ((horizon + 1_560) * 60) ≤ℤ second → pos horizon ≤ℤ int_div_euclid instant (pos 60)
minute_later instant second horizon near late = omega (arith, signed_arith)

-- a start that doesn't count lies at the horizon or after it
pub uncounted_later : (zone : ZoneText) (first : Civil) (step : Duration) (horizon k : ℕ)
    → IsWithin 93_599 (instant_at zone (civil_second first step k) -ℤ civil_second first step k)
    → is_counted first step horizon k ≡ false → horizon ≤ start_at zone first step k
uncounted_later zone first step horizon k near over =
    unsigned_least (int_div_euclid (instant_at zone (civil_second first step k)) (pos 60)) horizon
    (minute_later (instant_at zone (civil_second first step k)) (civil_second first step k) horizon
    near (above (civil_second first step k) (pos ((horizon + 1_560) * 60)) over))
