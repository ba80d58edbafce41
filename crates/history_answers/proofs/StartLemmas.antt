-- Starts of a calendar, looked for from the last one on, and by halves.
use Rattle.std.proofs.Common.{◌≡◌, ◌∙◌, ◌+◌, ◌-◌, ◌*◌, ◌^◌, ◌<◌, ◌≤◌, ◌-ℤ◌, ℕ, ℤ, pos, true}
use Rattle.std.proofs.Common.{List, [], ◌∷◌}
use Rattle.std.proofs.Common.{◌++◌, reverse, Option, Some, None, ap, subst, sym, inl, inr, arith}
use Rattle.std.proofs.Common.{cond, false}
use Rattle.std.specs.Prelude.{option_and_then}
use Rattle.std.specs.Str.{bytes_eq}
use Rattle.std.proofs.lemmas.Bool.{cases_lt}
use Rattle.std.proofs.lemmas.List.{reverse-append}
use Rattle.jiff_core.specs.Calendar.{IsWithin}
use Rattle.slo_duration.specs.declared.Duration.{Duration}
use Rattle.zone_calendar.specs.declared.Civil.{Civil}
use Rattle.zone_calendar.specs.Starts.{civil_second, is_counted, start_at}
use Rattle.zone_calendar.specs.Window.{IsLastStart}
use Rattle.zone_calendar.specs.Zone.{ZoneText, instant_at, utc_text}
use Rattle.zone_calendar.specs.ZoneBytes.{zone_of}
use Rattle.zone_calendar.proofs.StartLemmas.{below_test, civil_second-low, minute_fits}
use Rattle.zone_calendar.proofs.StartLemmas.{unsigned_below}
use Rattle.object_terms.specs.declared.window.Calendar.{Calendar}
use Rattle.object_terms.specs.declared.window.TimeWindow.{TimeWindow}
use Rattle.office_history.specs.Answers.{counted_until}
use Rattle.office_history.specs.Windows.{AreStartsIn, IsFirstFrom, IsStart, IsStartBy, IsStartIn}
use Rattle.office_history.specs.Zones.{bytes_named, utc, zone_named}
use Rattle.history_answers.specs.Starts.{AreBegun, AreOpen, IsLastFrom}

-- WHAT THE LAST START SAYS

not_behind : (zone : ZoneText) (calendar : Calendar) (step : Duration) (horizon at start s : ℕ)
    → IsLastStart zone calendar.start_time step horizon at (Some start)
    → IsStartIn (Some zone) calendar step horizon s → s ≤ at → s ≤ start
not_behind zone calendar step horizon at start s last is below =
    subst (λ n. n ≤ start) (sym is.2)
    (last.above is.0 is.1 (subst (λ n. n ≤ at) is.2 below))

pub last_there : (zone : ZoneText) (calendar : Calendar) (step : Duration)
    (horizon from at start : ℕ)
    → IsLastStart zone calendar.start_time step horizon at (Some start) → from ≤ start
    → IsLastFrom (IsStartIn (Some zone) calendar step horizon) from at (Some start)
last_there zone calendar step horizon from at start last later = (
  (last.number, last.has, last.is_value),
  later,
  last.begun,
  λ s is below. not_behind zone calendar step horizon at start s last is below,
)

pub last_before : (zone : ZoneText) (calendar : Calendar) (step : Duration)
    (horizon from at start : ℕ)
    → IsLastStart zone calendar.start_time step horizon at (Some start) → start < from
    → IsLastFrom (IsStartIn (Some zone) calendar step horizon) from at None
last_before zone calendar step horizon from at start last before = λ s is later.
    elim (cases_lt at s) [
      | inl lt ↦ lt
      | inr le ↦ absurd (omega (
        arith,
        not_behind zone calendar step horizon at start s last is le,
        later,
        before,
      ))
    ]

pub last_nowhere : (zone : ZoneText) (calendar : Calendar) (step : Duration) (horizon from at : ℕ)
    → IsLastStart zone calendar.start_time step horizon at None
    → IsLastFrom (IsStartIn (Some zone) calendar step horizon) from at None
last_nowhere zone calendar step horizon from at none = λ s is later.
    subst (λ n. at < n) (sym is.2) (none is.0 is.1)

-- STARTS ARE NUMBERS OF 32 BITS

start_below : (zone : ZoneText) (first : Civil) (step : Duration) (horizon k : ℕ)
    → IsWithin 93_599
    (instant_at zone (civil_second first step k) -ℤ civil_second first step k)
    → is_counted first step horizon k ≡ true → horizon < 2 ^ 27
    → start_at zone first step k < 2 ^ 32
start_below zone first step horizon k near counted below =
    let second = civil_second first step k in
    let fits = minute_fits (instant_at zone second) second horizon near
    (civil_second-low first step k) (below_test second (pos ((horizon + 1_560) * 60)) counted)
    below in
    unsigned_below _ (2 ^ 32) fits.low fits.high

-- where no number of 32 bits from a minute on is a start, there is none from there on
pub nowhere_from : (zone : ZoneText) (calendar : Calendar) (step : Duration) (horizon from : ℕ)
    → ((second : ℤ) → IsWithin 93_599 (instant_at zone second -ℤ second)) → horizon < 2 ^ 27
    → IsLastFrom (IsStartIn (Some zone) calendar step horizon) from 4_294_967_295 None
    → IsFirstFrom (IsStartIn (Some zone) calendar step horizon) from None
nowhere_from zone calendar step horizon from near below none = λ s is.
    let small : s < 2 ^ 32 = subst (λ n. n < 2 ^ 32) (sym is.2)
    (start_below zone calendar.start_time step horizon is.0
    (near (civil_second calendar.start_time step is.0)) is.1 below) in
    elim (cases_lt s from) [
      | inl lt ↦ lt
      | inr le ↦ absurd (omega (arith, none s is le, small))
    ]

-- FROM THE LAST START ON

-- where no start lies between, starts from the one minute on are those from the other
pub lower : (Starts : ℕ → Type 0) (low high to : ℕ) (list : List ℕ) → low ≤ high
    → ((s : ℕ) → Starts s → low ≤ s → high ≤ s) → AreStartsIn Starts high to list
    → AreStartsIn Starts low to list
lower Starts low high to [] le up are = λ s is later. are s is (up s is later)
lower Starts low high to (b ∷ bs) le up are = (
  (are.0.0, omega (arith, le, are.0.1), λ s is later. are.0.2 s is (up s is later)),
  are.1,
  are.2,
)

-- one start more, before those that were found
pub one_before : (Starts : ℕ → Type 0) (from to end start : ℕ) (found more : List ℕ)
    → more ≡ found ++ start ∷ [] → IsLastFrom Starts from (end - 1) (Some start) → from < end
    → end ≤ to → AreStartsIn Starts end to (reverse found)
    → AreStartsIn Starts start to (reverse more)
one_before Starts from to end start found more is last some short are =
    subst (AreStartsIn Starts start to)
    (sym (ap reverse is ∙ reverse-append found (start ∷ []))) (
      (last.0, omega arith, λ s there later. later),
      omega (arith, last.2, some, short),
      lower Starts (start + 1) end to (reverse found) (omega (arith, last.2, some)) behind are,
    )
  where
    behind : (s : ℕ) → Starts s → start + 1 ≤ s → end ≤ s
    behind s there later = elim (cases_lt (end - 1) s) [
      | inl lt ↦ omega (arith, lt)
      | inr le ↦ absurd (omega (arith, last.3 s there le, later))
    ]

-- no start more
pub none_before : (Starts : ℕ → Type 0) (from to end : ℕ) (found : List ℕ)
    → IsLastFrom Starts from (end - 1) None → from < end
    → AreStartsIn Starts end to (reverse found) → AreStartsIn Starts from to (reverse found)
none_before Starts from to end found none some are =
    lower Starts from end to (reverse found) (omega (arith, some))
    (λ s is later. omega (arith, none s is later, some)) are

-- no start at all
pub none_yet : (Starts : ℕ → Type 0) (to : ℕ) → AreStartsIn Starts to to []
none_yet Starts to = λ s is later. later

-- EACH WINDOW BEGINS BEFORE IT IS COUNTED UP TO

counted_on : (moment b end : ℕ) → b ≤ moment → b ≤ end → b ≤ counted_until moment (Some end)
counted_on moment b end now later = omega (arith, now, later)

pub are_open : (Starts : ℕ → Type 0) (from to moment : ℕ) (starts : List ℕ) (next : Option ℕ)
    → AreStartsIn Starts from to starts → IsFirstFrom Starts to next → to ≤ moment
    → AreOpen moment starts next
are_open Starts from to moment [] next are first over = tt
are_open Starts from to moment (b ∷ []) None are first over = (omega (arith, are.1, over), tt)
are_open Starts from to moment (b ∷ []) (Some end) are first over = (
  counted_on moment b end (omega (arith, are.1, over)) (omega (arith, are.1, first.1)),
  tt,
)
are_open Starts from to moment (b ∷ c ∷ bs) next are first over = (
  counted_on moment b c (omega (arith, are.1, over)) (omega (arith, are.2.0.1)),
  are_open Starts (b + 1) to moment (c ∷ bs) next are.2 first over,
)

-- NO STARTS

no_starts : (Starts : ℕ → Type 0) (from to : ℕ) (starts : List ℕ) (next : Option ℕ)
    → ((s : ℕ) → Starts s → ⊥) → starts ≡ [] → next ≡ None → AreBegun Starts from to starts next
no_starts Starts from to starts next none empty last =
    subst (λ (n : Option ℕ). AreBegun Starts from to starts n) (sym last)
    (subst (λ (list : List ℕ). AreBegun Starts from to list None) (sym empty) (record {
      starts_are = λ s is later. absurd (none s is);
      next_is = λ s is. absurd (none s is);
    }))

pub no_zone : (zones : List (List ℕ × List ℕ)) (calendar : Calendar) (step : Duration)
    (horizon from to : ℕ) (starts : List ℕ) (next : Option ℕ)
    → bytes_eq calendar.time_zone utc ≡ false
    → option_and_then zone_of (bytes_named zones calendar.time_zone) ≡ None → starts ≡ []
    → next ≡ None
    → AreBegun (IsStartIn (zone_named zones calendar.time_zone) calendar step horizon) from to
    starts next
no_zone zones calendar step horizon from to starts next other none empty last =
    subst (λ (zone : Option ZoneText). AreBegun (IsStartIn zone calendar step horizon) from to
    starts next) (λ i. cond (sym other i) (Some utc_text) (sym none i))
    (no_starts (IsStartIn None calendar step horizon) from to starts next (λ s is. is) empty last)

pub no_calendar : (zones : List (List ℕ × List ℕ)) (window : TimeWindow)
    (horizon from to : ℕ) (starts : List ℕ) (next : Option ℕ) → window.calendar ≡ None
    → starts ≡ [] → next ≡ None → AreBegun (IsStart zones window horizon) from to starts next
no_calendar zones window horizon from to starts next rolling empty last =
    subst (λ (calendar : Option Calendar).
    AreBegun (IsStartBy zones window.duration.span horizon calendar) from to starts next)
    (sym rolling)
    (no_starts (IsStartBy zones window.duration.span horizon None) from to starts next
    (λ s is. is) empty last)
