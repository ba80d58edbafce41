-- The last start at a minute is that of the list of starts.
use Rattle.std.proofs.Common.{◌≡◌, ◌↔◌, ℕ, ◌<◌, ◌≤◌, true, List, length, map, Option, Some, None}
use Rattle.std.proofs.Common.{sym, subst, ◌∙◌, arith}
use Rattle.std.specs.Prelude.{All, Contains}
use Rattle.std.specs.List.{range_with_len}
use Rattle.std.proofs.lemmas.List.Elements.{All-contains, Contains-get_or}
use Rattle.std.proofs.lemmas.List.Sorted.{Contains-permutation, IsPermutation-sym}
use Rattle.std.proofs.lemmas.List.FromFn.{get_or-map-range_with_len, length-map-range_with_len}
use Rattle.slo_duration.specs.declared.duration.Duration.{Duration}
use Rattle.zone_calendar.specs.Zone.{ZoneText}
use Rattle.zone_calendar.specs.Starts.{AreStarts, is_counted, start_at}
use Rattle.zone_calendar.specs.Window.{IsLastOf, IsLastStart}
use Rattle.zone_calendar.specs.declared.civil.Civil.{Civil}

-- a value of a function of the first numbers is in the list of them
among : (f : ℕ → ℕ) (n k : ℕ) → k < n → Contains (map f (range_with_len 0 n)) (f k)
among f n k lt =
    let long = length-map-range_with_len f 0 n in
    (k, omega arith, get_or-map-range_with_len f 0 n k k (f k) lt (omega arith))

-- each of that list is one
of_number : (f : ℕ → ℕ) (n x : ℕ) → Contains (map f (range_with_len 0 n)) x →
    (k : ℕ) × (k < n) × (x ≡ f k)
of_number f n x is =
    let long = length-map-range_with_len f 0 n in
    let within : is.0 < n = omega (arith, is.1) in (
      is.0,
      within,
      sym is.2 ∙ get_or-map-range_with_len f 0 n is.0 is.0 x within (omega arith),
    )

-- a start that counts is in the list of starts
listed : (zone : ZoneText) (first : Civil) (step : Duration) (horizon : ℕ) (list : List ℕ) →
    AreStarts zone first step horizon list → (k : ℕ) → is_counted first step horizon k ≡ true →
    Contains list (start_at zone first step k)
listed zone first step horizon list starts k counted =
    Contains-permutation _ list _ starts.starts
    (among (start_at zone first step) (length list) k ((starts.counted k).0 counted))

-- each of the list is a start that counts
numbered : (zone : ZoneText) (first : Civil) (step : Duration) (horizon : ℕ) (list : List ℕ) →
    AreStarts zone first step horizon list → (start : ℕ) → Contains list start →
    (k : ℕ) × (is_counted first step horizon k ≡ true) × (start ≡ start_at zone first step k)
numbered zone first step horizon list starts start is =
    let number = of_number (start_at zone first step) (length list) start
    (Contains-permutation list _ start (IsPermutation-sym _ list starts.starts) is) in
    (number.0, (starts.counted number.0).1 number.1, number.2)

-- what each start that counts has, each of the list has
all_listed : (zone : ZoneText) (first : Civil) (step : Duration) (horizon : ℕ) (list : List ℕ) →
    AreStarts zone first step horizon list → (P : ℕ → Type 0) →
    ((k : ℕ) → is_counted first step horizon k ≡ true → P (start_at zone first step k)) →
    All P list
all_listed zone first step horizon list starts P each = λ i d within.
    let number = numbered zone first step horizon list starts _ (Contains-get_or list i d within) in
    subst P (sym number.2) (each number.0 number.1)

in_list : (zone : ZoneText) (first : Civil) (step : Duration) (horizon minute : ℕ) (list : List ℕ)
    (start : Option ℕ) → AreStarts zone first step horizon list →
    IsLastStart zone first step horizon minute start → IsLastOf list minute start
in_list zone first step horizon minute list None starts none =
    all_listed zone first step horizon list starts (λ x. minute < x) none
in_list zone first step horizon minute list (Some start) starts last = record {
  is_start = subst (Contains list) (sym last.is_value)
      (listed zone first step horizon list starts last.number last.has);
  begun = last.begun;
  greatest = all_listed zone first step horizon list starts (λ x. x ≤ minute → x ≤ start)
      last.above;
}

of_all : (zone : ZoneText) (first : Civil) (step : Duration) (horizon minute : ℕ) (list : List ℕ)
    (start : Option ℕ) → AreStarts zone first step horizon list →
    IsLastOf list minute start → IsLastStart zone first step horizon minute start
of_all zone first step horizon minute list None starts none = λ k counted.
    All-contains (λ x. minute < x) list _ none
    (listed zone first step horizon list starts k counted)
of_all zone first step horizon minute list (Some start) starts last =
    let number = numbered zone first step horizon list starts start last.is_start in
    record {
      number = number.0;
      has = number.1;
      is_value = number.2;
      begun = last.begun;
      above = λ k counted. All-contains (λ x. x ≤ minute → x ≤ start) list _ last.greatest
          (listed zone first step horizon list starts k counted);
    }

-- the last start is that of the list
pub of_list : (zone : ZoneText) (first : Civil) (step : Duration) (horizon minute : ℕ)
    (list : List ℕ) (start : Option ℕ) → AreStarts zone first step horizon list →
    IsLastStart zone first step horizon minute start ↔ IsLastOf list minute start
of_list zone first step horizon minute list start starts = (
  in_list zone first step horizon minute list start starts,
  of_all zone first step horizon minute list start starts,
)
