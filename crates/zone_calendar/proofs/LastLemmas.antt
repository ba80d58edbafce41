-- The last start is one of the last six that may have begun.
use Rattle.std.proofs.Common.{◌≡◌, ◌⊎◌, inl, inr, ℕ, ◌+◌, ◌-◌, ◌*◌, ◌<◌, ◌≤◌, ◌^◌, min, max, ℤ, pos}
use Rattle.std.proofs.Common.{negsuc, unsigned_abs, ◌+ℤ◌, ◌-ℤ◌, ◌*ℤ◌, ◌<ℤ◌, ◌≤ℤ◌, int_lt, true}
use Rattle.std.proofs.Common.{false, true≢false, Option, Some, None, refl, sym, subst, ap, ◌∙◌}
use Rattle.std.proofs.Common.{arith}
use Rattle.std.specs.Prelude.{unwrap_or}
use Rattle.std.specs.Int.{int_div_euclid}
use Rattle.std.proofs.lemmas.Bool.{cases_lt}
use Rattle.std.proofs.lemmas.Int.{ints}
use Rattle.jiff_core.specs.Calendar.{IsWithin}
use Rattle.jiff_core.proofs.SignedLemmas.{signed_arith}
use Rattle.slo_duration.specs.declared.duration.Duration.{Duration}
use Rattle.zone_calendar.specs.Zone.{ZoneText, instant_at}
use Rattle.zone_calendar.specs.Starts.{IsCalendarStep, start_at, date_after, civil_second}
use Rattle.zone_calendar.specs.Starts.{is_counted}
use Rattle.zone_calendar.specs.Window.{IsLast, IsLastStart, IsLastAmong}
use Rattle.zone_calendar.specs.declared.civil.Civil.{Civil}
use Rattle.zone_calendar.proofs.StartLemmas.{apart, below_test, civil_second-low, stops}

-- what is after the minute leaves the last one of those before
pub last_kept : (value : ℕ → ℕ) (minute from k : ℕ) (last : Option ℕ) → minute < value k →
    IsLast (λ n. (from ≤ n) × (n < k)) value minute last →
    IsLast (λ n. (from ≤ n) × (n < k + 1)) value minute last
last_kept value minute from k None late is = λ n has. elim (cases_lt n k) [
  | inl lt ↦ is n (has.0, lt)
  | inr le ↦ let e : k ≡ n = (let a = has.1 in omega arith) in
      subst (λ (n : ℕ). minute < value n) e late
]
last_kept value minute from k (Some greatest) late is = record {
  number = is.number;
  has = (is.has.0, (let a = is.has.1 in omega arith));
  is_value = is.is_value;
  begun = is.begun;
  above = λ n has begun. elim (cases_lt n k) [
    | inl lt ↦ is.above n (has.0, lt) begun
    | inr le ↦ let e : k ≡ n = (let a = has.1 in omega arith) in
        let late_too = subst (λ (n : ℕ). minute < value n) e late in
        absurd (omega arith)
  ];
}

-- what has begun is the last one, or the last one of those before is
pub last_taken : (value : ℕ → ℕ) (minute from k : ℕ) (last : Option ℕ) → from ≤ k →
    value k ≤ minute → IsLast (λ n. (from ≤ n) × (n < k)) value minute last →
    IsLast (λ n. (from ≤ n) × (n < k + 1)) value minute (Some (max (value k) (unwrap_or last 0)))
last_taken value minute from k None low begun is = record {
  number = k;
  has = (low, omega arith);
  is_value = omega arith;
  begun = omega arith;
  above = λ n has early. elim (cases_lt n k) [
    | inl lt ↦ let late = is n (has.0, lt) in absurd (omega arith)
    | inr le ↦ let e : value n ≡ value k = ap value (let a = has.1 in omega arith) in omega arith
  ];
}
last_taken value minute from k (Some greatest) low begun is = elim (cases_lt greatest (value k)) [
  | inl lt ↦ record {
    number = k;
    has = (low, omega arith);
    is_value = omega arith;
    begun = omega arith;
    above = λ n has early. elim (cases_lt n k) [
      | inl earlier ↦ let le = is.above n (has.0, earlier) early in omega arith
      | inr le ↦ let e : value n ≡ value k = ap value (let a = has.1 in omega arith) in omega arith
    ];
  }
  | inr ge ↦ record {
    number = is.number;
    has = (is.has.0, (let a = is.has.1 in omega arith));
    is_value = let a = is.is_value in omega arith;
    begun = let a = is.begun in omega arith;
    above = λ n has early. elim (cases_lt n k) [
      | inl earlier ↦ let le = is.above n (has.0, earlier) early in omega arith
      | inr le ↦ let e : value n ≡ value k = ap value (let a = has.1 in omega arith) in omega arith
    ];
  }
]

-- one value alone is the last
pub one_last : (Has : ℕ → Type 0) (value : ℕ → ℕ) (minute : ℕ) (a b : Option ℕ) →
    IsLast Has value minute a → IsLast Has value minute b → a ≡ b
one_last Has value minute None None none other = refl
one_last Has value minute None (Some b) none is =
    let late = none is.number is.has in
    let early = is.begun in
    let at = is.is_value in
    absurd (omega arith)
one_last Has value minute (Some a) None is none =
    let late = none is.number is.has in
    let early = is.begun in
    let at = is.is_value in
    absurd (omega arith)
one_last Has value minute (Some a) (Some b) one other =
    ap Some (same (at_most a b one.number one.has one.is_value one.begun other.above)
    (at_most b a other.number other.has other.is_value other.begun one.above))
  where
    at_most : (x y n : ℕ) → Has n → x ≡ value n → x ≤ minute →
        ((k : ℕ) → Has k → value k ≤ minute → value k ≤ y) → x ≤ y
    at_most x y n has at begun above = rw at (above n has (rw (← at) begun))

    same : {x y : ℕ} → x ≤ y → y ≤ x → x ≡ y
    same le ge = omega arith

-- a start lies within 26 hours of its civil moment, and less than a minute before its instant
record IsPlaced (second : ℤ) (minute : ℕ) : Type 0 where
  low : pos (minute * 60) ≤ℤ (second +ℤ pos 93_599)
  high : second <ℤ pos (minute * 60 + 93_659)

placed_by : (m second : ℤ) → pos 0 ≤ℤ m → (m *ℤ pos 60) ≤ℤ (second +ℤ pos 93_599) →
    second <ℤ (m *ℤ pos 60 +ℤ pos 93_659) → IsPlaced second (unsigned_abs m)
placed_by (pos m) second least low high = record {
  low = omega (arith, signed_arith);
  high = omega (arith, signed_arith);
}
placed_by (negsuc m) second least low high = absurd (omega (arith, signed_arith))

placed : (zone : ZoneText) (first : Civil) (step : Duration) (k : ℕ) →
    IsWithin 93_599 (instant_at zone (civil_second first step k) -ℤ civil_second first step k) →
    IsPlaced (civil_second first step k) (start_at zone first step k)
placed zone first step k near =
    by_instant (instant_at zone (civil_second first step k)) (civil_second first step k) near
    (civil_second-low first step k)
  where
    by_instant : (instant second : ℤ) → IsWithin 93_599 (instant -ℤ second) →
        pos 2_678_400 ≤ℤ second → IsPlaced second (unsigned_abs (int_div_euclid instant (pos 60)))
    by_instant instant second near low =
        placed_by (int_div_euclid instant (pos 60)) second (omega (arith, signed_arith, near))
        (omega (arith, signed_arith, near)) (omega (arith, signed_arith, near))

passes : (a b : ℤ) → a <ℤ b → int_lt a b ≡ true
passes a b lt = grind (arith, ints)

-- what counts below an earlier horizon counts
counted_later : (first : Civil) (step : Duration) (end horizon k : ℕ) → end ≤ horizon →
    is_counted first step end k ≡ true → is_counted first step horizon k ≡ true
counted_later first step end horizon k le counted =
    let below = below_test (civil_second first step k) (pos ((end + 1_560) * 60)) counted in
    passes (civil_second first step k) (pos ((horizon + 1_560) * 60)) (omega (arith, signed_arith))

-- a start that counts and has begun counts below the minute's end too
counted_begun : (zone : ZoneText) (first : Civil) (step : Duration) (end horizon minute k : ℕ) →
    end ≡ min horizon (minute + 1) →
    IsPlaced (civil_second first step k) (start_at zone first step k) →
    is_counted first step horizon k ≡ true → start_at zone first step k ≤ minute →
    is_counted first step end k ≡ true
counted_begun zone first step end horizon minute k at place counted begun =
    by_minute (civil_second first step k) (start_at zone first step k) place begun
    (below_test (civil_second first step k) (pos ((horizon + 1_560) * 60)) counted)
  where
    by_minute : (second : ℤ) (start : ℕ) → IsPlaced second start → start ≤ minute →
        second <ℤ pos ((horizon + 1_560) * 60) →
        int_lt second (pos ((end + 1_560) * 60)) ≡ true
    by_minute second start place begun below =
        passes second (pos ((end + 1_560) * 60)) (omega (arith, signed_arith, at, place.high))

-- the civil moments of starts that count lie at least a day apart
seconds_apart : (first : Civil) (step : Duration) (horizon k more : ℕ) → IsCalendarStep step →
    horizon < 2 ^ 27 → k ≤ more → is_counted first step horizon more ≡ true →
    (civil_second first step k +ℤ pos ((more - k) * 86_400)) ≤ℤ civil_second first step more
seconds_apart first step horizon k more calendar below le counted =
    let e : k + (more - k) ≡ more = omega arith in
    let days = subst (λ (n : ℕ). ((date_after first step.unit (k * step.count) +ℤ pos (more - k))
    ≤ℤ date_after first step.unit (n * step.count))
    ⊎ (pos 100_000 ≤ℤ date_after first step.unit (n * step.count))) e
    (apart first step calendar k (more - k)) in
    by_days (date_after first step.unit (k * step.count))
    (date_after first step.unit (more * step.count)) _ (more - k) days
    (below_test (civil_second first step more) (pos ((horizon + 1_560) * 60)) counted)
  where
    by_days : (a b : ℤ) (time days : ℕ) → ((a +ℤ pos days) ≤ℤ b) ⊎ (pos 100_000 ≤ℤ b) →
        (b *ℤ pos 86_400 +ℤ pos time) <ℤ pos ((horizon + 1_560) * 60) →
        ((a *ℤ pos 86_400 +ℤ pos time) +ℤ pos (days * 86_400)) ≤ℤ (b *ℤ pos 86_400 +ℤ pos time)
    by_days a b time days (inl apart) near = omega (arith, signed_arith)
    by_days a b time days (inr far) near = absurd (omega (arith, signed_arith))

-- the facts about the starts that may have begun
record MayHaveBegun (zone : ZoneText) (first : Civil) (step : Duration)
    (horizon minute end count : ℕ) : Type 0 where
  calendar : IsCalendarStep step
  bound : horizon < 2 ^ 27
  least : end ≡ min horizon (minute + 1)
  near : (second : ℤ) → IsWithin 93_599 (instant_at zone second -ℤ second)
  below : (k : ℕ) → k < count → is_counted first step end k ≡ true
  past : is_counted first step end count ≡ false

-- three numbers later a start isn't earlier
three_later : (zone : ZoneText) (first : Civil) (step : Duration) (horizon minute end count : ℕ) →
    MayHaveBegun zone first step horizon minute end count → (k more : ℕ) → k + 3 ≤ more →
    more < count → start_at zone first step k ≤ start_at zone first step more
three_later zone first step horizon minute end count facts k more le lt =
    let early = placed zone first step k (facts.near (civil_second first step k)) in
    let late = placed zone first step more (facts.near (civil_second first step more)) in
    let apart = seconds_apart first step end k more facts.calendar
    (omega (arith, facts.bound, facts.least)) (omega arith) (facts.below more lt) in
    by_days (civil_second first step k) (civil_second first step more) (start_at zone first step k)
    (start_at zone first step more) (more - k) early late (omega arith) apart
  where
    by_days : (a b : ℤ) (start other days : ℕ) → IsPlaced a start → IsPlaced b other → 3 ≤ days
        → (a +ℤ pos (days * 86_400)) ≤ℤ b → start ≤ other
    by_days a b start other days early late three apart =
        omega (arith, signed_arith, early.low, late.high)

-- the fourth start from the end has begun
fourth_begun : (zone : ZoneText) (first : Civil) (step : Duration) (horizon minute end count : ℕ) →
    MayHaveBegun zone first step horizon minute end count → 4 ≤ count →
    start_at zone first step (count - 4) ≤ minute
fourth_begun zone first step horizon minute end count facts le =
    let place =
    placed zone first step (count - 4) (facts.near (civil_second first step (count - 4))) in
    let counted = facts.below (count - 1) (omega arith) in
    let apart = seconds_apart first step end (count - 4) (count - 1) facts.calendar
    (omega (arith, facts.bound, facts.least)) (omega arith) counted in
    by_days (civil_second first step (count - 4)) (civil_second first step (count - 1))
    (start_at zone first step (count - 4)) ((count - 1) - (count - 4)) place (omega arith) apart
    (below_test (civil_second first step (count - 1)) (pos ((end + 1_560) * 60)) counted)
  where
    by_days : (a b : ℤ) (start days : ℕ) → IsPlaced a start → 3 ≤ days
        → (a +ℤ pos (days * 86_400)) ≤ℤ b → b <ℤ pos ((end + 1_560) * 60) → start ≤ minute
    by_days a b start days place three apart below =
        omega (arith, signed_arith, place.low, facts.least)

-- a start that counts and has begun has one of the numbers below the count
numbered : (zone : ZoneText) (first : Civil) (step : Duration) (horizon minute end count : ℕ) →
    MayHaveBegun zone first step horizon minute end count → (k : ℕ) →
    is_counted first step horizon k ≡ true → start_at zone first step k ≤ minute → k < count
numbered zone first step horizon minute end count facts k counted begun =
    let place = placed zone first step k (facts.near (civil_second first step k)) in
    let there =
    counted_begun zone first step end horizon minute k facts.least place counted begun in
    elim (cases_lt k count) [
      | inl lt ↦ lt
      | inr le ↦ absurd (true≢false (sym there ∙ stops first step end facts.calendar
          (omega (arith, facts.bound, facts.least)) count k le facts.past))
    ]

-- the last among the last six is the last of all
last_of_all : (zone : ZoneText) (first : Civil) (step : Duration) (horizon minute end count : ℕ) →
    MayHaveBegun zone first step horizon minute end count → (start : Option ℕ) →
    IsLastAmong zone first step (count - 6) count minute start →
    IsLastStart zone first step horizon minute start
last_of_all zone first step horizon minute end count facts None none = λ k counted.
    elim (cases_lt minute (start_at zone first step k)) [
      | inl late ↦ late
      | inr begun ↦
          let below = numbered zone first step horizon minute end count facts k counted begun in
          elim (cases_lt k (count - 6)) [
            | inl early ↦
                let fourth =
                fourth_begun zone first step horizon minute end count facts (omega arith) in
                let late = none (count - 4) (omega arith, omega arith) in
                absurd (omega arith)
            | inr there ↦ none k (there, below)
          ]
    ]
last_of_all zone first step horizon minute end count facts (Some start) last = record {
  number = last.number;
  has = counted_later first step end horizon last.number (omega (arith, facts.least))
      (facts.below last.number last.has.1);
  is_value = last.is_value;
  begun = last.begun;
  above = λ k counted begun.
      let below = numbered zone first step horizon minute end count facts k counted begun in
      elim (cases_lt k (count - 6)) [
        | inl early ↦
            let fourth =
            fourth_begun zone first step horizon minute end count facts (omega arith) in
            let most = last.above (count - 4) (omega arith, omega arith) fourth in
            let later = three_later zone first step horizon minute end count facts k (count - 4)
            (omega arith) (omega arith) in
            omega arith
        | inr there ↦ last.above k (there, below) begun
      ];
}

pub last_by_six : (zone : ZoneText) (first : Civil) (step : Duration) (horizon minute end count : ℕ)
    (start : Option ℕ) →
    IsCalendarStep step → horizon < 2 ^ 27 → end ≡ min horizon (minute + 1) →
    ((second : ℤ) → IsWithin 93_599 (instant_at zone second -ℤ second)) →
    ((k : ℕ) → k < count → is_counted first step end k ≡ true) →
    is_counted first step end count ≡ false →
    IsLastAmong zone first step (count - 6) count minute start →
    IsLastStart zone first step horizon minute start
last_by_six zone first step horizon minute end count start calendar bound least near
    below past last =
    last_of_all zone first step horizon minute end count (record {
      calendar = calendar;
      bound = bound;
      least = least;
      near = near;
      below = below;
      past = past;
    }) start last
