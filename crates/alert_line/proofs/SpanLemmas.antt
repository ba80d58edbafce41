-- Spans that gain a minute at their end.
use Rattle.std.proofs.Common.{◌≡◌, ◌≢◌, ◌⊎◌, ℕ, suc, ◌+◌, ◌-◌, ◌≤◌, ◌<◌, ◌==◌, nat_eq, ◌++◌, List}
use Rattle.std.proofs.Common.{[], ◌∷◌, length, slice_index_or, slice_set, true, false, inl, inr}
use Rattle.std.proofs.Common.{refl, arith, ap, sym, subst, ◌∙◌, if◌then◌else◌}
use Rattle.std.specs.Bool.{⊤}
use Rattle.std.proofs.lemmas.Bool.Decides.{eqb_tells}
use Rattle.alert_line.specs.Spans.{one_minute, with_minute, with_stretch}
use Rattle.burn_core.specs.Timeline.{AreApart, AreSpansOf, Lies}

-- where the last span ends at the first minute it takes the stretch
pub with_stretch-last : (spans : List (ℕ × ℕ)) (from to : ℕ) (d : ℕ × ℕ) → 0 < length spans →
    (slice_index_or spans (length spans - 1) d).1 ≡ from →
    with_stretch spans from to ≡ slice_set spans (length spans - 1)
    ((slice_index_or spans (length spans - 1) d).0, to)
with_stretch-last [] from to d some ends = absurd (omega arith)
with_stretch-last (span ∷ []) from to d some ends = by (eqb_tells span.1 from)
  where
    by : ((nat_eq span.1 from ≡ true) × (span.1 ≡ from))
        ⊎ ((nat_eq span.1 from ≡ false) × (span.1 ≢ from)) →
        (if span.1 == from then (span.0, to) ∷ [] else span ∷ (from, to) ∷ [])
        ≡ (span.0, to) ∷ []
    by (inl e) = rw e.0 refl
    by (inr e) = absurd (e.1 ends)
with_stretch-last (span ∷ next ∷ rest) from to d some ends =
    let there = same (length rest) in
    rw there (ap (λ l. span ∷ l)
    (with_stretch-last (next ∷ rest) from to d (omega arith) (rw there at ends)))
  where
    same : (n : ℕ) → suc (suc n) - 1 ≡ suc (suc n - 1)
    same n = omega arith

-- else it is a span of its own
pub with_stretch-new : (spans : List (ℕ × ℕ)) (from to : ℕ) (d : ℕ × ℕ) →
    (0 < length spans → (slice_index_or spans (length spans - 1) d).1 ≢ from) →
    with_stretch spans from to ≡ spans ++ (from, to) ∷ []
with_stretch-new [] from to d ends = refl
with_stretch-new (span ∷ []) from to d ends = by (eqb_tells span.1 from)
  where
    by : ((nat_eq span.1 from ≡ true) × (span.1 ≡ from))
        ⊎ ((nat_eq span.1 from ≡ false) × (span.1 ≢ from)) →
        (if span.1 == from then (span.0, to) ∷ [] else span ∷ (from, to) ∷ [])
        ≡ span ∷ (from, to) ∷ []
    by (inl e) = absurd (ends (omega arith) e.1)
    by (inr e) = rw e.0 refl
with_stretch-new (span ∷ next ∷ rest) from to d ends = ap (λ l. span ∷ l)
    (with_stretch-new (next ∷ rest) from to d
    (λ h. rw (same (length rest)) at (ends (omega arith))))
  where
    same : (n : ℕ) → suc (suc n) - 1 ≡ suc (suc n - 1)
    same n = omega arith

-- a minute is a stretch by itself
pub with_minute-stretch : (spans : List (ℕ × ℕ)) (minute : ℕ)
    → with_minute spans minute ≡ with_stretch spans minute (minute + 1)
with_minute-stretch [] minute = refl
with_minute-stretch (span ∷ []) minute = refl
with_minute-stretch (span ∷ next ∷ rest) minute =
    ap (λ l. span ∷ l) (with_minute-stretch (next ∷ rest) minute)

-- a minute behind others
with_minute-cons : (span : ℕ × ℕ) (spans : List (ℕ × ℕ)) (minute : ℕ) → 0 < length spans
    → with_minute (span ∷ spans) minute ≡ span ∷ with_minute spans minute
with_minute-cons span [] minute some = absurd (omega (arith, some))
with_minute-cons span (next ∷ rest) minute some = refl

stretch-some : (spans : List (ℕ × ℕ)) (from to : ℕ) → 0 < length (with_stretch spans from to)
stretch-some [] from to = omega arith
stretch-some (span ∷ []) from to = by (nat_eq span.1 from)
  where
    by : (b : _) → 0 < length (if b then (span.0, to) ∷ [] else span ∷ (from, to) ∷ [])
    by true = omega arith
    by false = omega arith
stretch-some (span ∷ next ∷ rest) from to = omega arith

ends-there : (from to : ℕ) → with_minute ((from, to) ∷ []) to ≡ (from, to + 1) ∷ []
ends-there from to = by (eqb_tells to to)
  where
    by : ((nat_eq to to ≡ true) × (to ≡ to)) ⊎ ((nat_eq to to ≡ false) × (to ≢ to)) →
        (if to == to then (from, to + 1) ∷ [] else (from, to) ∷ one_minute to ∷ [])
        ≡ (from, to + 1) ∷ []
    by (inl e) = rw e.0 refl
    by (inr e) = absurd (e.1 refl)

-- a stretch goes on by the minute at which it ends
pub stretch-more : (spans : List (ℕ × ℕ)) (from to : ℕ)
    → with_minute (with_stretch spans from to) to ≡ with_stretch spans from (to + 1)
stretch-more [] from to = ends-there from to
stretch-more (span ∷ []) from to = by (nat_eq span.1 from)
  where
    by : (b : _) → with_minute (if b then (span.0, to) ∷ [] else span ∷ (from, to) ∷ []) to
        ≡ (if b then (span.0, to + 1) ∷ [] else span ∷ (from, to + 1) ∷ [])
    by true = ends-there span.0 to
    by false = ap (λ l. span ∷ l) (ends-there from to)
stretch-more (span ∷ next ∷ rest) from to =
    with_minute-cons span (with_stretch (next ∷ rest) from to) to
    (stretch-some (next ∷ rest) from to)
    ∙ ap (λ l. span ∷ l) (stretch-more (next ∷ rest) from to)

-- all spans end at a minute or before it
abbrev pub EndBy : ℕ → List (ℕ × ℕ) → Type 0
EndBy minute [] = ⊤
EndBy minute (span ∷ rest) = (span.1 ≤ minute) × EndBy minute rest

pub EndBy-later : (minute : ℕ) (spans : List (ℕ × ℕ)) → EndBy minute spans
    → EndBy (minute + 1) spans
EndBy-later minute [] ends = tt
EndBy-later minute (span ∷ rest) ends = (omega (arith, ends.0), EndBy-later minute rest ends.1)

pub EndBy-with : (minute : ℕ) (spans : List (ℕ × ℕ)) → EndBy minute spans
    → EndBy (minute + 1) (with_minute spans minute)
EndBy-with minute [] ends = (omega arith, tt)
EndBy-with minute (span ∷ []) ends = by (nat_eq span.1 minute)
  where
    by : (b : _) → EndBy (minute + 1) (if b then (span.0, minute + 1) ∷ []
        else span ∷ one_minute minute ∷ [])
    by true = (omega arith, tt)
    by false = (omega (arith, ends.0), (omega arith, tt))
EndBy-with minute (span ∷ next ∷ rest) ends =
    (omega (arith, ends.0), EndBy-with minute (next ∷ rest) ends.1)

pub AreApart-with : (low minute : ℕ) (spans : List (ℕ × ℕ)) → low ≤ minute → EndBy minute spans
    → AreApart low spans → AreApart low (with_minute spans minute)
AreApart-with low minute [] le ends apart = (le, omega arith, tt)
AreApart-with low minute (span ∷ []) le ends apart = by (eqb_tells span.1 minute)
  where
    by : ((nat_eq span.1 minute ≡ true) × (span.1 ≡ minute))
        ⊎ ((nat_eq span.1 minute ≡ false) × (span.1 ≢ minute)) →
        AreApart low (if span.1 == minute then (span.0, minute + 1) ∷ []
        else span ∷ one_minute minute ∷ [])
    by (inl e) = rw e.0 (apart.0, omega (arith, apart.1, e.1), tt)
    by (inr e) = rw e.0 (apart.0, apart.1, (omega (arith, ends.0, e.1), omega arith, tt))
AreApart-with low minute (span ∷ next ∷ rest) le ends apart = (
  apart.0,
  apart.1,
  AreApart-with (span.1 + 1) minute (next ∷ rest)
      (omega (arith, apart.2.0, apart.2.1, ends.1.0)) ends.1 apart.2,
)

-- the minutes of the spans are those from before, and the new one
pub Lies-with : (minute : ℕ) (spans : List (ℕ × ℕ)) (low : ℕ) → AreApart low spans → (u : ℕ)
    → Lies u (with_minute spans minute) → Lies u spans ⊎ (u ≡ minute)
Lies-with minute [] low apart u (inl e) = inr (omega (arith, e.0, e.1))
Lies-with minute [] low apart u (inr e) = absurd e
Lies-with minute (span ∷ []) low apart u lies = by (eqb_tells span.1 minute) lies
  where
    by : ((nat_eq span.1 minute ≡ true) × (span.1 ≡ minute))
        ⊎ ((nat_eq span.1 minute ≡ false) × (span.1 ≢ minute)) →
        Lies u (if span.1 == minute then (span.0, minute + 1) ∷ []
        else span ∷ one_minute minute ∷ []) →
        Lies u (span ∷ []) ⊎ (u ≡ minute)
    by (inl e) lies = in_last (rw e.0 at lies)
      where
        choose : ((nat_eq u minute ≡ true) × (u ≡ minute))
            ⊎ ((nat_eq u minute ≡ false) × (u ≢ minute)) → span.0 ≤ u → u < minute + 1
            → Lies u (span ∷ []) ⊎ (u ≡ minute)
        choose (inl f) a b = inr f.1
        choose (inr f) a b = inl (inl (a, omega (arith, f.1, e.1)))

        in_last : Lies u ((span.0, minute + 1) ∷ []) → Lies u (span ∷ []) ⊎ (u ≡ minute)
        in_last (inl f) = choose (eqb_tells u minute) f.0 f.1
        in_last (inr f) = absurd f
    by (inr e) lies = in_new (rw e.0 at lies)
      where
        in_new : Lies u (span ∷ one_minute minute ∷ []) → Lies u (span ∷ []) ⊎ (u ≡ minute)
        in_new (inl f) = inl (inl f)
        in_new (inr (inl f)) = inr (omega (arith, f.0, f.1))
        in_new (inr (inr f)) = absurd f
Lies-with minute (span ∷ next ∷ rest) low apart u (inl e) = inl (inl e)
Lies-with minute (span ∷ next ∷ rest) low apart u (inr e) =
    up (Lies-with minute (next ∷ rest) (span.1 + 1) apart.2 u e)
  where
    up : Lies u (next ∷ rest) ⊎ (u ≡ minute) → Lies u (span ∷ next ∷ rest) ⊎ (u ≡ minute)
    up (inl f) = inl (inr f)
    up (inr f) = inr f

pub Lies-kept : (minute : ℕ) (spans : List (ℕ × ℕ)) (low : ℕ) → AreApart low spans → (u : ℕ)
    → Lies u spans → Lies u (with_minute spans minute)
Lies-kept minute [] low apart u lies = absurd lies
Lies-kept minute (span ∷ []) low apart u lies = by (eqb_tells span.1 minute) lies
  where
    by : ((nat_eq span.1 minute ≡ true) × (span.1 ≡ minute))
        ⊎ ((nat_eq span.1 minute ≡ false) × (span.1 ≢ minute)) → Lies u (span ∷ []) →
        Lies u (if span.1 == minute then (span.0, minute + 1) ∷ []
        else span ∷ one_minute minute ∷ [])
    by (inl e) (inl f) = rw e.0 (inl (f.0, omega (arith, f.1, e.1)))
    by (inl e) (inr f) = absurd f
    by (inr e) (inl f) = rw e.0 (inl f)
    by (inr e) (inr f) = absurd f
Lies-kept minute (span ∷ next ∷ rest) low apart u (inl e) = inl e
Lies-kept minute (span ∷ next ∷ rest) low apart u (inr e) =
    inr (Lies-kept minute (next ∷ rest) (span.1 + 1) apart.2 u e)

pub Lies-new : (minute : ℕ) (spans : List (ℕ × ℕ)) (low : ℕ) → AreApart low spans
    → Lies minute (with_minute spans minute)
Lies-new minute [] low apart = inl (omega arith, omega arith)
Lies-new minute (span ∷ []) low apart = by (eqb_tells span.1 minute)
  where
    by : ((nat_eq span.1 minute ≡ true) × (span.1 ≡ minute))
        ⊎ ((nat_eq span.1 minute ≡ false) × (span.1 ≢ minute)) →
        Lies minute (if span.1 == minute then (span.0, minute + 1) ∷ []
        else span ∷ one_minute minute ∷ [])
    by (inl e) = rw e.0 (inl (omega (arith, apart.1, e.1), omega arith))
    by (inr e) = rw e.0 (inr (inl (omega arith, omega arith)))
Lies-new minute (span ∷ next ∷ rest) low apart =
    inr (Lies-new minute (next ∷ rest) (span.1 + 1) apart.2)

-- the spans of a range that has one more minute, where it is so at that minute
pub AreSpansOf-active : (active : ℕ → Type 0) (from minute : ℕ) (spans : List (ℕ × ℕ)) →
    from ≤ minute → active minute → EndBy minute spans →
    AreSpansOf active from minute spans →
    AreSpansOf active from (minute + 1) (with_minute spans minute)
AreSpansOf-active active from minute spans le is ends all = record {
  exactly = λ u. (
    λ lies. to u (Lies-with minute spans 0 all.apart u lies),
    λ p. back u p (eqb_tells u minute),
  );
  apart = AreApart-with 0 minute spans (omega arith) ends all.apart;
}
  where
    to : (u : ℕ) → Lies u spans ⊎ (u ≡ minute) → (from ≤ u) × (u < minute + 1) × active u
    to u (inl lies) = let p = (all.exactly u).0 lies in (p.0, omega (arith, p.1), p.2)
    to u (inr e) = (omega arith, omega arith, subst active (sym e) is)

    back : (u : ℕ) → (from ≤ u) × (u < minute + 1) × active u
        → ((nat_eq u minute ≡ true) × (u ≡ minute)) ⊎ ((nat_eq u minute ≡ false) × (u ≢ minute))
        → Lies u (with_minute spans minute)
    back u p (inl e) =
        subst (λ v. Lies v (with_minute spans minute)) (sym e.1) (Lies-new minute spans 0 all.apart)
    back u p (inr e) =
        Lies-kept minute spans 0 all.apart u ((all.exactly u).1 (p.0, omega (arith, p.1, e.1), p.2))

-- .. and where it isn't, or the minute is before the range
pub AreSpansOf-idle : (active : ℕ → Type 0) (from minute : ℕ) (spans : List (ℕ × ℕ)) →
    (from ≤ minute → active minute → ⊥) →
    AreSpansOf active from minute spans → AreSpansOf active from (minute + 1) spans
AreSpansOf-idle active from minute spans idle all = record {
  exactly = λ u. (λ lies. to u ((all.exactly u).0 lies), λ p. back u p (eqb_tells u minute));
  apart = all.apart;
}
  where
    to : (u : ℕ) → (from ≤ u) × (u < minute) × active u → (from ≤ u) × (u < minute + 1) × active u
    to u p = (p.0, omega (arith, p.1), p.2)

    back : (u : ℕ) → (from ≤ u) × (u < minute + 1) × active u
        → ((nat_eq u minute ≡ true) × (u ≡ minute)) ⊎ ((nat_eq u minute ≡ false) × (u ≢ minute))
        → Lies u spans
    back u p (inl e) = absurd (idle (omega (arith, p.0, e.1)) (subst active e.1 p.2))
    back u p (inr e) = (all.exactly u).1 (p.0, omega (arith, p.1, e.1), p.2)

pub AreSpansOf-none : (active : ℕ → Type 0) (from start : ℕ) → start ≤ from
    → AreSpansOf active from start []
AreSpansOf-none active from start le =
    record { exactly = λ u. (λ f. absurd f, λ p. absurd (none u p.0 p.1)); apart = tt }
  where
    none : (u : ℕ) → from ≤ u → u < start → ⊥
    none u a b = omega arith
