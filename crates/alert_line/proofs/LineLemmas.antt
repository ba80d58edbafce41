-- Lines that forget, learn and agree with sums.
use Rattle.std.proofs.Common.{◌≡◌, ◌≢◌, ◌⊎◌, ℕ, suc, ◌+◌, ◌-◌, ◌*◌, ◌≤◌, ◌<◌, ◌&&◌, ◌==◌, nat_eq}
use Rattle.std.proofs.Common.{nat_le, nat_lt, min, Bool, true, false, Option, Some, None, length}
use Rattle.std.proofs.Common.{inl, inr, refl, arith, ap, sym, ◌∙◌, if◌then◌else◌, List}
use Rattle.std.proofs.lemmas.Bool.Decides.{eqb_tells, leb_tells, nat_tests}
use Rattle.window_sums.specs.Slices.{CountedDays, leaf_at, width_of}
use Rattle.burn_core.specs.declared.alert.AlertRule.{AlertRule}
use Rattle.burn_core.specs.Alert.{reach_of}
use Rattle.burn_core.specs.Condition.{condition}
use Rattle.burn_core.proofs.ConditionLemmas.{condition-apart}
use Rattle.alert_line.specs.Laws.{MarkedLinesAgree}
use Rattle.alert_line.specs.Minutes.{Forgets, kept_at}
use Rattle.alert_line.specs.Line.{Agrees, Line, SameAlert, condition_on, knowledge}
use Rattle.alert_line.proofs.MinuteLemmas.{kept_at-beyond}

-- after a slice changed, a line that forgets just the minutes whose windows may have it agrees with
-- the new leaves
pub Agrees-marked : MarkedLinesAgree
Agrees-marked before after old new slice some widths same alert agrees marked = record {
  each = λ minute holds e.
      by minute holds e (leb_tells (slice * width_of old.method + width_of old.method) minute)
      (leb_tells (suc minute) (slice * width_of old.method + reach_of before.rule + 1));
}
  where
    width : ℕ
    width = width_of old.method

    one : (minute : ℕ) → condition_on after new minute
        ≡ condition before.rule before.target before.origin width (leaf_at new) minute
    one minute = λ i. condition (alert.rule i) (alert.target i) (alert.origin i) (widths i)
        (leaf_at new) minute

    kept : (minute : ℕ) (holds : Bool) → knowledge before minute ≡ Some holds
        → (minute < slice * width + width) ⊎ (slice * width + reach_of before.rule < minute)
        → holds ≡ condition_on after new minute
    kept minute holds e out =
        agrees.each minute holds e ∙ condition-apart before.rule before.target before.origin width
        slice (leaf_at old) (leaf_at new) some same minute out ∙ sym (one minute)

    by : (minute : ℕ) (holds : Bool) → knowledge after minute ≡ Some holds →
        ((nat_le (slice * width + width) minute ≡ true) × (slice * width + width ≤ minute))
        ⊎ ((nat_le (slice * width + width) minute ≡ false) × (minute < slice * width + width)) →
        ((nat_lt minute (slice * width + reach_of before.rule + 1) ≡ true)
        × (suc minute ≤ slice * width + reach_of before.rule + 1))
        ⊎ ((nat_lt minute (slice * width + reach_of before.rule + 1) ≡ false)
        × (slice * width + reach_of before.rule + 1 < suc minute)) →
        holds ≡ condition_on after new minute
    by minute holds e (inr a) b =
        kept minute holds (sym (marked minute ∙ (rw a.0 refl)) ∙ e) (inl a.1)
    by minute holds e (inl a) (inr b) =
        kept minute holds (sym (marked minute ∙ (rw (a.0, b.0) refl)) ∙ e) (inr (omega arith))
    by minute holds e (inl a) (inl b) =
        let none : None ≡ Some holds = sym (marked minute ∙ (rw (a.0, b.0) refl)) ∙ e in
        absurd (cc none)

-- a line that has learnt a minute's condition agrees as before
pub Agrees-learnt : (before after : Line) (sums : CountedDays) (minute : ℕ) (holds : Bool) →
    SameAlert before after → Agrees before sums → holds ≡ condition_on before sums minute →
    ((u : ℕ) → knowledge after u ≡ (if u == minute then Some holds else knowledge before u)) →
    Agrees after sums
Agrees-learnt before after sums minute holds alert agrees right learnt =
    record { each = λ u b e. by u b e (eqb_tells u minute) }
  where
    one : (u : ℕ) → condition_on before sums u ≡ condition_on after sums u
    one u = λ i. condition (sym alert.rule i) (sym alert.target i) (sym alert.origin i)
        (width_of sums.method) (leaf_at sums) u

    by : (u : ℕ) (b : Bool) → knowledge after u ≡ Some b → ((nat_eq u minute ≡ true) × (u ≡ minute))
        ⊎ ((nat_eq u minute ≡ false) × (u ≢ minute)) → b ≡ condition_on after sums u
    by u b e (inl same) =
        let here : Some holds ≡ Some b = sym (learnt u ∙ (rw same.0 refl)) ∙ e in
        let is : b ≡ holds = cc here in
        is ∙ right ∙ ap (condition_on before sums) (sym same.1) ∙ one u
    by u b e (inr other) = agrees.each u b (sym (learnt u ∙ (rw other.0 refl)) ∙ e) ∙ one u

-- where the bytes keep one more minute, it is known, and each other as before
pub learnt-kept : (before after : List ℕ) (origin minute : ℕ) (holds : Bool) → origin ≤ minute →
    ((k : ℕ) → kept_at after k
    ≡ (if k == minute - origin then Some holds else kept_at before k)) → (u : ℕ) →
    (if nat_lt u origin then None else kept_at after (u - origin)) ≡ (if u == minute
    then Some holds else (if nat_lt u origin then None else kept_at before (u - origin)))
learnt-kept before after origin minute holds le kept u =
    by (leb_tells (suc u) origin) (eqb_tells u minute) (eqb_tells (u - origin) (minute - origin))
  where
    by : ((nat_lt u origin ≡ true) × (suc u ≤ origin))
        ⊎ ((nat_lt u origin ≡ false) × (origin < suc u)) →
        ((nat_eq u minute ≡ true) × (u ≡ minute)) ⊎ ((nat_eq u minute ≡ false) × (u ≢ minute)) →
        ((nat_eq (u - origin) (minute - origin) ≡ true) × (u - origin ≡ minute - origin))
        ⊎ ((nat_eq (u - origin) (minute - origin) ≡ false) × (u - origin ≢ minute - origin)) →
        (if nat_lt u origin then None else kept_at after (u - origin)) ≡ (if u == minute
        then Some holds else (if nat_lt u origin then None else kept_at before (u - origin)))
    by (inl a) (inl e) d = absurd (omega (arith, a.1, e.1, le))
    by (inl a) (inr e) d = rw (a.0, e.0) refl
    by (inr a) (inl e) (inl d) = rw (a.0, e.0) (kept (u - origin) ∙ (rw d.0 refl))
    by (inr a) (inl e) (inr d) = absurd (d.1 (ap (λ n. n - origin) e.1))
    by (inr a) (inr e) (inl d) = absurd (e.1 (omega (arith, a.1, d.1, le)))
    by (inr a) (inr e) (inr d) = rw (a.0, e.0) (kept (u - origin) ∙ (rw d.0 refl))

pub tested : (n m : ℕ) → nat_le n m ≡ true → n ≤ m
tested n m is = grind (arith, nat_tests)

-- nothing is known behind the last byte
pub nothing-beyond : (line : Line) (minute : ℕ) → 4 * length line.bytes ≤ minute - line.origin
    → (u : ℕ) → minute ≤ u → knowledge line u ≡ None
nothing-beyond line minute few u low = by (leb_tells (suc u) line.origin)
  where
    by : ((nat_lt u line.origin ≡ true) × (suc u ≤ line.origin))
        ⊎ ((nat_lt u line.origin ≡ false) × (line.origin < suc u)) → knowledge line u ≡ None
    by (inl a) = rw a.0 refl
    by (inr a) = rw a.0 (kept_at-beyond line.bytes (u - line.origin) (omega (arith, few, low)))

-- what is known of the minutes once the places of a range, cut to the bytes, were forgotten
pub known-forgotten : (before after : List ℕ) (rule : AlertRule)
    (target origin room room2 from to most : ℕ) → 4 * length before ≡ most →
    4 * length after ≤ most →
    Forgets before after (min (from - origin) most) (min (to - origin) most) → (minute : ℕ) →
    knowledge (record {
      rule = rule;
      target = target;
      origin = origin;
      bytes = after;
      room = room2;
    }) minute ≡ (if nat_le from minute && nat_lt minute to then None else knowledge (record {
      rule = rule;
      target = target;
      origin = origin;
      bytes = before;
      room = room;
    }) minute)
known-forgotten before after rule target origin room room2 from to most len len2 forgets minute =
    by (leb_tells (suc minute) origin) (leb_tells (suc (minute - origin)) most)
  where
    old : Option Bool
    old = kept_at before (minute - origin)

    none : (b : Bool) (o : Option Bool) → o ≡ None → None ≡ (if b then None else o)
    none true o e = refl
    none false o e = sym e

    both : (from to origin minute most : ℕ) → origin ≤ minute → minute - origin < most →
        (nat_le (min (from - origin) most) (minute - origin) && nat_lt (minute - origin)
        (min (to - origin) most)) ≡ (nat_le from minute && nat_lt minute to)
    both from to origin minute most le lt = grind (arith, nat_tests)

    by : ((nat_lt minute origin ≡ true) × (suc minute ≤ origin))
        ⊎ ((nat_lt minute origin ≡ false) × (origin < suc minute)) →
        ((nat_lt (minute - origin) most ≡ true) × (suc (minute - origin) ≤ most))
        ⊎ ((nat_lt (minute - origin) most ≡ false) × (most < suc (minute - origin))) →
        (if nat_lt minute origin then None else kept_at after (minute - origin)) ≡ (if nat_le from
        minute && nat_lt minute to then None else (if nat_lt minute origin then None else old))
    by (inl a) b = rw a.0 (none (nat_le from minute && nat_lt minute to) None refl)
    by (inr a) (inr b) =
        rw (a.0, kept_at-beyond after (minute - origin) (omega arith))
        (none (nat_le from minute && nat_lt minute to) old
        (kept_at-beyond before (minute - origin) (omega arith)))
    by (inr a) (inl b) =
        rw a.0 (forgets (minute - origin) ∙ ap (λ (q : Bool). if q then None else old)
        (both from to origin minute most (omega arith) (omega arith)))

-- to forget keeps agreement
pub Agrees-forgotten : (before after : Line) (sums : CountedDays) (gone : ℕ → Bool)
    → SameAlert before after
    → ((u : ℕ) → knowledge after u ≡ (if gone u then None else knowledge before u))
    → Agrees before sums → Agrees after sums
Agrees-forgotten before after sums gone alert forgot agrees =
    record { each = λ u b e. by u b (gone u) (sym (forgot u) ∙ e) ∙ one u }
  where
    one : (u : ℕ) → condition_on before sums u ≡ condition_on after sums u
    one u = λ i. condition (sym alert.rule i) (sym alert.target i) (sym alert.origin i)
        (width_of sums.method) (leaf_at sums) u

    by : (u : ℕ) (b q : Bool) → (if q then None else knowledge before u) ≡ Some b
        → b ≡ condition_on before sums u
    by u b true e = absurd (cc e)
    by u b false e = agrees.each u b e
