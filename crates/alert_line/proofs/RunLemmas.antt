-- The minutes up to one at which the condition held without a break.
use Rattle.std.proofs.Common.{◌≡◌, ◌≢◌, ◌⊎◌, ℕ, suc, ◌+◌, ◌-◌, ◌*◌, ◌≤◌, ◌<◌, ◌==◌, ◌&&◌, ◌||◌, max}
use Rattle.std.proofs.Common.{nat_eq, nat_le, nat_lt, Bool, true, false, Option, Some, List, inl}
use Rattle.std.proofs.Common.{IfSome, None, inr, refl, arith, ap, sym, ◌∙◌, if◌then◌else◌}
use Rattle.std.proofs.Common.{min, subst, zero, ◌^◌}
use Rattle.std.specs.Option.{is_none}
use Rattle.exact_fraction.specs.declared.leaf.Leaf.{Leaf}
use Rattle.burn_core.specs.declared.alert.AlertRule.{AlertRule}
use Rattle.std.proofs.lemmas.Bool.Decides.{eqb_tells, leb_tells, nat_tests}
use Rattle.window_sums.specs.Slices.{CountedDays, leaf_at, width_of}
use Rattle.burn_core.specs.Condition.{condition}
use Rattle.burn_core.specs.Timeline.{AreSpansOf, IsActive, is_active}
use Rattle.burn_core.proofs.TimelineLemmas.{active-law}
use Rattle.burn_core.proofs.ConditionLemmas.{condition-below}
use Rattle.alert_line.specs.Cursor.{IsBehind}
use Rattle.alert_line.specs.declared.cursor.Cursor.{Cursor}
use Rattle.alert_line.specs.Line.{Agrees, Line, SameAlert, condition_on, knowledge}
use Rattle.alert_line.specs.Spans.{with_minute, with_stretch}
use Rattle.burn_core.specs.Alert.{wait_of}
use Rattle.alert_line.specs.Learnt.{IsLearnt, IsRun, start_of, unknown_in}
use Rattle.alert_line.proofs.MinuteLemmas.{one-more}
use Rattle.slo_terms.proofs.RangeLemmas.{sum_over-next, sum_over-within}
use Rattle.alert_line.proofs.SpanLemmas.{AreSpansOf-active, AreSpansOf-idle, EndBy, EndBy-later}
use Rattle.alert_line.proofs.SpanLemmas.{EndBy-with, stretch-more, with_minute-stretch}

pub IsRun-none : (holds : ℕ → Bool) (start : ℕ) → IsRun holds start start 0
IsRun-none holds start = record {
  within = omega arith;
  each = λ u a b. absurd (no u a b);
  stops = inl (omega arith);
}
  where
    no : (u : ℕ) → start - 0 ≤ u → u < start → ⊥
    no u a b = omega arith

pub IsRun-next : (holds : ℕ → Bool) (start at run : ℕ) (b : Bool) → start ≤ at → b ≡ holds at
    → IsRun holds start at run → IsRun holds start (at + 1) (if b then run + 1 else 0)
IsRun-next holds start at run true le is before = record {
  within = omega (arith, before.within);
  each = λ u a c. by u a c (eqb_tells u at);
  stops = on before.stops;
}
  where
    by : (u : ℕ) → at + 1 - (run + 1) ≤ u → u < at + 1 → ((nat_eq u at ≡ true) × (u ≡ at))
        ⊎ ((nat_eq u at ≡ false) × (u ≢ at)) → holds u ≡ true
    by u a c (inl e) = ap holds e.1 ∙ sym is
    by u a c (inr e) = before.each u (omega arith) (omega (arith, e.1))

    on : (start + run ≡ at) ⊎ ((u : ℕ) → u + 1 + run ≡ at → holds u ≡ false)
        → (start + (run + 1) ≡ at + 1) ⊎ ((u : ℕ) → u + 1 + (run + 1) ≡ at + 1 → holds u ≡ false)
    on (inl e) = inl (omega (arith, e))
    on (inr f) = inr (λ u e. f u (omega arith))
IsRun-next holds start at run false le is before = record {
  within = omega arith;
  each = λ u a c. absurd (no u a c);
  stops = inr (λ u e. ap holds (there u e) ∙ sym is);
}
  where
    no : (u : ℕ) → at + 1 - 0 ≤ u → u < at + 1 → ⊥
    no u a c = omega arith

    there : (u : ℕ) → u + 1 + 0 ≡ at + 1 → u ≡ at
    there u e = omega arith

-- over minutes at all of which it holds the run grows, and else it ends
pub IsRun-over : (holds : ℕ → Bool) (start at run count : ℕ) (b : Bool) → 0 < count
    → ((u : ℕ) → at ≤ u → u < at + count → b ≡ holds u) → start ≤ at
    → IsRun holds start at run → IsRun holds start (at + count) (if b then run + count else 0)
IsRun-over holds start at run count true some all le before = record {
  within = omega (arith, before.within);
  each = λ u a c. by u a c (leb_tells at u);
  stops = on before.stops;
}
  where
    by : (u : ℕ) → at + count - (run + count) ≤ u → u < at + count
        → ((nat_le at u ≡ true) × (at ≤ u)) ⊎ ((nat_le at u ≡ false) × (u < at)) → holds u ≡ true
    by u a c (inl e) = sym (all u e.1 c)
    by u a c (inr e) = before.each u (omega (arith, a)) e.1

    on : (start + run ≡ at) ⊎ ((u : ℕ) → u + 1 + run ≡ at → holds u ≡ false)
        → (start + (run + count) ≡ at + count)
        ⊎ ((u : ℕ) → u + 1 + (run + count) ≡ at + count → holds u ≡ false)
    on (inl e) = inl (omega (arith, e))
    on (inr f) = inr (λ u e. f u (omega (arith, e)))
IsRun-over holds start at run count false some all le before = record {
  within = omega (arith, le);
  each = λ u a c. absurd (no u a c);
  stops = inr (λ u e. sym (all u (at-least u e) (below u e)));
}
  where
    no : (u : ℕ) → at + count - 0 ≤ u → u < at + count → ⊥
    no u a c = omega (arith, a, c)

    at-least : (u : ℕ) → u + 1 + 0 ≡ at + count → at ≤ u
    at-least u e = omega (arith, e, some)

    below : (u : ℕ) → u + 1 + 0 ≡ at + count → u < at + count
    below u e = omega (arith, e)

active-by-run : (holds : ℕ → Bool) (start minute run wait : ℕ) → wait < run
    → IsRun holds start (minute + 1) run → IsActive wait holds minute
active-by-run holds start minute run wait long is = record {
  enough = omega (arith, is.within);
  each = λ u a b. is.each u (omega arith) (omega arith);
}

run-by-active : (holds : ℕ → Bool) (origin from minute run wait : ℕ) →
    ((u : ℕ) → u < origin → holds u ≡ false) → from ≤ minute → run ≤ wait →
    IsRun holds (max (from - wait) origin) (minute + 1) run → IsActive wait holds minute → ⊥
run-by-active holds origin from minute run wait below le short is active = by is.stops
  where
    back : ℕ
    back = minute - run

    clash : holds back ≡ true → holds back ≡ false → ⊥
    clash a b = cc (sym a ∙ b)

    there : holds back ≡ true
    there = active.each back (omega arith) (omega arith)

    by : (max (from - wait) origin + run ≡ minute + 1)
        ⊎ ((u : ℕ) → u + 1 + run ≡ minute + 1 → holds u ≡ false) → ⊥
    by (inl e) = clash there (below back (omega (arith, e, active.enough)))
    by (inr f) = clash there (f back (omega (arith, active.enough)))

-- the spans, and where they end, with one more minute
pub spans-next : (holds : ℕ → Bool) (origin from minute run wait : ℕ) (spans : List (ℕ × ℕ))
    (b : Bool) → ((u : ℕ) → u < origin → holds u ≡ false) →
    b ≡ (nat_lt wait run && nat_le from minute) →
    IsRun holds (max (from - wait) origin) (minute + 1) run → EndBy minute spans →
    AreSpansOf (IsActive wait holds) from minute spans → AreSpansOf (IsActive wait holds) from
    (minute + 1) (if b then with_minute spans minute else spans)
spans-next holds origin from minute run wait spans b below is run_is ends all =
    by b (leb_tells (suc wait) run) (leb_tells from minute) is
  where
    by : (b : Bool) → ((nat_lt wait run ≡ true) × (suc wait ≤ run))
        ⊎ ((nat_lt wait run ≡ false) × (run < suc wait)) →
        ((nat_le from minute ≡ true) × (from ≤ minute))
        ⊎ ((nat_le from minute ≡ false) × (minute < from)) →
        b ≡ (nat_lt wait run && nat_le from minute) → AreSpansOf (IsActive wait holds) from
        (minute + 1) (if b then with_minute spans minute else spans)
    by b (inl p) (inl q) e =
        let yes : b ≡ true = e ∙ (rw (p.0, q.0) refl) in
        rw yes (AreSpansOf-active (IsActive wait holds) from minute spans q.1 (active-by-run holds
        (max (from - wait) origin) minute run wait (omega (arith, p.1)) run_is) ends all)
    by b (inl p) (inr q) e =
        let no : b ≡ false = e ∙ (rw (p.0, q.0) refl) in
        rw no (AreSpansOf-idle (IsActive wait holds) from minute spans (λ le a. early q.1 le) all)
      where
        early : minute < from → from ≤ minute → ⊥
        early a b = omega arith
    by b (inr p) q e =
        let no : b ≡ false = e ∙ (rw p.0 refl) in
        rw no (AreSpansOf-idle (IsActive wait holds) from minute spans (λ le a. run-by-active holds
        origin from minute run wait below le (omega (arith, p.1)) run_is a) all)

pub ends-next : (minute : ℕ) (spans : List (ℕ × ℕ)) (b : Bool) → EndBy minute spans
    → EndBy (minute + 1) (if b then with_minute spans minute else spans)
ends-next minute spans true ends = EndBy-with minute spans ends
ends-next minute spans false ends = EndBy-later minute spans ends

-- what is added over minutes at all of which the condition holds, or doesn't
abbrev pub stretched : List (ℕ × ℕ) → Bool → ℕ → ℕ → List (ℕ × ℕ)
stretched spans held first to =
    if held && nat_lt first to then with_stretch spans first to else spans

stretched-next : (spans : List (ℕ × ℕ)) (held : Bool) (first to : ℕ) → (if held
    && nat_le first to then with_minute (stretched spans held first to) to
    else stretched spans held first to) ≡ stretched spans held first (to + 1)
stretched-next spans false first to = refl
stretched-next spans true first to =
    by (leb_tells first to) (leb_tells (suc first) to) (leb_tells (suc first) (to + 1))
  where
    by : ((nat_le first to ≡ true) × (first ≤ to)) ⊎ ((nat_le first to ≡ false) × (to < first)) →
        ((nat_lt first to ≡ true) × (suc first ≤ to))
        ⊎ ((nat_lt first to ≡ false) × (to < suc first)) →
        ((nat_lt first (to + 1) ≡ true) × (suc first ≤ to + 1))
        ⊎ ((nat_lt first (to + 1) ≡ false) × (to + 1 < suc first)) →
        (if nat_le first to then with_minute (if nat_lt first to then with_stretch spans first to
        else spans) to else (if nat_lt first to then with_stretch spans first to else spans))
        ≡ (if nat_lt first (to + 1) then with_stretch spans first (to + 1) else spans)
    by (inl a) (inl b) (inl c) = rw (a.0, b.0, c.0) (stretch-more spans first to)
    by (inl a) (inr b) (inl c) =
        let same : first ≡ to = omega (arith, a.1, b.1) in
        rw (a.0, b.0, c.0) (with_minute-stretch spans to
        ∙ ap (λ (n : ℕ). with_stretch spans n (to + 1)) (sym same))
    by (inl a) b (inr c) = absurd (omega (arith, a.1, c.1))
    by (inr a) (inl b) c = absurd (omega (arith, a.1, b.1))
    by (inr a) (inr b) (inl c) = absurd (omega (arith, a.1, c.1))
    by (inr a) (inr b) (inr c) = rw (a.0, b.0, c.0) refl

no-less : (n : ℕ) → nat_lt n 0 ≡ false
no-less n = grind (arith, nat_tests)

-- the spans, and where they end, with all minutes of a stretch
pub spans-over : (holds : ℕ → Bool) (origin from minute run wait count first : ℕ)
    (spans : List (ℕ × ℕ)) (held : Bool) → ((u : ℕ) → u < origin → holds u ≡ false) →
    ((u : ℕ) → minute ≤ u → u < minute + count → held ≡ holds u) →
    ((u : ℕ) → minute ≤ u → u < minute + count →
    nat_le first u ≡ (nat_lt wait (run + (u - minute) + 1) && nat_le from u)) → minute ≤ first →
    max (from - wait) origin ≤ minute →
    IsRun holds (max (from - wait) origin) minute run → EndBy minute spans →
    AreSpansOf (IsActive wait holds) from minute spans →
    EndBy (minute + count) (stretched spans held first (minute + count))
    × AreSpansOf (IsActive wait holds) from (minute + count)
    (stretched spans held first (minute + count))
spans-over holds origin from minute run wait zero first spans held below all tells low le is ends so
    =
    let none : minute + 0 ≡ minute = omega arith in
    rw none (
    subst (λ (l : List (ℕ × ℕ)). EndBy minute l × AreSpansOf (IsActive wait holds) from minute l)
    (sym (by held (leb_tells (suc first) minute))) (ends, so)
    )
  where
    by : (held : Bool) → ((nat_lt first minute ≡ true) × (suc first ≤ minute))
        ⊎ ((nat_lt first minute ≡ false) × (minute < suc first)) →
        stretched spans held first minute ≡ spans
    by false b = refl
    by true (inl b) = absurd (omega (arith, b.1, low))
    by true (inr b) = rw b.0 refl
spans-over holds origin from minute run wait (suc count) first spans held below all tells low le is
    ends so =
    let more : minute + suc count ≡ at + 1 = omega arith in
    let rest : EndBy at (stretched spans held first at)
    × AreSpansOf (IsActive wait holds) from at (stretched spans held first at) =
    spans-over holds origin from minute run wait count first spans held below
    (λ u a b. all u a (omega (arith, b))) (λ u a b. tells u a (omega (arith, b))) low le is ends
    so in
    rw more (
    subst (λ (l : List (ℕ × ℕ)). EndBy (at + 1) l
    × AreSpansOf (IsActive wait holds) from (at + 1) l) (stretched-next spans held first at) (
      ends-next at (stretched spans held first at) (held && nat_le first at) rest.0,
      spans-next holds origin from at run-then wait (stretched spans held first at)
          (held && nat_le first at) below (active held refl) run-is rest.0 rest.1,
    )
    )
  where
    at : ℕ
    at = minute + count

    run-then : ℕ
    run-then = if held then run + suc count else 0

    run-is : IsRun holds (max (from - wait) origin) (at + 1) run-then
    run-is =
        let more : minute + suc count ≡ at + 1 = omega arith in
        subst (λ n. IsRun holds (max (from - wait) origin) n run-then) more
        (IsRun-over holds (max (from - wait) origin) minute run (suc count) held (omega arith) all
        le is)

    active : (b : Bool) → held ≡ b →
        (held && nat_le first at) ≡ (nat_lt wait run-then && nat_le from at)
    active true e =
        let long : run + (at - minute) + 1 ≡ run + suc count = omega arith in
        rw e (tells at (omega arith) (omega arith)
        ∙ ap (λ n. nat_lt wait n && nat_le from at) long)
    active false e = rw (e, no-less wait) refl

pub below-origin : (line : Line) (sums : CountedDays) (u : ℕ) → u < line.origin
    → condition_on line sums u ≡ false
below-origin line sums u lt =
    condition-below line.rule line.target line.origin (width_of sums.method) (leaf_at sums) u lt

pub condition-alert : (before after : Line) (sums : CountedDays) (u : ℕ) → SameAlert before after
    → condition_on after sums u ≡ condition_on before sums u
condition-alert before after sums u alert = λ i. condition (alert.rule i) (alert.target i)
    (alert.origin i) (width_of sums.method) (leaf_at sums) u

pub learnt-none : (line : Line) (sums : CountedDays) (start : ℕ)
    → IsLearnt line line sums start start
learnt-none line sums start =
    record { each = λ u. by u (leb_tells start u) (leb_tells (suc u) start) }
  where
    by : (u : ℕ) → ((nat_le start u ≡ true) × (start ≤ u))
        ⊎ ((nat_le start u ≡ false) × (u < start)) →
        ((nat_lt u start ≡ true) × (suc u ≤ start)) ⊎ ((nat_lt u start ≡ false) × (start < suc u)) →
        knowledge line u ≡ (if nat_le start u && nat_lt u start then Some (condition_on line sums u)
        else knowledge line u)
    by u (inl a) (inl b) = absurd (omega (arith, a.1, b.1))
    by u (inl a) (inr b) = rw (a.0, b.0) refl
    by u (inr a) b = rw a.0 refl

pub learnt-next : (before at after : Line) (sums : CountedDays) (start minute : ℕ) (b : Bool) →
    start ≤ minute → b ≡ condition_on before sums minute → IsLearnt before at sums start minute →
    ((u : ℕ) → knowledge after u ≡ (if u == minute then Some b else knowledge at u)) →
    IsLearnt before after sums start (minute + 1)
learnt-next before at after sums start minute b le is learnt new = record {
  each = λ u. two (nat_le start u && nat_lt u minute) (u == minute)
      (nat_le start u && nat_lt u (minute + 1)) u (knowledge before u) (knowledge at u)
      (knowledge after u)
      (one-more u start minute le) (here u (eqb_tells u minute)) (learnt.each u) (new u);
}
  where
    here : (u : ℕ) → ((nat_eq u minute ≡ true) × (u ≡ minute))
        ⊎ ((nat_eq u minute ≡ false) × (u ≢ minute)) → (u == minute) ≡ true
        → b ≡ condition_on before sums u
    here u (inl e) q = is ∙ ap (condition_on before sums) (sym e.1)
    here u (inr e) q = cc (sym e.0 ∙ q)

    two : (b1 b2 b3 : Bool) (u : ℕ) (o a c : Option Bool) → b3 ≡ (b1 || b2) →
        (b2 ≡ true → b ≡ condition_on before sums u) →
        a ≡ (if b1 then Some (condition_on before sums u) else o) → c ≡ (if b2 then Some b else a) →
        c ≡ (if b3 then Some (condition_on before sums u) else o)
    two true true b3 u o a c e h p q = rw e (q ∙ ap (λ (x : Bool). Some x) (h refl))
    two true false b3 u o a c e h p q = rw e (q ∙ p)
    two false true b3 u o a c e h p q = rw e (q ∙ ap (λ (x : Bool). Some x) (h refl))
    two false false b3 u o a c e h p q = rw e (q ∙ p)

-- minutes that were known already need no learning
pub learnt-over : (before at : Line) (sums : CountedDays) (start minute count : ℕ) (b : Bool)
    → start ≤ minute → Agrees before sums
    → ((u : ℕ) → minute ≤ u → u < minute + count → knowledge at u ≡ Some b)
    → IsLearnt before at sums start minute → IsLearnt before at sums start (minute + count)
learnt-over before at sums start minute count b le agrees known learnt = record {
  each = λ u. by u (leb_tells start u) (leb_tells (suc u) minute)
      (leb_tells (suc u) (minute + count));
}
  where
    as-before : (u : ℕ) → nat_lt u minute ≡ false → knowledge at u ≡ knowledge before u
    as-before u e = learnt.each u ∙ idle (nat_le start u)
      where
        idle : (q : Bool) → (if q && nat_lt u minute then Some (condition_on before sums u)
            else knowledge before u) ≡ knowledge before u
        idle true = rw e refl
        idle false = refl

    by : (u : ℕ) → ((nat_le start u ≡ true) × (start ≤ u))
        ⊎ ((nat_le start u ≡ false) × (u < start)) →
        ((nat_lt u minute ≡ true) × (suc u ≤ minute))
        ⊎ ((nat_lt u minute ≡ false) × (minute < suc u)) →
        ((nat_lt u (minute + count) ≡ true) × (suc u ≤ minute + count))
        ⊎ ((nat_lt u (minute + count) ≡ false) × (minute + count < suc u)) →
        knowledge at u ≡ (if nat_le start u && nat_lt u (minute + count)
        then Some (condition_on before sums u) else knowledge before u)
    by u (inl a) (inl c) (inl d) = rw (a.0, d.0) (learnt.each u ∙ (rw (a.0, c.0) refl))
    by u (inl a) (inl c) (inr d) = absurd (omega (arith, c.1, d.1))
    by u (inl a) (inr c) (inl d) =
        let here : knowledge at u ≡ Some b = known u (omega (arith, c.1)) (omega (arith, d.1)) in
        let is : b ≡ condition_on before sums u = agrees.each u b (sym (as-before u c.0) ∙ here) in
        rw (a.0, d.0) (here ∙ ap (λ (x : Bool). Some x) is)
    by u (inl a) (inr c) (inr d) = rw (a.0, d.0) (as-before u c.0)
    by u (inr a) (inl c) d = rw a.0 (learnt.each u ∙ (rw a.0 refl))
    by u (inr a) (inr c) d = rw a.0 (as-before u c.0)

-- .. and their condition is what is known
pub known-condition : (before at : Line) (sums : CountedDays) (u : ℕ) (b : Bool)
    → SameAlert before at → Agrees at sums → knowledge at u ≡ Some b
    → b ≡ condition_on before sums u
known-condition before at sums u b alert agrees known =
    agrees.each u b known ∙ condition-alert before at sums u alert

-- a minute that the pass hasn't come to is known as it was
pub learnt-ahead : (before after : Line) (sums : CountedDays) (start minute : ℕ)
    → IsLearnt before after sums start minute → knowledge after minute ≡ knowledge before minute
learnt-ahead before after sums start minute learnt = learnt.each minute
    ∙ by (nat_le start minute) (leb_tells (suc minute) minute)
  where
    by : (a : Bool) → ((nat_lt minute minute ≡ true) × (suc minute ≤ minute))
        ⊎ ((nat_lt minute minute ≡ false) × (minute < suc minute)) →
        (if a && nat_lt minute minute then Some (condition_on before sums minute)
        else knowledge before minute) ≡ knowledge before minute
    by a (inl e) = absurd (omega (arith, e.1))
    by true (inr e) = rw e.0 refl
    by false (inr e) = refl

pub Agrees-after : (before after : Line) (sums : CountedDays) (start minute : ℕ)
    → SameAlert before after → Agrees before sums → IsLearnt before after sums start minute
    → Agrees after sums
Agrees-after before after sums start minute alert agrees learnt =
    record {
      each = λ u b e. by u b (nat_le start u && nat_lt u minute) (sym (learnt.each u) ∙ e)
          ∙ sym (condition-alert before after sums u alert);
    }
  where
    by : (u : ℕ) (b q : Bool) →
        (if q then Some (condition_on before sums u) else knowledge before u) ≡ Some b →
        b ≡ condition_on before sums u
    by u b true e = cc e
    by u b false e = agrees.each u b e

pub kept-after : (before after : Line) (sums : CountedDays) (start minute : ℕ) → Agrees before sums
    → IsLearnt before after sums start minute → (u : ℕ) (b : Bool) → knowledge before u ≡ Some b
    → knowledge after u ≡ Some b
kept-after before after sums start minute agrees learnt u b e = learnt.each u
    ∙ by (nat_le start u && nat_lt u minute)
  where
    by : (q : Bool) → (if q then Some (condition_on before sums u) else knowledge before u) ≡ Some b
    by true = ap (λ (x : Bool). Some x) (sym (agrees.each u b e))
    by false = e

pub unknown-next : (line : Line) (start minute : ℕ) → start ≤ minute →
    unknown_in line start (minute + 1 - start)
    ≡ unknown_in line start (minute - start) + (if is_none (knowledge line minute) then 1 else 0)
unknown-next line start minute le =
    sum_over-next (λ u. if is_none (knowledge line u) then 1 else 0) start minute le

pub unknown-part : (line : Line) (start at to : ℕ) → at ≤ to
    → unknown_in line start (at - start) ≤ unknown_in line start (to - start)
unknown-part line start at to le =
    sum_over-within (λ u. if is_none (knowledge line u) then 1 else 0) start (at - start)
    (to - start) (omega arith)

pub alert-then : (before at after : Line) → SameAlert before at → SameAlert at after
    → SameAlert before after
alert-then before at after p q = record {
  rule = q.rule ∙ p.rule;
  target = q.target ∙ p.target;
  origin = q.origin ∙ p.origin;
}

-- the steps of one minute more
pub steps-next : (line at : Line) (start minute old was now : ℕ) →
    start ≤ minute → knowledge at minute ≡ knowledge line minute →
    was ≤ old + 2400 * unknown_in line start (minute - start) →
    now ≤ was + 2400 * (if is_none (knowledge at minute) then 1 else 0) →
    now ≤ old + 2400 * unknown_in line start (minute + 1 - start)
steps-next line at start minute old was now le same p q =
    by (unknown_in line start (minute - start)) (unknown_in line start (minute + 1 - start))
    (if is_none (knowledge line minute) then 1 else 0)
    (if is_none (knowledge at minute) then 1 else 0)
    (unknown-next line start minute le)
    (ap (λ (o : Option Bool). if is_none o then 1 else 0) same) p q
  where
    by : (a b c d : ℕ) → b ≡ a + c → d ≡ c → was ≤ old + 2400 * a → now ≤ was + 2400 * d
        → now ≤ old + 2400 * b
    by a b c d e f p q = omega arith

-- a run longer than the wait is what makes an alert active
pub run-tells : (holds : ℕ → Bool) (origin minute run wait : ℕ) →
    ((u : ℕ) → u < origin → holds u ≡ false) →
    IsRun holds (max (minute - wait) origin) (minute + 1) run →
    (wait < run → IsActive wait holds minute) × (run ≤ wait → IsActive wait holds minute → ⊥)
run-tells holds origin minute run wait below is = (
  λ long. active-by-run holds (max (minute - wait) origin) minute run wait long is,
  λ short active.
      run-by-active holds origin minute minute run wait below (omega arith) short is active,
)

-- a minute at which the condition holds makes the run one longer
pub longer : (b : Bool) (wait run : ℕ)
    → (b && nat_le wait run) ≡ nat_lt wait (if b then run + 1 else 0)
longer true wait run = grind (arith, nat_tests)
longer false wait run = grind (arith, nat_tests)

-- whether an alert is active, by the run that ends with the minute
pub active-is : (holds : ℕ → Bool) (origin minute run wait : ℕ) →
    ((u : ℕ) → u < origin → holds u ≡ false) →
    IsRun holds (max (minute - wait) origin) (minute + 1) run →
    nat_lt wait run ≡ is_active wait holds minute
active-is holds origin minute run wait below is =
    by (leb_tells (suc wait) run) (is_active wait holds minute) refl
  where
    tells : (wait < run → IsActive wait holds minute)
        × (run ≤ wait → IsActive wait holds minute → ⊥)
    tells = run-tells holds origin minute run wait below is

    by : ((nat_lt wait run ≡ true) × (suc wait ≤ run))
        ⊎ ((nat_lt wait run ≡ false) × (run < suc wait)) → (b : Bool)
        → is_active wait holds minute ≡ b → nat_lt wait run ≡ is_active wait holds minute
    by (inl p) b e = p.0 ∙ sym ((active-law wait holds minute).1 (tells.0 (omega (arith, p.1))))
    by (inr p) false e = p.0 ∙ sym e
    by (inr p) true e = absurd (tells.1 (omega (arith, p.1)) ((active-law wait holds minute).0 e))

-- a pass begins at its minute or before it
pub start-before : (line : Line) (minute : ℕ) → line.origin ≤ minute → start_of line minute ≤ minute
start-before line minute le = by minute (wait_of line.rule) line.origin le
  where
    by : (minute wait origin : ℕ) → origin ≤ minute → max (minute - wait) origin ≤ minute
    by minute wait origin le = omega arith

-- a cursor that is behind a minute is behind each later one
pub behind-later : (rule : AlertRule) (width : ℕ) (leaf : ℕ → Leaf) (minute later : ℕ)
    (cursor : Option Cursor) → minute ≤ later → IfSome cursor (IsBehind rule width leaf minute)
    → IfSome cursor (IsBehind rule width leaf later)
behind-later rule width leaf minute later None le is = tt
behind-later rule width leaf minute later (Some cursor) le is =
    record { before = omega (arith, is.before, le); is = is.is }

-- from when on an alert is active over minutes at all of which its condition holds
pub first-tells : (from minute run wait first end u : ℕ)
    → first ≡ max from (min (minute + (wait - run)) 4294967295) → end < 2 ^ 32 → minute ≤ u
    → u < end → nat_le first u ≡ (nat_lt wait (run + (u - minute) + 1) && nat_le from u)
first-tells from minute run wait first end u is few low high = grind (arith, nat_tests)

pub first-later : (from minute run wait first : ℕ)
    → first ≡ max from (min (minute + (wait - run)) 4294967295) → minute < 2 ^ 32
    → minute ≤ first
first-later from minute run wait first is few = omega (arith, is, few)
