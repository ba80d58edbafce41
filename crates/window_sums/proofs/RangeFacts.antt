-- Ranges of slots that are cut at whole hours or days.
use Rattle.std.proofs.Common.{◌≡◌, ℕ, zero, suc, ◌+◌, ◌-◌, ◌*◌, ◌/◌, ◌<◌, ◌≤◌, refl, sym}
use Rattle.std.proofs.Common.{ap, subst, ◌∙◌, arith, ◌⊎◌, inl, inr, nat_le, true, false}
use Rattle.std.specs.Int.{div_ceil}
use Rattle.std.proofs.Math.Nat.{div-mul-le_self, le_of_mul-le-mul_right, lt-div-mul-add}
use Rattle.std.proofs.Math.Nat.{mul-le-mul_right}
use Rattle.std.proofs.lemmas.Bool.Decides.{leb_tells}
use Rattle.std.proofs.lemmas.Nat.{div-mul-add}
use Rattle.std.proofs.lemmas.Grind.{div_ceil_times}
use Rattle.exact_fraction.specs.declared.leaf.Leaf.{Leaf}
use Rattle.slo_terms.specs.Sums.{AreSound, leaves_over, most_events}
use Rattle.slo_terms.proofs.RangeLemmas.{leaves-part, no_term, sum_over-join, sum_over-one}
use Rattle.slo_terms.proofs.RangeLemmas.{sum_over-split}
use Rattle.window_sums.specs.Ranges.{plus}

-- a leaf by its numbers
same_leaf : (a b : Leaf) → a.num ≡ b.num → a.den ≡ b.den → a ≡ b
same_leaf a b num den = λ i. record { num = num i; den = den i }

no_units : (from u : ℕ) → (from - from) * u ≡ 0
no_units from u = ap (λ n. n * u) (none from) ∙ zeros u
  where
    none : (n : ℕ) → n - n ≡ 0
    none n = omega arith

    zeros : (u : ℕ) → 0 * u ≡ 0
    zeros u = omega arith

times_one : (n : ℕ) → n * 1 ≡ n
times_one n = omega arith

-- a slot is a unit of one
pub unit-slot : (f : ℕ → Leaf) (at : ℕ) → f at ≡ leaves_over f (at * 1) 1
unit-slot f at =
    sym (ap (λ n. leaves_over f n 1) (times_one at)
    ∙ same_leaf (leaves_over f at 1) (f at) (sum_over-one (λ k. (f k).num) at)
    (sum_over-one (λ k. (f k).den) at))

pub slots-units : (f : ℕ → Leaf) (from count : ℕ)
    → leaves_over f (from * 1) (count * 1) ≡ leaves_over f from count
slots-units f from count = rw (times_one from, times_one count) refl

-- no unit
pub units-none : (f : ℕ → Leaf) (from u : ℕ)
    → record { num = 0; den = 0 } ≡ leaves_over f (from * u) ((from - from) * u)
units-none f from u =
    sym (ap (leaves_over f (from * u)) (no_units from u)
    ∙ same_leaf (leaves_over f (from * u) 0) (record { num = 0; den = 0 })
    (no_term (λ k. (f k).num) (from * u)) (no_term (λ k. (f k).den) (from * u)))

units_times : (a d u : ℕ) → (a + d) * u ≡ a * u + d * u
units_times a d u = omega arith

-- no slot
pub none-behind : (f : ℕ → Leaf) (from to : ℕ) → to ≤ from
    → record { num = 0; den = 0 } ≡ leaves_over f from (to - from)
none-behind f from to le =
    sym (ap (leaves_over f from) (none le)
    ∙ same_leaf (leaves_over f from 0) (record { num = 0; den = 0 })
    (no_term (λ k. (f k).num) from) (no_term (λ k. (f k).den) from))
  where
    none : to ≤ from → to - from ≡ 0
    none le = omega (arith, le)

-- a unit more
pub units-next : (f : ℕ → Leaf) (from at u : ℕ) → from ≤ at →
    leaves_over f (from * u) ((at + 1 - from) * u)
    ≡ plus (leaves_over f (from * u) ((at - from) * u)) (leaves_over f (at * u) u)
units-next f from at u le =
    ap (leaves_over f (from * u)) (more at from le)
    ∙ same_leaf (leaves_over f (from * u) ((at - from) * u + u)) (plus
    (leaves_over f (from * u) ((at - from) * u)) (leaves_over f (from * u + (at - from) * u) u))
    (sum_over-split (λ k. (f k).num) (from * u) ((at - from) * u) u)
    (sum_over-split (λ k. (f k).den) (from * u) ((at - from) * u) u)
    ∙ ap (λ n. plus (leaves_over f (from * u) ((at - from) * u)) (leaves_over f n u))
    (there from at le)
  where
    one : (n : ℕ) → (n + 1) * u ≡ n * u + u
    one n = omega arith

    more : (at from : ℕ) → from ≤ at → (at + 1 - from) * u ≡ (at - from) * u + u
    more at from le = ap (λ n. n * u) (let e : at + 1 - from ≡ at - from + 1 = omega (arith, le) in
        e) ∙ one (at - from)

    there : (from at : ℕ) → from ≤ at → from * u + (at - from) * u ≡ at * u
    there from at le = sym (units_times from (at - from) u)
        ∙ ap (λ n. n * u) (let e : from + (at - from) ≡ at = omega (arith, le) in e)

-- what a sum of units may gain
pub units-few : (f : ℕ → Leaf) → AreSound f → (from at u : ℕ) → from ≤ at →
    ((leaves_over f (from * u) ((at - from) * u)).num + (leaves_over f (at * u) u).num
    ≤ (leaves_over f (from * u) ((at - from) * u)).den + (leaves_over f (at * u) u).den)
    × ((leaves_over f (from * u) ((at - from) * u)).den + (leaves_over f (at * u) u).den
    ≤ most_events)
units-few f sound from at u le =
    subst (λ (l : Leaf). (l.num ≤ l.den) × (l.den ≤ most_events)) (units-next f from at u le) (
      leaves-part f sound (from * u) ((at + 1 - from) * u),
      sound.few (from * u) ((at + 1 - from) * u),
    )

minus : (a b u : ℕ) → b ≤ a → (a - b) * u ≡ a * u - b * u
minus a b u le = by (a - b)
    (ap (λ n. n * u) (let e : a ≡ b + (a - b) = omega (arith, le) in e) ∙ units_times b (a - b) u)
  where
    by : (d : ℕ) → a * u ≡ b * u + d * u → d * u ≡ a * u - b * u
    by d e = omega (arith, e)

-- units by their slots
pub units-slots : (f : ℕ → Leaf) (from to u : ℕ) → from ≤ to
    → leaves_over f (from * u) ((to - from) * u) ≡ leaves_over f (from * u) (to * u - from * u)
units-slots f from to u le = ap (leaves_over f (from * u)) (minus to from u le)

-- larger units, of `count` each, by their slots
pub larger-slots : (f : ℕ → Leaf) (first end count u : ℕ) → first ≤ end →
    leaves_over f (first * (count * u)) ((end - first) * (count * u))
    ≡ leaves_over f (first * count * u) (end * count * u - first * count * u)
larger-slots f first end count u le =
    units-slots f first end (count * u) le
    ∙ ap (λ n. leaves_over f n (end * (count * u) - n)) (regroup first)
    ∙ ap (λ n. leaves_over f (first * count * u) (n - first * count * u)) (regroup end)
  where
    regroup : (n : ℕ) → n * (count * u) ≡ n * count * u
    regroup n = omega arith

two : (f : ℕ → Leaf) (a b c : ℕ) → a ≤ b → b ≤ c
    → plus (leaves_over f a (b - a)) (leaves_over f b (c - b)) ≡ leaves_over f a (c - a)
two f a b c le le2 =
    same_leaf (plus (leaves_over f a (b - a)) (leaves_over f b (c - b))) (leaves_over f a (c - a))
    (sum_over-join (λ k. (f k).num) a b c le le2) (sum_over-join (λ k. (f k).den) a b c le le2)

-- three sums side by side, of the slots from a up to b, c and d
pub record AreParts (f : ℕ → Leaf) (a b c d : ℕ) (before middle after : Leaf) : Type 0 where
  pub order : (a ≤ b) × (b ≤ c) × (c ≤ d)
  pub before_is : before ≡ leaves_over f a (b - a)
  pub middle_is : middle ≡ leaves_over f b (c - b)
  pub after_is : after ≡ leaves_over f c (d - c)

module _ {f : ℕ → Leaf} {a b c d : ℕ} {before middle after : Leaf}
    (parts : AreParts f a b c d before middle after) where
  two_are : plus before middle ≡ leaves_over f a (c - a)
  two_are = rw (parts.before_is, parts.middle_is) (two f a b c parts.order.0 parts.order.1)

  pub parts-sum : plus (plus before middle) after ≡ leaves_over f a (d - a)
  parts-sum = ap (λ l. plus l after) two_are ∙ ap (plus (leaves_over f a (c - a))) parts.after_is
      ∙ two f a c d (omega (arith, parts.order.0, parts.order.1)) parts.order.2

  -- they may be added up
  pub parts-few : AreSound f
      → (before.num + middle.num + after.num ≤ before.den + middle.den + after.den)
      × (before.den + middle.den + after.den ≤ most_events)
  parts-few sound = subst (λ (l : Leaf). (l.num ≤ l.den) × (l.den ≤ most_events)) (sym parts-sum)
      (leaves-part f sound a (d - a), sound.few a (d - a))

-- the whole units of `count` slots in a range: from `first` up to `end`, where that is behind it
pub record IsCut (from to count first end : ℕ) : Type 0 where
  pub some : 0 < count
  pub order : first ≤ end
  pub from_first : from ≤ first * count
  pub near_first : first * count < from + count
  pub end_to : end * count ≤ to
  pub near_end : to < end * count + count

pub is_cut-some : (from to count first : ℕ) → 0 < count → first ≡ div_ceil from count
    → first ≤ to / count → IsCut from to count first (to / count)
is_cut-some from to count first some is le = record {
  some = some;
  order = le;
  from_first = subst (λ n. from ≤ n * count) (sym is) (div_ceil_times from count some).0;
  near_first = subst (λ n. n * count < from + count) (sym is) (div_ceil_times from count some).1;
  end_to = div-mul-le_self to count;
  near_end = lt-div-mul-add some;
}

pub is_cut : (from to count first : ℕ) → 0 < count → first ≡ div_ceil from count
    → first < to / count → IsCut from to count first (to / count)
is_cut from to count first some is less =
    is_cut-some from to count first some is (at_most first (to / count) less)
  where
    at_most : (a b : ℕ) → a < b → a ≤ b
    at_most a b less = omega (arith, less)

-- the first whole hour begins at most where the next hour does
first-near : (from count first : ℕ) → 0 < count → first * count < from + count
    → first ≤ from / count + 1
first-near from count first some near = by (leb_tells first (from / count + 1))
  where
    two : (q : ℕ) → (q + 1 + 1) * count ≡ q * count + count + count
    two q = omega arith

    next : (n m : ℕ) → n < m → n + 1 ≤ m
    next n m lt = omega arith

    by : ((nat_le first (from / count + 1) ≡ true) × (first ≤ from / count + 1))
        ⊎ ((nat_le first (from / count + 1) ≡ false) × (from / count + 1 < first))
        → first ≤ from / count + 1
    by (inl le) = le.1
    by (inr gt) = absurd (never (omega (
      arith,
      near,
      (let e : from < from / count * count + count = lt-div-mul-add some in e),
      two (from / count),
      mul-le-mul_right count (next (from / count + 1) first gt.1),
    )))
      where
        never : 0 < 0 → ⊥
        never lt = omega arith

-- slots up to the first whole hour, and those behind the last one, lie in one hour each
pub before-hour : (from to count first end : ℕ) → IsCut from to count first end
    → first * count ≤ (from / count + 1) * count
before-hour from to count first end cut =
    mul-le-mul_right count (first-near from count first cut.some cut.near_first)

pub after-hour : (from to count first end : ℕ) → IsCut from to count first end
    → to ≤ (end * count / count + 1) * count
after-hour from to count first end cut =
    subst (λ q. to ≤ (q + 1) * count) (sym (ap (λ n. n / count) (more (end * count))
    ∙ div-mul-add end count 0 cut.some)) (omega (arith, cut.near_end, one end))
  where
    more : (n : ℕ) → n ≡ n + 0
    more n = omega arith

    one : (n : ℕ) → (n + 1) * count ≡ n * count + count
    one n = omega arith

-- slots without a whole hour's beginning among them
pub one-hour : (from to count first : ℕ) → 0 < count → first ≡ div_ceil from count
    → to / count < first → to ≤ (from / count + 1) * count
one-hour from to count first some is less = omega (
  arith,
  (let e : to < to / count * count + count = lt-div-mul-add some in e),
  mul-le-mul_right count (below (to / count) first (from / count) less
      (first-near from count first some
      (subst (λ n. n * count < from + count) (sym is) (div_ceil_times from count some).1))),
  one (from / count),
)
  where
    below : (end first q : ℕ) → end < first → first ≤ q + 1 → end ≤ q
    below end first q lt le = omega (arith, lt, le)

    one : (n : ℕ) → (n + 1) * count ≡ n * count + count
    one n = omega arith

-- there are larger units, so the range isn't empty
pub cut-range : (from to count first end : ℕ) → IsCut from to count first end → from ≤ to
cut-range from to count first end cut = omega (
  arith,
  cut.from_first,
  mul-le-mul_right count cut.order,
  cut.end_to,
)

-- A range of units that is cut at larger ones, of `count` units each ..
pub larger-parts : (f : ℕ → Leaf) (from to first end count u : ℕ) (before middle after : Leaf) →
    IsCut from to count first end →
    before ≡ leaves_over f (from * u) ((first * count - from) * u) →
    middle ≡ leaves_over f (first * (count * u)) ((end - first) * (count * u)) →
    after ≡ leaves_over f (end * count * u) ((to - end * count) * u) →
    AreParts f (from * u) (first * count * u) (end * count * u) (to * u) before middle after
larger-parts f from to first end count u before middle after cut x y z = record {
  order = (
    mul-le-mul_right u cut.from_first,
    mul-le-mul_right u (mul-le-mul_right count cut.order),
    mul-le-mul_right u cut.end_to,
  );
  before_is = x ∙ units-slots f from (first * count) u cut.from_first;
  middle_is = y ∙ larger-slots f first end count u cut.order;
  after_is = z ∙ units-slots f (end * count) to u cut.end_to;
}

-- .. and a range of slots.
pub slot-parts : (f : ℕ → Leaf) (from to first end count : ℕ) (before middle after : Leaf) →
    IsCut from to count first end →
    before ≡ leaves_over f from (first * count - from) →
    middle ≡ leaves_over f (first * count) ((end - first) * count) →
    after ≡ leaves_over f (end * count) (to - end * count) →
    AreParts f from (first * count) (end * count) to before middle after
slot-parts f from to first end count before middle after cut x y z = record {
  order = (cut.from_first, mul-le-mul_right count cut.order, cut.end_to);
  before_is = x;
  middle_is = y ∙ units-slots f first end count cut.order;
  after_is = z;
}

-- reads that take no more than there are slots
pub cut-steps : (from to count first end : ℕ) → IsCut from to count first end →
    first * count - from + (end - first) + (to - end * count) ≤ to - from
cut-steps from to count first end cut =
    by (end - first) (ap (λ n. n * count) (let e : end ≡ first + (end - first) =
    omega (arith, cut.order) in e) ∙ units_times first (end - first) count)
    (grow (end - first) count cut.some)
  where
    grow : (d count : ℕ) → 0 < count → d ≤ d * count
    grow d (suc count) some = omega arith
    grow d zero some = absurd (none some)
      where
        none : 0 < 0 → ⊥
        none lt = omega arith

    by : (d : ℕ) → end * count ≡ first * count + d * count → d ≤ d * count
        → first * count - from + d + (to - end * count) ≤ to - from
    by d e less = omega (arith, e, less, cut.from_first, cut.end_to)

-- the whole hours of 400 days
cut-days : (from to count first end : ℕ) → IsCut from to count first end
    → to - from ≤ 400 * (24 * count) → end - first ≤ 9600
cut-days from to count first end cut few =
    le_of_mul-le-mul_right
    (by (end - first) (ap (λ n. n * count) (let e : end ≡ first + (end - first) =
    omega (arith, cut.order) in e) ∙ units_times first (end - first) count)) cut.some
  where
    by : (d : ℕ) → end * count ≡ first * count + d * count → d * count ≤ 9600 * count
    by d e = omega (arith, e, few, cut.from_first, cut.end_to)

-- the reads of 400 days that are cut at whole hours: slots of two hours that aren't whole, and
-- hours, of which those of a whole day are read at once
pub reads-few : (from to count per_hour first end : ℕ) → IsCut from to count first end
    → count ≡ per_hour → count ≤ 60 → to - from ≤ 400 * (24 * per_hour)
    → first * count - from + (46 + (end - first) / 24) + (to - end * count) ≤ 564
reads-few from to count per_hour first end cut same small few =
    omega (
      arith,
      cut-days from to count first end cut
          (subst (λ n. to - from ≤ 400 * (24 * n)) (sym same) few),
      cut.near_first,
      cut.near_end,
      small,
    )
