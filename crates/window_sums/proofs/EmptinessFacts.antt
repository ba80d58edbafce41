-- Ranges of slots in which there is no event.
use Rattle.std.proofs.Common.{◌≡◌, ◌≢◌, ℕ, zero, suc, ◌+◌, ◌-◌, ◌*◌, ◌/◌, ◌<◌, ◌≤◌, ◌⊎◌, ◌==◌, true}
use Rattle.std.proofs.Common.{false}
use Rattle.std.proofs.Common.{inl, inr, nat_le, refl, sym, ap, ◌∙◌, arith}
use Rattle.std.specs.Int.{div_ceil}
use Rattle.std.proofs.Math.Nat.{div-mul-le_self, le_of_mul-le-mul_right, lt-div-mul-add}
use Rattle.std.proofs.Math.Nat.{mul-le-mul_right}
use Rattle.std.proofs.lemmas.Grind.{div_ceil_times}
use Rattle.std.proofs.lemmas.Bool.Decides.{leb_tells, nat_tests}
use Rattle.exact_fraction.specs.declared.leaf.Leaf.{Leaf}
use Rattle.slo_terms.specs.Sums.{leaves_over, sum_over}
use Rattle.slo_terms.proofs.RangeLemmas.{no_term, sum_over-join}
use Rattle.window_sums.proofs.RangeFacts.{IsCut, larger-slots, slots-units, units-none}
use Rattle.window_sums.proofs.RangeFacts.{units-slots}

-- the den of the units from one up to another
abbrev pub den_of : (ℕ → Leaf) → ℕ → ℕ → ℕ → ℕ
den_of f from to u = (leaves_over f (from * u) ((to - from) * u)).den

-- a number is 0 exactly where it is no more than 0
pub is_none : (n : ℕ) → n ≡ 0 → true ≡ (n == 0)
is_none n e = grind (arith, nat_tests, e)

pub is_some : (n : ℕ) → 0 < n → false ≡ (n == 0)
is_some n less = grind (arith, nat_tests, less)

pub above : (n : ℕ) → n ≢ 0 → 0 < n
above zero h = absurd (h refl)
above (suc n) h = omega arith

-- of three parts, looked at from the end, the first with an event decides
last-some : (x y z t : ℕ) → t ≡ x + y + z → false ≡ (z == 0) → false ≡ (t == 0)
last-some x y z t e some = grind (arith, nat_tests, e, some)

middle-some : (x y z t : ℕ) → t ≡ x + y + z → false ≡ (y == 0) → false ≡ (t == 0)
middle-some x y z t e some = grind (arith, nat_tests, e, some)

first-left : (x y z t : ℕ) → t ≡ x + y + z → true ≡ (z == 0) → true ≡ (y == 0)
    → (x == 0) ≡ (t == 0)
first-left x y z t e none none-2 = grind (arith, nat_tests, e, none, none-2)

module _ (f : ℕ → Leaf) where
  -- no unit
  pub none-yet : (to u : ℕ) → den_of f to to u ≡ 0
  none-yet to u = sym (ap (λ (l : Leaf). l.den) (units-none f to u))

  -- two ranges side by side
  joined : (a b c u : ℕ) → a ≤ b → b ≤ c → den_of f a b u + den_of f b c u ≡ den_of f a c u
  joined a b c u ab bc =
      omega (
        arith,
        slots a b ab,
        slots b c bc,
        slots a c (omega (arith, ab, bc)),
        sum_over-join (λ k. (f k).den) (a * u) (b * u) (c * u) (mul-le-mul_right u ab)
            (mul-le-mul_right u bc),
      )
    where
      slots : (a c : ℕ) → a ≤ c
          → den_of f a c u ≡ sum_over (λ k. (f k).den) (a * u) (c * u - a * u)
      slots a c le = ap (λ (l : Leaf). l.den) (units-slots f a c u le)

  -- the last unit before a place
  single : (at u : ℕ) → 0 < at → den_of f (at - 1) at u ≡ (leaves_over f ((at - 1) * u) u).den
  single at u some = ap (λ n. sum_over (λ k. (f k).den) ((at - 1) * u) n) (one at some)
    where
      times : (u : ℕ) → 1 * u ≡ u
      times u = omega arith

      one : (at : ℕ) → 0 < at → (at - (at - 1)) * u ≡ u
      one at some = ap (λ n. n * u) (let e : at - (at - 1) ≡ 1 = omega (arith, some) in e)
          ∙ times u

  -- a unit without an event more
  pub none-before : (from at to u : ℕ) (one : Leaf) → from < at → at ≤ to
      → one ≡ leaves_over f ((at - 1) * u) u → one.den ≡ 0 → den_of f at to u ≡ 0
      → den_of f (at - 1) to u ≡ 0
  none-before from at to u one less le is nothing none =
      omega (
        arith,
        joined (at - 1) at to u (omega arith) le,
        single at u (omega (arith, less)),
        ap (λ (l : Leaf). l.den) is,
        nothing,
        none,
      )

  -- a unit with an event
  pub some-there : (from at to u : ℕ) (one : Leaf) → from < at → at ≤ to
      → one ≡ leaves_over f ((at - 1) * u) u → 0 < one.den → 0 < den_of f from to u
  some-there from at to u one less le is some =
      omega (
        arith,
        joined from (at - 1) at u (omega (arith, less)) (omega arith),
        joined from at to u (omega (arith, less)) le,
        single at u (omega (arith, less)),
        ap (λ (l : Leaf). l.den) is,
        some,
      )

  -- the units of a range that is cut at larger ones, of `count` units each
  parts : (from to first end count u : ℕ) → IsCut from to count first end
      → den_of f from to u ≡ den_of f from (first * count) u + den_of f first end (count * u)
      + den_of f (end * count) to u
  parts from to first end count u cut = by (mul-le-mul_right count cut.order)
    where
      larger : first * count ≤ end * count
          → den_of f first end (count * u) ≡ den_of f (first * count) (end * count) u
      larger order = ap (λ (l : Leaf). l.den) (larger-slots f first end count u cut.order
          ∙ sym (units-slots f (first * count) (end * count) u order))

      by : first * count ≤ end * count → den_of f from to u
          ≡ den_of f from (first * count) u + den_of f first end (count * u)
          + den_of f (end * count) to u
      by order =
          omega (
            arith,
            joined from (first * count) (end * count) u cut.from_first order,
            joined from (end * count) to u (omega (arith, cut.from_first, order)) cut.end_to,
            larger order,
          )

  -- a range within one without an event
  pub none-within : (a from to d u : ℕ) → a ≤ from → to ≤ d → den_of f a d u ≡ 0
      → den_of f from to u ≡ 0
  none-within a from to d u begin end none = by (leb_tells from to)
    where
      zeros : (u : ℕ) → 0 * u ≡ 0
      zeros u = omega arith

      by : ((nat_le from to ≡ true) × (from ≤ to)) ⊎ ((nat_le from to ≡ false) × (to < from))
          → den_of f from to u ≡ 0
      by (inl e) =
          omega (
            arith,
            joined a from d u begin (omega (arith, e.1, end)),
            joined from to d u e.1 end,
            none,
          )
      by (inr e) =
          ap (λ n. sum_over (λ k. (f k).den) (from * u) (n * u))
          (let e2 : to - from ≡ 0 = omega (arith, e.1) in e2)
          ∙ ap (λ n. sum_over (λ k. (f k).den) (from * u) n) (zeros u)
          ∙ no_term (λ k. (f k).den) (from * u)

-- A range of units that is cut at larger ones: from the end on, the first part with an event
-- decides ..
module _ (f : ℕ → Leaf) (from to first end count u : ℕ)
    (cut : IsCut from to count first end) where
  pub units-behind : false ≡ (den_of f (end * count) to u == 0)
      → false ≡ (den_of f from to u == 0)
  units-behind = last-some (den_of f from (first * count) u) (den_of f first end (count * u))
      (den_of f (end * count) to u) (den_of f from to u) (parts f from to first end count u cut)

  pub units-whole : false ≡ (den_of f first end (count * u) == 0)
      → false ≡ (den_of f from to u == 0)
  units-whole = middle-some (den_of f from (first * count) u) (den_of f first end (count * u))
      (den_of f (end * count) to u) (den_of f from to u) (parts f from to first end count u cut)

  pub units-before : true ≡ (den_of f (end * count) to u == 0)
      → true ≡ (den_of f first end (count * u) == 0)
      → (den_of f from (first * count) u == 0) ≡ (den_of f from to u == 0)
  units-before = first-left (den_of f from (first * count) u) (den_of f first end (count * u))
      (den_of f (end * count) to u) (den_of f from to u) (parts f from to first end count u cut)

-- .. and so of slots.
module _ (f : ℕ → Leaf) (from to first end count : ℕ)
    (cut : IsCut from to count first end) where
  slots : (den_of f from to 1 == 0) ≡ ((leaves_over f from (to - from)).den == 0)
  slots = ap (λ (l : Leaf). l.den == 0) (slots-units f from (to - from))

  one : (n : ℕ) → n ≡ n * 1
  one n = omega arith

  whole : (den_of f first end count == 0) ≡ (den_of f first end (count * 1) == 0)
  whole = ap (λ n. den_of f first end n == 0) (one count)

  pub slots-behind : false ≡ (den_of f (end * count) to 1 == 0)
      → false ≡ ((leaves_over f from (to - from)).den == 0)
  slots-behind some = units-behind f from to first end count 1 cut some ∙ slots

  pub slots-whole : false ≡ (den_of f first end count == 0)
      → false ≡ ((leaves_over f from (to - from)).den == 0)
  slots-whole some = units-whole f from to first end count 1 cut (some ∙ whole) ∙ slots

  pub slots-before : true ≡ (den_of f (end * count) to 1 == 0)
      → true ≡ (den_of f first end count == 0)
      → (den_of f from (first * count) 1 == 0) ≡ ((leaves_over f from (to - from)).den == 0)
  slots-before none none-2 =
      units-before f from to first end count 1 cut none (none-2 ∙ whole) ∙ slots

-- the days that a range touches have no event, nor has the range
pub days-none : (f : ℕ → Leaf) (from to day : ℕ) → 0 < day
    → true ≡ (den_of f (from / day) (div_ceil to day) day == 0)
    → true ≡ ((leaves_over f from (to - from)).den == 0)
days-none f from to day some none = by (leb_tells to from)
  where
    first : ℕ
    first = from / day

    end : ℕ
    end = div_ceil to day

    days : first * day ≤ end * day → first ≤ end
        → den_of f first end day ≡ den_of f (first * day) (end * day) 1
    days order le = ap (λ (l : Leaf). l.den) (units-slots f first end day le
        ∙ sym (slots-units f (first * day) (end * day - first * day)))

    begin : first * day ≤ from
    begin = div-mul-le_self from day

    behind : to ≤ end * day
    behind = (div_ceil_times to day some).0

    by : ((nat_le to from ≡ true) × (to ≤ from)) ⊎ ((nat_le to from ≡ false) × (from < to))
        → true ≡ ((leaves_over f from (to - from)).den == 0)
    by (inl e) =
        is_none (leaves_over f from (to - from)).den (ap (sum_over (λ k. (f k).den) from)
        (let e2 : to - from ≡ 0 = omega (arith, e.1) in e2) ∙ no_term (λ k. (f k).den) from)
    by (inr e) =
        is_none (leaves_over f from (to - from)).den
        (sym (ap (λ (l : Leaf). l.den) (slots-units f from (to - from)))
        ∙ none-within f (first * day) from to (end * day) 1 begin behind
        (sym (days order (le_of_mul-le-mul_right order some)) ∙ zero-where none))
      where
        order : first * day ≤ end * day
        order = omega (arith, begin, behind, e.1)

        zero-where : true ≡ (den_of f first end day == 0) → den_of f first end day ≡ 0
        zero-where h = grind (arith, nat_tests, h)

-- a range of 30 days touches 32 at most
pub days-few : (from to day : ℕ) → 0 < day → to - from ≤ 30 * day
    → div_ceil to day - from / day ≤ 32
days-few from to day some few = le_of_mul-le-mul_right (by (leb_tells first end)) some
  where
    first : ℕ
    first = from / day

    end : ℕ
    end = div_ceil to day

    times : (a b : ℕ) → (a + b) * day ≡ a * day + b * day
    times a b = omega arith

    none : (n : ℕ) → n ≡ 0 → n * day ≤ 32 * day
    none n e = rw e (omega arith)

    near : from < first * day + day
    near = lt-div-mul-add some

    parted : first ≤ end → end * day ≡ first * day + (end - first) * day
    parted le = ap (λ n. n * day) (let e : end ≡ first + (end - first) = omega (arith, le) in e)
        ∙ times first (end - first)

    by : ((nat_le first end ≡ true) × (first ≤ end)) ⊎ ((nat_le first end ≡ false) × (end < first))
        → (end - first) * day ≤ 32 * day
    by (inl e) =
        omega (
          arith,
          parted e.1,
          (div_ceil_times to day some).1,
          near,
          few,
        )
    by (inr e) = none (end - first) (omega (arith, e.1))
