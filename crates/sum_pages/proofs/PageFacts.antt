-- The totals of a page, once a leaf of it is another.
use Rattle.std.proofs.Common.{◌≡◌, ◌≢◌, ◌⊎◌, ℕ, zero, suc, ◌+◌, ◌-◌, ◌*◌, ◌/◌, ◌≤◌, ◌<◌, nat_eq}
use Rattle.std.proofs.Common.{nat_le, true, false, inl, inr, List, length, replicate, refl, sym, ap}
use Rattle.std.proofs.Common.{subst, ◌∙◌, arith, slice_index_or, slice_set}
use Rattle.std.proofs.Math.Nat.{div-mul-le_self, lt-div-mul-add, mul-le-mul_right}
use Rattle.std.proofs.lemmas.Bool.Decides.{eqb_tells, leb_tells}
use Rattle.std.proofs.lemmas.List.{get_or-set_same, get_or-set_other, length-set, length-replicate}
use Rattle.std.proofs.lemmas.Nat.{div_below}
use Rattle.exact_fraction.specs.declared.leaf.Leaf.{Leaf}
use Rattle.slo_terms.specs.Sums.{leaves_over, most_events, sum_over}
use Rattle.slo_terms.proofs.RangeLemmas.{sum_over-apart, sum_over-changed, sum_over-like}
use Rattle.slo_terms.proofs.RangeLemmas.{sum_over-next, sum_over-none, sum_over-part}
use Rattle.slo_terms.proofs.RangeLemmas.{sum_over-split, sum_over-start}
use Rattle.slo_terms.proofs.RangeLemmas.{sum_over-term, sum_over-within}
use Rattle.sum_pages.specs.Pages.{IsPage, MayExchange, new_total, leaf_in, no_leaf}

-- a total that gains `new` and loses `old`
exchange : (old new a b : ℕ) → b ≤ old → new + b ≡ old + a → new ≡ old - b + a
exchange old new a b le e = omega (arith, le, e)

module _ (leaves : List Leaf) (place : ℕ) (value : Leaf) (within : place < length leaves) where
  abbrev after : List Leaf
  after = slice_set leaves place value

  here : leaf_in after place ≡ value
  here = get_or-set_same leaves place value no_leaf within

  others : (k : ℕ) → k ≢ place → leaf_in after k ≡ leaf_in leaves k
  others k other = get_or-set_other leaves place k value no_leaf other

  -- a range with the place loses the old leaf and gains the new one
  pub leaves_over-changed : (first count : ℕ) → first ≤ place → place < first + count →
      leaves_over (leaf_in (slice_set leaves place value)) first count
      ≡ new_total (leaves_over (leaf_in leaves) first count) (leaf_in leaves place) value
  leaves_over-changed first count a b = λ i. record { num = num i; den = den i }
    where
      num : (leaves_over (leaf_in after) first count).num
          ≡ (leaves_over (leaf_in leaves) first count).num - (leaf_in leaves place).num + value.num
      num = exchange (leaves_over (leaf_in leaves) first count).num
          (leaves_over (leaf_in after) first count).num value.num (leaf_in leaves place).num
          (sum_over-term (λ k. (leaf_in leaves k).num) place first count a b)
          (sum_over-changed (λ k. (leaf_in leaves k).num) (λ k. (leaf_in after k).num) place
          (λ k o. ap (λ (l : Leaf). l.num) (others k o)) first count a b
          ∙ ap (λ (l : Leaf). (leaves_over (leaf_in leaves) first count).num + l.num) here)

      den : (leaves_over (leaf_in after) first count).den
          ≡ (leaves_over (leaf_in leaves) first count).den - (leaf_in leaves place).den + value.den
      den = exchange (leaves_over (leaf_in leaves) first count).den
          (leaves_over (leaf_in after) first count).den value.den (leaf_in leaves place).den
          (sum_over-term (λ k. (leaf_in leaves k).den) place first count a b)
          (sum_over-changed (λ k. (leaf_in leaves k).den) (λ k. (leaf_in after k).den) place
          (λ k o. ap (λ (l : Leaf). l.den) (others k o)) first count a b
          ∙ ap (λ (l : Leaf). (leaves_over (leaf_in leaves) first count).den + l.den) here)

  -- a range without it stays
  leaves_over-kept : (first count : ℕ) → (place < first) ⊎ (first + count ≤ place) →
      leaves_over (leaf_in after) first count ≡ leaves_over (leaf_in leaves) first count
  leaves_over-kept first count apart = λ i. record { num = num i; den = den i }
    where
      num : (leaves_over (leaf_in after) first count).num
          ≡ (leaves_over (leaf_in leaves) first count).num
      num = sum_over-apart (λ k. (leaf_in leaves k).num) (λ k. (leaf_in after k).num) place
          (λ k o. ap (λ (l : Leaf). l.num) (others k o)) first count apart

      den : (leaves_over (leaf_in after) first count).den
          ≡ (leaves_over (leaf_in leaves) first count).den
      den = sum_over-apart (λ k. (leaf_in leaves k).den) (λ k. (leaf_in after k).den) place
          (λ k o. ap (λ (l : Leaf). l.den) (others k o)) first count apart

  -- each leaf is a part still
  parts-changed : ((k : ℕ) → (leaf_in leaves k).num ≤ (leaf_in leaves k).den)
      → value.num ≤ value.den → (k : ℕ) → (leaf_in after k).num ≤ (leaf_in after k).den
  parts-changed parts part k = by (eqb_tells k place)
    where
      by : ((nat_eq k place ≡ true) × (k ≡ place)) ⊎ ((nat_eq k place ≡ false) × (k ≢ place))
          → (leaf_in after k).num ≤ (leaf_in after k).den
      by (inl same) = subst (λ j. (leaf_in after j).num ≤ (leaf_in after j).den) (sym same.1)
          (subst (λ (l : Leaf). l.num ≤ l.den) (sym here) part)
      by (inr other) = subst (λ (l : Leaf). l.num ≤ l.den) (sym (others k other.1)) (parts k)

  -- a total of the page may exchange the leaf, where all of the page stays small
  may_exchange : (first count : ℕ) → first ≤ place → place < first + count →
      first + count ≤ length leaves →
      ((k : ℕ) → (leaf_in leaves k).num ≤ (leaf_in leaves k).den) → value.num ≤ value.den →
      (leaves_over (leaf_in (slice_set leaves place value)) 0 (length leaves)).den ≤ most_events →
      MayExchange (leaves_over (leaf_in leaves) first count) (leaf_in leaves place) value
  may_exchange first count a b le parts part few = record {
    num = sum_over-term (λ k. (leaf_in leaves k).num) place first count a b;
    den = sum_over-term (λ k. (leaf_in leaves k).den) place first count a b;
    num_after = subst (λ (l : Leaf). l.num ≤ most_events) (leaves_over-changed first count a b)
        (omega (arith, num, den));
    den_after = subst (λ (l : Leaf). l.den ≤ most_events) (leaves_over-changed first count a b) den;
  }
    where
      same : (n : ℕ) → 0 + n ≡ n
      same n = omega arith

      den : (leaves_over (leaf_in after) first count).den ≤ most_events
      den = omega (
        arith,
        sum_over-split (λ k. (leaf_in after k).den) 0 first count,
        ap (λ k. sum_over (λ k. (leaf_in after k).den) k count) (same first),
        sum_over-within (λ k. (leaf_in after k).den) 0 (first + count) (length leaves) le,
        few,
      )

      num : (leaves_over (leaf_in after) first count).num
          ≤ (leaves_over (leaf_in after) first count).den
      num = sum_over-part (λ k. (leaf_in after k).num) (λ k. (leaf_in after k).den)
          (parts-changed parts part) first count

-- the hour that a place lies in
pub record IsIn (place per_hour : ℕ) : Type 0 where
  pub some : 0 < per_hour
  pub hour : place / per_hour < 24
  pub from : place / per_hour * per_hour ≤ place
  pub to : place < place / per_hour * per_hour + per_hour
  pub all : place / per_hour * per_hour + per_hour ≤ 24 * per_hour

pub its_hour : (place per_hour : ℕ) → place < 24 * per_hour → IsIn place per_hour
its_hour place per_hour lt = record {
  some = some;
  hour = hour;
  from = div-mul-le_self place per_hour;
  to = lt-div-mul-add some;
  all = omega (
    arith,
    mul-le-mul_right per_hour (next (place / per_hour) hour),
    one (place / per_hour),
  );
}
  where
    some : 0 < per_hour
    some = omega (arith, lt)

    hour : place / per_hour < 24
    hour = div_below place per_hour 24 some lt

    next : (h : ℕ) → h < 24 → h + 1 ≤ 24
    next h lt = omega arith

    one : (h : ℕ) → (h + 1) * per_hour ≡ h * per_hour + per_hour
    one h = omega arith

-- another hour has no part in it
apart_from : (place per_hour k : ℕ) → place < 24 * per_hour → k ≢ place / per_hour
    → (place < k * per_hour) ⊎ (k * per_hour + per_hour ≤ place)
apart_from place per_hour k lt other =
    by (leb_tells k (place / per_hour)) (its_hour place per_hour lt)
  where
    one : (h : ℕ) → (h + 1) * per_hour ≡ h * per_hour + per_hour
    one h = omega arith

    less : (a b : ℕ) → a ≤ b → a ≢ b → a + 1 ≤ b
    less a b le other = by (leb_tells b a)
      where
        same : (a b : ℕ) → a ≤ b → b ≤ a → a ≡ b
        same a b x y = omega arith

        by : ((nat_le b a ≡ true) × (b ≤ a)) ⊎ ((nat_le b a ≡ false) × (a < b)) → a + 1 ≤ b
        by (inl e) = absurd (other (same a b le e.1))
        by (inr e) = omega (arith, e.1)

    by : ((nat_le k (place / per_hour) ≡ true) × (k ≤ place / per_hour))
        ⊎ ((nat_le k (place / per_hour) ≡ false) × (place / per_hour < k)) → IsIn place per_hour →
        (place < k * per_hour) ⊎ (k * per_hour + per_hour ≤ place)
    by (inl e) within = inr (omega (
      arith,
      mul-le-mul_right per_hour (less k (place / per_hour) e.1 other),
      one k,
      within.from,
    ))
    by (inr e) within =
        inl (omega (
          arith,
          mul-le-mul_right per_hour (more (place / per_hour) k e.1),
          one (place / per_hour),
          within.to,
        ))
      where
        more : (a b : ℕ) → a < b → a + 1 ≤ b
        more a b lt = omega arith

pub length-hours : (n per_hour : ℕ) → n ≡ 24 * per_hour → n / 24 ≡ per_hour
length-hours n per_hour e = omega (arith, e)

pub hour-may_exchange : (leaves hours : List Leaf) (total : Leaf) (place per_hour : ℕ)
    (value : Leaf) → IsPage leaves hours total →
    place < length leaves → length leaves ≡ 24 * per_hour → value.num ≤ value.den →
    (leaves_over (leaf_in (slice_set leaves place value)) 0 (length leaves)).den ≤ most_events →
    MayExchange (leaves_over (leaf_in leaves) (place / per_hour * (length leaves / 24))
    (length leaves / 24)) (leaf_in leaves place) value
hour-may_exchange leaves hours total place per_hour value page within hours_are part few =
    subst (λ n. MayExchange (leaves_over (leaf_in leaves) (place / per_hour * n) n)
    (leaf_in leaves place) value) (sym (length-hours (length leaves) per_hour hours_are))
    (by (its_hour place per_hour (omega (arith, within, hours_are))))
  where
    by : IsIn place per_hour
        → MayExchange (leaves_over (leaf_in leaves) (place / per_hour * per_hour) per_hour)
        (leaf_in leaves place) value
    by its = may_exchange leaves place value within (place / per_hour * per_hour) per_hour its.from
        its.to (omega (arith, its.all, hours_are)) page.parts part few

pub day-may_exchange : (leaves hours : List Leaf) (total : Leaf) (place : ℕ) (value : Leaf) →
    IsPage leaves hours total →
    place < length leaves → value.num ≤ value.den →
    (leaves_over (leaf_in (slice_set leaves place value)) 0 (length leaves)).den ≤ most_events →
    MayExchange (leaves_over (leaf_in leaves) 0 (length leaves)) (leaf_in leaves place) value
day-may_exchange leaves hours total place value page within part few =
    may_exchange leaves place value within 0 (length leaves) (omega arith) (omega (arith, within))
    (omega arith) page.parts part few

-- A page stays one where a leaf of it, the total of its hour and that of the day are exchanged.
pub IsPage-set : (leaves hours : List Leaf) (total : Leaf) (place per_hour : ℕ)
    (value of_hour of_day : Leaf) → IsPage leaves hours total →
    place < length leaves → length leaves ≡ 24 * per_hour → value.num ≤ value.den →
    (leaves_over (leaf_in (slice_set leaves place value)) 0 (length leaves)).den ≤ most_events →
    of_hour ≡ new_total (leaves_over (leaf_in leaves) (place / per_hour * (length leaves / 24))
    (length leaves / 24)) (leaf_in leaves place) value →
    of_day ≡ new_total (leaves_over (leaf_in leaves) 0 (length leaves))
    (leaf_in leaves place) value →
    IsPage (slice_set leaves place value) (slice_set hours (place / per_hour) of_hour) of_day
IsPage-set leaves hours total place per_hour value of_hour of_day page within hours_are part few
    hour_is day_is = record {
      even = rw (length-set leaves place value) page.even;
      all = length-set hours (place / per_hour) of_hour ∙ page.all;
      each = rw (length-set leaves place value, long) (each (its_hour place per_hour inside));
      day = rw (length-set leaves place value) (day_is ∙ sym (leaves_over-changed leaves place value
          within 0 (length leaves) (omega arith) (omega (arith, within))));
      parts = parts-changed leaves place value within page.parts part;
      few = rw (length-set leaves place value) few;
    }
  where
    long : length leaves / 24 ≡ per_hour
    long = length-hours (length leaves) per_hour hours_are

    inside : place < 24 * per_hour
    inside = omega (arith, within, hours_are)

    each : IsIn place per_hour
        → (h : ℕ) → h < 24 → leaf_in (slice_set hours (place / per_hour) of_hour) h
        ≡ leaves_over (leaf_in (slice_set leaves place value)) (h * per_hour) per_hour
    each its h lt = by (eqb_tells h (place / per_hour))
      where
        by : ((nat_eq h (place / per_hour) ≡ true) × (h ≡ place / per_hour))
            ⊎ ((nat_eq h (place / per_hour) ≡ false) × (h ≢ place / per_hour)) →
            leaf_in (slice_set hours (place / per_hour) of_hour) h
            ≡ leaves_over (leaf_in (slice_set leaves place value)) (h * per_hour) per_hour
        by (inl same) =
            ap (λ k. leaf_in (slice_set hours (place / per_hour) of_hour) k) same.1
            ∙ get_or-set_same hours (place / per_hour) of_hour no_leaf
            (omega (arith, its.hour, page.all))
            ∙ hour_is ∙ ap (λ n. new_total (leaves_over (leaf_in leaves) (place / per_hour * n) n)
            (leaf_in leaves place) value) long
            ∙ sym (leaves_over-changed leaves place value within (place / per_hour * per_hour)
            per_hour its.from its.to)
            ∙ ap (λ k. leaves_over (leaf_in (slice_set leaves place value)) (k * per_hour) per_hour)
            (sym same.1)
        by (inr other) =
            get_or-set_other hours (place / per_hour) h of_hour no_leaf other.1
            ∙ page.each h lt ∙ ap (λ n. leaves_over (leaf_in leaves) (h * n) n) long
            ∙ sym (leaves_over-kept leaves place value within (h * per_hour) per_hour
            (apart_from place per_hour h inside other.1))

blank : (n k : ℕ) → slice_index_or (replicate n no_leaf) k no_leaf ≡ no_leaf
blank zero k = refl
blank (suc n) zero = refl
blank (suc n) (suc k) = blank n k

-- leaves of which none has data
pub leaves_over-nothing : (leaf : ℕ → Leaf) (first count : ℕ)
    → ((k : ℕ) → first ≤ k → k < first + count → leaf k ≡ no_leaf)
    → leaves_over leaf first count ≡ no_leaf
leaves_over-nothing leaf first count nothing = λ i. record { num = num i; den = den i }
  where
    num : (leaves_over leaf first count).num ≡ 0
    num = sum_over-like (λ k. (leaf k).num) (λ k. 0) first count
        (λ k a b. ap (λ (l : Leaf). l.num) (nothing k a b)) ∙ sum_over-none first count

    den : (leaves_over leaf first count).den ≡ 0
    den = sum_over-like (λ k. (leaf k).den) (λ k. 0) first count
        (λ k a b. ap (λ (l : Leaf). l.den) (nothing k a b)) ∙ sum_over-none first count

-- a page without data
pub IsPage-none : (per_hour : ℕ)
    → IsPage (replicate (24 * per_hour) no_leaf) (replicate 24 no_leaf) no_leaf
IsPage-none per_hour = record {
  even = omega (arith, length-replicate (24 * per_hour) no_leaf);
  all = length-replicate 24 no_leaf;
  each = λ h lt. blank 24 h ∙ sym (nothing (h * (length (replicate (24 * per_hour) no_leaf) / 24))
      (length (replicate (24 * per_hour) no_leaf) / 24));
  day = sym (nothing 0 (length (replicate (24 * per_hour) no_leaf)));
  parts = λ k. subst (λ (l : Leaf). l.num ≤ l.den) (sym (blank (24 * per_hour) k)) (omega arith);
  few = subst (λ (l : Leaf). l.den ≤ most_events)
      (sym (nothing 0 (length (replicate (24 * per_hour) no_leaf)))) (omega arith);
}
  where
    nothing : (first count : ℕ)
        → leaves_over (leaf_in (replicate (24 * per_hour) no_leaf)) first count ≡ no_leaf
    nothing first count = leaves_over-nothing (leaf_in (replicate (24 * per_hour) no_leaf)) first
        count (λ k a b. blank (24 * per_hour) k)

-- no leaf yet
pub leaves-none : (f : ℕ → Leaf) (from : ℕ) → no_leaf ≡ leaves_over f from (from - from)
leaves-none f from = λ i. record {
  num = sym (sum_over-start (λ k. (f k).num) from) i;
  den = sym (sum_over-start (λ k. (f k).den) from) i;
}

-- a leaf more
pub leaves-next : (f : ℕ → Leaf) (from at : ℕ) → from ≤ at →
    ((leaves_over f from (at + 1 - from)).num ≡ (leaves_over f from (at - from)).num + (f at).num)
    × ((leaves_over f from (at + 1 - from)).den ≡ (leaves_over f from (at - from)).den + (f at).den)
leaves-next f from at le = (
  sum_over-next (λ k. (f k).num) from at le,
  sum_over-next (λ k. (f k).den) from at le,
)

-- some leaves of a page: a part of a whole, which is small
pub leaves-few : (leaves hours : List Leaf) (total : Leaf) → IsPage leaves hours total →
    (from to : ℕ) → from ≤ to → to ≤ length leaves →
    ((leaves_over (leaf_in leaves) from (to - from)).num
    ≤ (leaves_over (leaf_in leaves) from (to - from)).den)
    × ((leaves_over (leaf_in leaves) from (to - from)).den ≤ most_events)
leaves-few leaves hours total page from to le within = (
  sum_over-part (λ k. (leaf_in leaves k).num) (λ k. (leaf_in leaves k).den) page.parts from
      (to - from),
  omega (
    arith,
    sum_over-split (λ k. (leaf_in leaves k).den) 0 from (to - from),
    ap (λ k. sum_over (λ k. (leaf_in leaves k).den) k (to - from)) (same from),
    ap (sum_over (λ k. (leaf_in leaves k).den) 0) (all from to le),
    sum_over-within (λ k. (leaf_in leaves k).den) 0 to (length leaves) within,
    page.few,
  ),
)
  where
    same : (n : ℕ) → 0 + n ≡ n
    same n = omega arith

    all : (from to : ℕ) → from ≤ to → from + (to - from) ≡ to
    all from to le = omega arith
