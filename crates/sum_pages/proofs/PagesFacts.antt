-- The pages of all days, read and changed.
use Rattle.std.proofs.Common.{◌≡◌, ◌≢◌, ◌⊎◌, ℕ, ◌+◌, ◌-◌, ◌*◌, ◌/◌, ◌%◌, ◌≤◌, ◌<◌, nat_eq, true}
use Rattle.std.proofs.Common.{inl, inr, IsTrue, All, List, [], ◌∷◌, ◌++◌, length, replicate, refl}
use Rattle.std.proofs.Common.{false, sym, ap, subst, ◌∙◌, arith, slice_set}
use Rattle.std.specs.Int.{◌∣◌}
use Rattle.std.specs.Map.{set_value, values_of}
use Rattle.std.proofs.Math.Nat.{div-add-mod', mul-le-mul_right, pos_of_dvd_of_pos}
use Rattle.std.proofs.lemmas.Bool.Decides.{eqb_tells}
use Rattle.std.proofs.lemmas.List.{length-set, length-replicate}
use Rattle.std.proofs.lemmas.List.Elements.{All-push}
use Rattle.std.proofs.lemmas.Map.Views.{All-values-set_value}
use Rattle.std.proofs.lemmas.Nat.{div-mul-add, div_below, mod-mul-add, mod_below}
use Rattle.std.proofs.lemmas.Nat.Gcd.{le_of_dvd}
use Rattle.exact_fraction.specs.declared.leaf.Leaf.{Leaf}
use Rattle.slo_terms.specs.Sums.{AreFew, leaves_over, most_events, sum_over}
use Rattle.slo_terms.proofs.RangeLemmas.{sum_over-moved, sum_over-none, sum_over-same}
use Rattle.sum_pages.specs.DayTables.{value_at, values_of_day}
use Rattle.sum_pages.specs.Pages.{ArePages, LeafDays, has_day, leaf_after, leaf_at, leaf_in}
use Rattle.sum_pages.specs.Pages.{no_leaf, slots_a_day}
use Rattle.sum_pages.proofs.DayLemmas.{changed_day, of_day, value_at-added, value_at-changed}
use Rattle.sum_pages.proofs.DayLemmas.{values_of-push}
use Rattle.sum_pages.proofs.PageFacts.{leaves_over-nothing, length-hours}

pub hour-some : (n : ℕ) → n ∣ 60 → 0 < n
hour-some n divides = pos_of_dvd_of_pos divides (omega arith)

pub hour-few : (n : ℕ) → n ∣ 60 → n ≤ 60
hour-few n divides = le_of_dvd (omega arith) divides

-- a day has slots
pub day-some : (pages : LeafDays) → ArePages pages → 0 < slots_a_day pages
day-some pages are = omega (arith, hour-some pages.per_hour are.divides)

-- the same leaves at other places have the same sum
leaves_over-moved : (f g : ℕ → Leaf) (first other count : ℕ)
    → ((i : ℕ) → i < count → f (first + i) ≡ g (other + i))
    → leaves_over f first count ≡ leaves_over g other count
leaves_over-moved f g first other count each = λ i. record { num = num i; den = den i }
  where
    num : (leaves_over f first count).num ≡ (leaves_over g other count).num
    num = sum_over-moved (λ k. (f k).num) (λ k. (g k).num) first other count
        (λ i lt. ap (λ (l : Leaf). l.num) (each i lt))

    den : (leaves_over f first count).den ≡ (leaves_over g other count).den
    den = sum_over-moved (λ k. (f k).den) (λ k. (g k).den) first other count
        (λ i lt. ap (λ (l : Leaf). l.den) (each i lt))

-- the leaf at a place of a day
leaf-here : (count : ℕ) (days : List (ℕ × List Leaf)) (day i : ℕ) → i < count
    → value_at no_leaf count days (day * count + i) ≡ leaf_in (values_of_day days day) i
leaf-here count days day i lt = rw (div-mul-add day count i lt, mod-mul-add day count i lt) refl

from_none : (i : ℕ) → 0 + i ≡ i
from_none i = omega arith

-- an hour as part of its day
hour-slots : (hour per_hour i : ℕ)
    → hour * per_hour + i ≡ hour / 24 * (24 * per_hour) + (hour % 24 * per_hour + i)
hour-slots hour per_hour i = ap (λ h. h * per_hour + i) (sym (div-add-mod' hour 24))
    ∙ regroup (hour / 24) (hour % 24)
  where
    regroup : (q r : ℕ) → (q * 24 + r) * per_hour + i ≡ q * (24 * per_hour) + (r * per_hour + i)
    regroup q r = omega arith

hour-within : (r per_hour i : ℕ) → r < 24 → i < per_hour → r * per_hour + i < 24 * per_hour
hour-within r per_hour i lt less = omega (arith, mul-le-mul_right per_hour (below r lt), less)
  where
    below : (r : ℕ) → r < 24 → r ≤ 23
    below r lt = omega arith

hour-leaf : (pages : LeafDays) (hour i : ℕ) → i < pages.per_hour
    → leaf_in (values_of_day pages.days (hour / 24)) (hour % 24 * pages.per_hour + i)
    ≡ leaf_at pages (hour * pages.per_hour + i)
hour-leaf pages hour i lt =
    sym (ap (leaf_at pages) (hour-slots hour pages.per_hour i)
    ∙ leaf-here (slots_a_day pages) pages.days (hour / 24) (hour % 24 * pages.per_hour + i)
    (hour-within (hour % 24) pages.per_hour i (mod_below hour 24 (omega arith)) lt))

-- the leaves of an hour of a day that is there
pub hour-read : (pages : LeafDays) (hour : ℕ) →
    length (values_of_day pages.days (hour / 24)) ≡ slots_a_day pages →
    leaves_over (leaf_in (values_of_day pages.days (hour / 24)))
    (hour % 24 * (length (values_of_day pages.days (hour / 24)) / 24))
    (length (values_of_day pages.days (hour / 24)) / 24)
    ≡ leaves_over (leaf_at pages) (hour * pages.per_hour) pages.per_hour
hour-read pages hour whole =
    ap (λ n. leaves_over (leaf_in (values_of_day pages.days (hour / 24))) (hour % 24 * n) n)
    (length-hours (length (values_of_day pages.days (hour / 24))) pages.per_hour whole)
    ∙ leaves_over-moved (leaf_in (values_of_day pages.days (hour / 24))) (leaf_at pages)
    (hour % 24 * pages.per_hour) (hour * pages.per_hour) pages.per_hour (hour-leaf pages hour)

nothing-moved : (f : ℕ → Leaf) (first count : ℕ) → ((i : ℕ) → i < count → f (first + i) ≡ no_leaf)
    → no_leaf ≡ leaves_over f first count
nothing-moved f first count each =
    sym (leaves_over-nothing (λ k. no_leaf) 0 count (λ k a b. refl))
    ∙ leaves_over-moved (λ k. no_leaf) f 0 first count (λ i lt. sym (each i lt))

-- an hour of another day
pub hour-nothing : (pages : LeafDays) (hour : ℕ) → values_of_day pages.days (hour / 24) ≡ [] →
    no_leaf ≡ leaves_over (leaf_at pages) (hour * pages.per_hour) pages.per_hour
hour-nothing pages hour none =
    nothing-moved (leaf_at pages) (hour * pages.per_hour) pages.per_hour
    (λ i lt. sym (hour-leaf pages hour i lt)
    ∙ ap (λ leaves. leaf_in leaves (hour % 24 * pages.per_hour + i)) none)

-- the leaves of a day
pub day-read : (pages : LeafDays) (day : ℕ) →
    length (values_of_day pages.days day) ≡ slots_a_day pages →
    leaves_over (leaf_in (values_of_day pages.days day)) 0 (length (values_of_day pages.days day))
    ≡ leaves_over (leaf_at pages) (day * slots_a_day pages) (slots_a_day pages)
day-read pages day whole =
    ap (leaves_over (leaf_in (values_of_day pages.days day)) 0) whole
    ∙ leaves_over-moved (leaf_in (values_of_day pages.days day)) (leaf_at pages) 0
    (day * slots_a_day pages) (slots_a_day pages)
    (λ i lt. ap (leaf_in (values_of_day pages.days day)) (from_none i)
    ∙ sym (leaf-here (slots_a_day pages) pages.days day i lt))

pub day-nothing : (pages : LeafDays) (day : ℕ) → values_of_day pages.days day ≡ [] →
    no_leaf ≡ leaves_over (leaf_at pages) (day * slots_a_day pages) (slots_a_day pages)
day-nothing pages day none =
    nothing-moved (leaf_at pages) (day * slots_a_day pages) (slots_a_day pages)
    (λ i lt. leaf-here (slots_a_day pages) pages.days day i lt
    ∙ ap (λ leaves. leaf_in leaves i) none)

-- the slots of an hour lie in one day
pub rest-within : (from to per_hour : ℕ) → 0 < per_hour → from ≤ to
    → to ≤ (from / per_hour + 1) * per_hour
    → from % (24 * per_hour) + (to - from) ≤ 24 * per_hour
rest-within from to per_hour some le hour =
    by (from / (24 * per_hour)) (from % (24 * per_hour)) (div-add-mod' from (24 * per_hour))
    (mod_below from (24 * per_hour) (omega (arith, some)))
  where
    regroup : (day : ℕ) → (day + 1) * 24 * per_hour ≡ day * (24 * per_hour) + 24 * per_hour
    regroup day = omega arith

    next : (h n : ℕ) → h < n → h + 1 ≤ n
    next h n lt = omega arith

    by : (day place : ℕ) → day * (24 * per_hour) + place ≡ from → place < 24 * per_hour
        → place + (to - from) ≤ 24 * per_hour
    by day place is lt = omega (
      arith,
      is,
      le,
      hour,
      regroup day,
      mul-le-mul_right per_hour (next (from / per_hour) ((day + 1) * 24)
          (div_below from per_hour ((day + 1) * 24) some (omega (arith, is, lt, regroup day)))),
    )

-- a slot behind another of its day
slot-leaf : (pages : LeafDays) (from i : ℕ) → from % slots_a_day pages + i < slots_a_day pages
    → leaf_in (values_of_day pages.days (from / slots_a_day pages)) (from % slots_a_day pages + i)
    ≡ leaf_at pages (from + i)
slot-leaf pages from i lt =
    sym (ap (leaf_at pages) (by (from / slots_a_day pages) (from % slots_a_day pages)
    (div-add-mod' from (slots_a_day pages)))
    ∙ leaf-here (slots_a_day pages) pages.days (from / slots_a_day pages)
    (from % slots_a_day pages + i) lt)
  where
    by : (day place : ℕ) → day * slots_a_day pages + place ≡ from
        → from + i ≡ day * slots_a_day pages + (place + i)
    by day place is = omega (arith, is)

-- the leaves of some slots of a day
pub leaves-read : (pages : LeafDays) (from count : ℕ)
    → from % slots_a_day pages + count ≤ slots_a_day pages
    → leaves_over (leaf_in (values_of_day pages.days (from / slots_a_day pages)))
    (from % slots_a_day pages) count ≡ leaves_over (leaf_at pages) from count
leaves-read pages from count within =
    leaves_over-moved (leaf_in (values_of_day pages.days (from / slots_a_day pages)))
    (leaf_at pages) (from % slots_a_day pages) from count
    (λ i lt. slot-leaf pages from i (omega (arith, within, lt)))

pub leaves-nothing : (pages : LeafDays) (from count : ℕ)
    → from % slots_a_day pages + count ≤ slots_a_day pages
    → values_of_day pages.days (from / slots_a_day pages) ≡ []
    → no_leaf ≡ leaves_over (leaf_at pages) from count
leaves-nothing pages from count within none =
    nothing-moved (leaf_at pages) from count
    (λ i lt. sym (slot-leaf pages from i (omega (arith, within, lt)))
    ∙ ap (λ leaves. leaf_in leaves (from % slots_a_day pages + i)) none)

-- a day that is there has all of its slots
pub day_whole : (pages : LeafDays) (day : ℕ) → ArePages pages → IsTrue (has_day pages day)
    → length (values_of_day pages.days day) ≡ slots_a_day pages
day_whole pages day are there =
    of_day no_leaf pages.days (λ leaves. length leaves ≡ slots_a_day pages) are.whole day there

-- the pages, each of so many slots, once the leaf of one is another
abbrev pub days_by : ℕ → LeafDays → ℕ → Leaf → List (ℕ × List Leaf)
days_by slots pages slot value =
    set_value (nat_eq (slot / slots)) pages.days
    (slice_set (values_of_day pages.days (slot / slots)) (slot % slots) value)

abbrev pub days_after : LeafDays → ℕ → Leaf → List (ℕ × List Leaf)
days_after pages slot value = days_by (slots_a_day pages) pages slot value

module _ (pages : LeafDays) (slot : ℕ) (value : Leaf) (are : ArePages pages)
    (there : IsTrue (has_day pages (slot / slots_a_day pages))) where
  some : 0 < slots_a_day pages
  some = omega (arith, hour-some pages.per_hour are.divides)

  pub slot-within : slot % slots_a_day pages < length
      (values_of_day pages.days (slot / slots_a_day pages))
  slot-within = rw (day_whole pages (slot / slots_a_day pages) are there)
      (mod_below slot (slots_a_day pages) some)

  pub leaf_at-after : (k : ℕ) → leaf_at (record {
    per_hour = pages.per_hour;
    days = days_after pages slot value;
  }) k ≡ leaf_after pages slot value k
  leaf_at-after k =
      value_at-changed no_leaf pages.days (slots_a_day pages) slot value there slot-within k

  -- what the day adds up to is few, where all days together do
  pub day-few : AreFew (λ k. (leaf_after pages slot value k).den) →
      (leaves_over (leaf_in (slice_set
      (values_of_day pages.days (slot / slots_a_day pages)) (slot % slots_a_day pages) value)) 0
      (length (values_of_day pages.days (slot / slots_a_day pages)))).den ≤ most_events
  day-few few =
      subst (λ n. n ≤ most_events)
      (sym (ap (sum_over (λ k. (leaf_in day_after k).den) 0) (day_whole pages day are there)
      ∙ sum_over-moved (λ k. (leaf_in day_after k).den) (λ k. (leaf_after pages slot value k).den) 0
      (day * slots_a_day pages) (slots_a_day pages) (λ i lt. ap (λ j. (leaf_in day_after j).den)
      (from_none i) ∙ ap (λ (l : Leaf). l.den) (same i lt))))
      (few (day * slots_a_day pages) (slots_a_day pages))
    where
      day : ℕ
      day = slot / slots_a_day pages

      day_after : List Leaf
      day_after = slice_set (values_of_day pages.days (slot / slots_a_day pages))
          (slot % slots_a_day pages) value

      same : (i : ℕ) → i < slots_a_day pages
          → leaf_in day_after i ≡ leaf_after pages slot value (day * slots_a_day pages + i)
      same i lt =
          ap (λ leaves. leaf_in leaves i) (sym (changed_day no_leaf pages.days day day_after there))
          ∙ sym (leaf-here (slots_a_day pages) (days_after pages slot value) day i lt)
          ∙ leaf_at-after (day * slots_a_day pages + i)

  pub ArePages-after : value.num ≤ value.den → AreFew (λ k. (leaf_after pages slot value k).den)
      → ArePages (record { per_hour = pages.per_hour; days = days_after pages slot value })
  ArePages-after part few = record {
    divides = are.divides;
    whole = All-values-set_value (nat_eq (slot / slots_a_day pages))
        (λ leaves. length leaves ≡ slots_a_day pages) pages.days
        (slice_set (values_of_day pages.days (slot / slots_a_day pages)) (slot % slots_a_day pages)
        value) are.whole
        (length-set (values_of_day pages.days (slot / slots_a_day pages)) (slot % slots_a_day pages)
        value ∙ day_whole pages (slot / slots_a_day pages) are there);
    sound = record {
      parts = λ k. subst (λ (l : Leaf). l.num ≤ l.den) (sym (leaf_at-after k))
          (by k (eqb_tells k slot));
      few = λ first count. subst (λ n. n ≤ most_events)
          (sum_over-same (λ k. (leaf_after pages slot value k).den) (λ k. (leaf_at
          (record { per_hour = pages.per_hour; days = days_after pages slot value }) k).den)
          (λ k. ap (λ (l : Leaf). l.den) (sym (leaf_at-after k))) first count) (few first count);
    };
  }
    where
      by : (k : ℕ) → ((nat_eq k slot ≡ true) × (k ≡ slot)) ⊎ ((nat_eq k slot ≡ false) × (k ≢ slot))
          → (leaf_after pages slot value k).num ≤ (leaf_after pages slot value k).den
      by k (inl same) = rw same.0 part
      by k (inr other) = rw other.0 (are.sound.parts k)

nothing_below : {k : ℕ} → k < 0 → ⊥
nothing_below less = omega arith

-- the pages of no day
pub ArePages-none : (per_hour : ℕ) → per_hour ∣ 60
    → ArePages (record { per_hour = per_hour; days = [] })
ArePages-none per_hour divides = record {
  divides = divides;
  whole = λ k d less. absurd (nothing_below less);
  sound = record {
    parts = λ k. omega arith;
    few = λ first count. rw (sum_over-none first count) (omega arith);
  };
}

-- a day was added that has no data
pub ArePages-added : (pages : LeafDays) (day : ℕ) → ArePages pages →
    ArePages (record {
      per_hour = pages.per_hour;
      days = pages.days ++ (day, replicate (slots_a_day pages) no_leaf) ∷ [];
    })
ArePages-added pages day are = record {
  divides = are.divides;
  whole = subst (λ l. All (λ leaves. length leaves ≡ slots_a_day pages) l)
      (sym (values_of-push pages.days day (replicate (slots_a_day pages) no_leaf)))
      (All-push (λ leaves. length leaves ≡ slots_a_day pages) (values_of pages.days) (replicate
      (slots_a_day pages) no_leaf) are.whole (length-replicate (slots_a_day pages) no_leaf));
  sound = record {
    parts = λ k. subst (λ (l : Leaf). l.num ≤ l.den) (sym (same k)) (are.sound.parts k);
    few = λ first count. subst (λ n. n ≤ most_events)
        (sum_over-same (λ k. (leaf_at pages k).den) (λ k. (leaf_at added k).den)
        (λ k. ap (λ (l : Leaf). l.den) (sym (same k))) first count) (are.sound.few first count);
  };
}
  where
    added : LeafDays
    added = record {
      per_hour = pages.per_hour;
      days = pages.days ++ (day, replicate (slots_a_day pages) no_leaf) ∷ [];
    }

    same : (k : ℕ) → leaf_at added k ≡ leaf_at pages k
    same k = value_at-added no_leaf pages.days day (slots_a_day pages) (k / slots_a_day pages)
        (k % slots_a_day pages)
