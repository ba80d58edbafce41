-- Days whose counts stand in the leaves of the pages, or are kept beside them.
use Rattle.std.proofs.Common.{◌≡◌, ◌≢◌, ◌⊎◌, ℕ, zero, suc, ◌*◌, ◌/◌, ◌%◌, ◌<◌, ◌≤◌, ◌||◌, ◌==◌}
use Rattle.std.proofs.Common.{nat_eq, Bool, true, false, inl, inr, IsTrue, All, length, List, []}
use Rattle.std.proofs.Common.{◌∷◌, ◌++◌, map, Option, Some, None, is_some, unwrap_or, replicate}
use Rattle.std.proofs.Common.{slice_index_or, slice_set, sym, ap, subst, refl, ◌∙◌, arith}
use Rattle.std.proofs.Common.{if◌then◌else◌}
use Rattle.std.specs.Int.{◌∣◌}
use Rattle.std.specs.Map.{lookup, set_value, values_of}
use Rattle.std.specs.Option.{option_map}
use Rattle.std.proofs.lemmas.Bool.Decides.{eqb_tells}
use Rattle.std.proofs.lemmas.Map.Made.{lookup-map_values}
use Rattle.exact_fraction.specs.declared.leaf.Leaf.{Leaf}
use Rattle.slice_method.specs.declared.amount.Counts.{Counts}
use Rattle.slice_method.specs.declared.method.Method.{Method}
use Rattle.slice_method.specs.declared.method.Method.TheVariants.{Occurrences, Timeslices}
use Rattle.slice_method.specs.declared.method.Method.TheVariants.{RatioTimeslices}
use Rattle.slice_method.specs.Leaves.{leaf}
use Rattle.sum_pages.specs.DayTables.{is_day_of, value_at, values_of_day}
use Rattle.sum_pages.specs.Pages as paged
use Rattle.sum_pages.proofs.DayLemmas.{days-added}
use Rattle.window_sums.specs.Slices.{AreSoundCounts, CountedDays, CountsAreKept, DaysAreKept}
use Rattle.window_sums.specs.Slices.{counted_days, counts_after, counts_events, counts_of}
use Rattle.window_sums.specs.Slices.{days_with, has_day, leaf_counts, leaf_days, new_counts}
use Rattle.window_sums.specs.Slices.{no_counts, slice_of, slices_a_day, width_of}
use Rattle.window_sums.proofs.KeptFacts.{CountsAreKept-added, CountsAreKept-after}
use Rattle.window_sums.proofs.KeptFacts.{CountsAreKept-none, IsChange, IsSet, counts_of-added}
use Rattle.window_sums.proofs.KeptFacts.{counts_of-after, day-there, days-with, days_by}
use Rattle.window_sums.proofs.KeptFacts.{leaf-after}
use Rattle.window_sums.proofs.KeptFacts.{of_days, place-within, sums_added, whole-added, whole-with}
use Rattle.window_sums.proofs.SoundFacts.{sound-after, sound-same}

-- the counts in the leaves of a day
at-place : (leaves : List Leaf) (place : ℕ) →
    slice_index_or (map leaf_counts leaves) place no_counts
    ≡ leaf_counts (slice_index_or leaves place paged.no_leaf)
at-place [] place = refl
at-place (l ∷ leaves) zero = refl
at-place (l ∷ leaves) (suc place) = at-place leaves place

module _ (days : List (ℕ × List Leaf)) where
  found : (day : ℕ) → lookup (nat_eq day) (leaf_days days)
      ≡ option_map (map leaf_counts) (lookup (nat_eq day) days)
  found day = lookup-map_values (map leaf_counts) (nat_eq day) days

  -- the same days are there
  pub same-days : (day : ℕ) → is_day_of (leaf_days days) day ≡ is_day_of days day
  same-days day = ap is_some (found day) ∙ by (lookup (nat_eq day) days)
    where
      by : (o : Option (List Leaf)) → is_some (option_map (map leaf_counts) o) ≡ is_some o
      by None = refl
      by (Some leaves) = refl

  -- and each slot has what stands in its leaf
  pub same-slots : (count slot : ℕ) → value_at no_counts count (leaf_days days) slot
      ≡ leaf_counts (value_at paged.no_leaf count days slot)
  same-slots count slot =
      ap (λ o. slice_index_or (unwrap_or o []) (slot % count) no_counts) (found (slot / count))
      ∙ by (lookup (nat_eq (slot / count)) days)
    where
      by : (o : Option (List Leaf)) →
          slice_index_or (unwrap_or (option_map (map leaf_counts) o) []) (slot % count) no_counts
          ≡ leaf_counts (slice_index_or (unwrap_or o []) (slot % count) paged.no_leaf)
      by None = refl
      by (Some leaves) = at-place leaves (slot % count)

-- a leaf of events has the counts that it was made of
leaf-counted : (counts : Counts) → counts.good ≤ counts.total
    → leaf_counts (leaf Occurrences counts) ≡ counts
leaf-counted counts part = by (eqb_tells counts.total 0)
  where
    none : (good total : ℕ) → good ≤ total → total ≡ 0 → 0 ≡ good
    none good total part is = omega (arith, part, is)

    by : ((nat_eq counts.total 0 ≡ true) × (counts.total ≡ 0))
        ⊎ ((nat_eq counts.total 0 ≡ false) × (counts.total ≢ 0)) →
        leaf_counts (leaf Occurrences counts) ≡ counts
    by (inl is) = rw is.0 (λ i. record {
      good = none counts.good counts.total part is.1 i;
      total = sym is.1 i;
    })
    by (inr is) = rw is.0 refl

-- where events are counted, a slice has what stands in its leaf
event-counts : (days : List (ℕ × List Counts)) (pages : paged.LeafDays) →
    pages.per_hour ≡ 60 / width_of Occurrences → (slice : ℕ) →
    counts_of (counted_days Occurrences days pages) slice
    ≡ leaf_counts (paged.leaf_at pages slice)
event-counts days pages hour slice =
    same-slots pages.days (slices_a_day Occurrences) slice
    ∙ ap (λ n. leaf_counts (value_at paged.no_leaf (24 * n) pages.days slice)) (sym hour)

module _ (method : Method) (days : List (ℕ × List Counts)) (pages : paged.LeafDays) where
  pub counts-in : DaysAreKept method days pages → counts_events method ≡ true → (slice : ℕ) →
      leaf_counts (paged.leaf_at pages slice) ≡ counts_of (counted_days method days pages) slice
  counts-in kept events slice = by method kept.counts.hour events
    where
      by : (method : Method) → pages.per_hour ≡ 60 / width_of method →
          counts_events method ≡ true → leaf_counts (paged.leaf_at pages slice)
          ≡ counts_of (counted_days method days pages) slice
      by Occurrences hour events = sym (event-counts days pages hour slice)
      by (Timeslices width target) hour events = cc events
      by (RatioTimeslices width) hour events = cc events

  -- so it has the days of the pages
  pub day-in : counts_events method ≡ true → (day : ℕ)
      → paged.has_day pages day ≡ has_day (counted_days method days pages) day
  day-in events day = sym (same-days pages.days day)
      ∙ ap (λ (b : Bool). is_day_of (if b then leaf_days pages.days else days) day) (sym events)

  -- elsewhere the days are those beside the pages
  pub beside : counts_events method ≡ false
      → record { method = method; days = days } ≡ counted_days method days pages
  beside other = ap (λ (b : Bool). of_days (record { method = method; days = days })
      (if b then leaf_days pages.days else days)) (sym other)

  pub day-beside : counts_events method ≡ false → (slice : ℕ) →
      IsTrue (has_day (counted_days method days pages) (slice / slices_a_day method)) →
      IsTrue (is_day_of days (slice / slices_a_day method))
  day-beside other slice there =
      subst (λ (s : CountedDays). IsTrue (has_day s (slice / slices_a_day method)))
      (sym (beside other)) there

  pub within-beside : DaysAreKept method days pages → counts_events method ≡ false → (slice : ℕ) →
      IsTrue (is_day_of days (slice / slices_a_day method)) →
      slice % slices_a_day method < length (values_of_day days (slice / slices_a_day method))
  within-beside kept other slice there =
      place-within (record { method = method; days = days }) slice kept.whole
      kept.counts.counted.divides there

-- and the counts of a slice are put there
pub set-beside : (method : Method) (days : List (ℕ × List Counts)) →
    counts_events method ≡ false → (slice : ℕ) (counts : Counts) →
    set_value (nat_eq (slice / slices_a_day method)) days
    (slice_set (values_of_day days (slice / slices_a_day method)) (slice % slices_a_day method)
    counts) ≡ days_with method days slice counts
set-beside method days other slice counts =
    ap (λ (b : Bool). if b then days else set_value (nat_eq (slice / slices_a_day method)) days
    (slice_set (values_of_day days (slice / slices_a_day method)) (slice % slices_a_day method)
    counts)) (sym other)

nothing_below : {k : ℕ} → k < 0 → ⊥
nothing_below less = omega arith

-- no day
pub no-days : (method : Method) (days : List (ℕ × List Counts)) (pages : paged.LeafDays) →
    days ≡ [] → pages.days ≡ [] → (counted_days method days pages).days ≡ []
no-days method days pages none none-2 = by (counts_events method)
  where
    by : (b : Bool) → (if b then leaf_days pages.days else days) ≡ []
    by true = ap leaf_days none-2
    by false = none

pub DaysAreKept-none : (method : Method) (days : List (ℕ × List Counts)) (pages : paged.LeafDays) →
    width_of method ∣ 60 → pages.per_hour ≡ 60 / width_of method → days ≡ [] → pages.days ≡ [] →
    DaysAreKept method days pages
DaysAreKept-none method days pages divides hour none none-2 = record {
  counts = subst (λ es. CountsAreKept (record { method = method; days = es }) pages)
      (sym (no-days method days pages none none-2))
      (CountsAreKept-none method pages divides hour none-2);
  whole = subst (λ (es : List (ℕ × List Counts)). All (λ slices. length slices
      ≡ slices_a_day method) (values_of es)) (sym none) (λ k d less. absurd (nothing_below less));
}

-- What `reserve_day` makes of the pages: no leaf is another, and a day more is there.
pub record IsReserved (pages new : paged.LeafDays) (day : ℕ) : Type 0 where
  pub hours : new.per_hour ≡ pages.per_hour
  pub leaves : (k : ℕ) → paged.leaf_at new k ≡ paged.leaf_at pages k
  pub days : (other : ℕ) → paged.has_day new other ≡ (paged.has_day pages other || other == day)

-- What is kept once a day was made ready: the same counts, and that day more.
pub record AreReady (method : Method) (days more : List (ℕ × List Counts))
    (pages new : paged.LeafDays) (day : ℕ) : Type 0 where
  pub kept : DaysAreKept method more new
  pub counts : (slice : ℕ) → counts_of (counted_days method more new) slice
      ≡ counts_of (counted_days method days pages) slice
  pub there : (other : ℕ) → has_day (counted_days method more new) other
      ≡ (has_day (counted_days method days pages) other || other == day)

-- where events are counted, the day of the pages is all that it takes
pub ready-in : (method : Method) (days : List (ℕ × List Counts)) (pages new : paged.LeafDays)
    (day : ℕ) → DaysAreKept method days pages → IsReserved pages new day →
    counts_events method ≡ true → AreReady method days days pages new day
ready-in Occurrences days pages new day kept is events = record {
  kept = record {
    counts = record {
      counted = record {
        divides = kept.counts.counted.divides;
        sound = sound-same Occurrences (counts_of (counted_days Occurrences days pages))
            (counts_of (counted_days Occurrences days new)) (λ k. sym (same k))
            kept.counts.counted.sound;
      };
      hour = is.hours ∙ kept.counts.hour;
      leaves = λ k. is.leaves k ∙ kept.counts.leaves k
          ∙ ap (λ (c : Counts). leaf Occurrences c) (sym (same k));
      ready = λ other has. subst IsTrue (same-days new.days other) has;
    };
    whole = kept.whole;
  };
  counts = same;
  there = λ other. same-days new.days other ∙ is.days other
      ∙ ap (λ (b : Bool). b || other == day) (sym (same-days pages.days other));
}
  where
    same : (k : ℕ) → counts_of (counted_days Occurrences days new) k
        ≡ counts_of (counted_days Occurrences days pages) k
    same k = event-counts days new (is.hours ∙ kept.counts.hour) k
        ∙ ap leaf_counts (is.leaves k) ∙ sym (event-counts days pages kept.counts.hour k)
ready-in (Timeslices width target) days pages new day kept is events = cc events
ready-in (RatioTimeslices width) days pages new day kept is events = cc events

-- elsewhere it comes beside them
pub ready-beside : (method : Method) (days : List (ℕ × List Counts)) (pages new : paged.LeafDays)
    (day : ℕ) → DaysAreKept method days pages → IsReserved pages new day →
    counts_events method ≡ false → AreReady method days
    (days ++ (day, replicate (slices_a_day method) no_counts) ∷ []) pages new day
ready-beside method days pages new day kept is other = record {
  kept = record {
    counts = subst (λ s. CountsAreKept s new) after (CountsAreKept-added sums pages new day
        (subst (λ s. CountsAreKept s pages) (sym before) kept.counts) is.hours is.leaves is.days);
    whole = whole-added sums day kept.whole;
  };
  counts = λ k. ap (λ s. counts_of s k) (sym after) ∙ counts_of-added sums day k
      ∙ ap (λ s. counts_of s k) before;
  there = λ q. ap (λ s. has_day s q) (sym after)
      ∙ days-added days day q (replicate (slices_a_day method) no_counts)
      ∙ ap (λ s. has_day s q || q == day) before;
}
  where
    sums : CountedDays
    sums = record { method = method; days = days }

    before : sums ≡ counted_days method days pages
    before = beside method days pages other

    after : sums_added sums day ≡ counted_days method (sums_added sums day).days new
    after = beside method (sums_added sums day).days new other

-- what is kept beside the pages after a change
abbrev pub days_after : Method → List (ℕ × List Counts) → paged.LeafDays → ℕ → Counts → Counts
    → List (ℕ × List Counts)
days_after method days pages minute before after =
    days_with method days (slice_of method minute)
    (new_counts (counts_of (counted_days method days pages) (slice_of method minute)) before after)

-- What is kept after a change: the counts after it, of the same days.
pub record AreChanged (method : Method) (days : List (ℕ × List Counts))
    (pages new : paged.LeafDays) (minute : ℕ) (before after : Counts) : Type 0 where
  pub kept : DaysAreKept method (days_after method days pages minute before after) new
  pub counts : (k : ℕ) →
      counts_of (counted_days method (days_after method days pages minute before after) new) k
      ≡ counts_after (counted_days method days pages) minute before after k
  pub there : (day : ℕ) →
      has_day (counted_days method (days_after method days pages minute before after) new) day
      ≡ has_day (counted_days method days pages) day

-- the leaf that a slice has after a change
abbrev pub leaf_changed : Method → List (ℕ × List Counts) → paged.LeafDays → ℕ → Counts → Counts
    → Leaf
leaf_changed method days pages minute before after =
    leaf method
    (new_counts (counts_of (counted_days method days pages) (slice_of method minute)) before after)

changed-in : (days : List (ℕ × List Counts)) (pages new : paged.LeafDays) (minute : ℕ)
    (before after : Counts) → DaysAreKept Occurrences days pages →
    IsChange (counted_days Occurrences days pages) minute before after →
    IsSet pages new (slice_of Occurrences minute)
    (leaf_changed Occurrences days pages minute before after) →
    AreChanged Occurrences days pages new minute before after
changed-in days pages new minute before after kept change set = record {
  kept = record {
    counts = CountsAreKept-after sums (leaf_days new.days) pages new minute before after kept.counts
        sound set counts there;
    whole = kept.whole;
  };
  counts = counts;
  there = there;
}
  where
    sums : CountedDays
    sums = counted_days Occurrences days pages

    sound : AreSoundCounts Occurrences (counts_after sums minute before after)
    sound = sound-after sums minute before after kept.counts.counted.sound change.part
        change.events change.leaves

    counts : (k : ℕ) → counts_of (counted_days Occurrences days new) k
        ≡ counts_after sums minute before after k
    counts k = event-counts days new (set.hours ∙ kept.counts.hour) k
        ∙ ap leaf_counts (set.leaves k ∙ leaf-after sums pages minute before after kept.counts k)
        ∙ leaf-counted (counts_after sums minute before after k) (sound.parts k)

    there : (day : ℕ) → has_day (counted_days Occurrences days new) day ≡ has_day sums day
    there day = same-days new.days day ∙ set.days day ∙ sym (same-days pages.days day)

-- so it is with days beside the pages
module _ (sums : CountedDays) (pages new : paged.LeafDays) (minute : ℕ) (before after : Counts)
    (whole : All (λ slices. length slices ≡ slices_a_day sums.method) (values_of sums.days))
    (kept : CountsAreKept sums pages) (change : IsChange sums minute before after)
    (set : IsSet pages new (slice_of sums.method minute) (leaf sums.method
    (new_counts (counts_of sums (slice_of sums.method minute)) before after))) where
  is_there : IsTrue (has_day sums (slice_of sums.method minute / slices_a_day sums.method))
  is_there = day-there sums minute before after kept.counted change

  abbrev value : Counts
  value = new_counts (counts_of sums (slice_of sums.method minute)) before after

  abbrev days_now : List (ℕ × List Counts)
  days_now = days_by sums (slice_of sums.method minute) value

  counts-changed : (k : ℕ) → counts_of (of_days sums days_now) k
      ≡ counts_after sums minute before after k
  counts-changed =
      counts_of-after sums minute before after whole kept.counted.divides is_there

  days-kept : (day : ℕ) → has_day (of_days sums days_now) day ≡ has_day sums day
  days-kept = days-with sums (slice_of sums.method minute) whole kept.counted.divides is_there
      value

  whole-changed : All (λ slices. length slices ≡ slices_a_day sums.method) (values_of days_now)
  whole-changed = whole-with sums (slice_of sums.method minute) whole kept.counted.divides is_there
      value

  kept-changed : CountsAreKept (of_days sums days_now) new
  kept-changed = CountsAreKept-after sums days_now pages new minute before after kept
      (sound-after sums minute before after kept.counted.sound change.part change.events
      change.leaves) set counts-changed days-kept

pub changed : (method : Method) (days : List (ℕ × List Counts)) (pages new : paged.LeafDays)
    (minute : ℕ) (before after : Counts) → DaysAreKept method days pages →
    IsChange (counted_days method days pages) minute before after →
    IsSet pages new (slice_of method minute)
    (leaf_changed method days pages minute before after) →
    AreChanged method days pages new minute before after
changed Occurrences days pages new minute before after kept change set =
    changed-in days pages new minute before after kept change set
changed (Timeslices width target) days pages new minute before after kept change set =
    let sums : CountedDays = record { method = Timeslices width target; days = days } in
    record {
      kept = record {
        counts = kept-changed sums pages new minute before after kept.whole kept.counts change set;
        whole = whole-changed sums pages new minute before after kept.whole kept.counts change set;
      };
      counts = counts-changed sums pages new minute before after kept.whole kept.counts change set;
      there = days-kept sums pages new minute before after kept.whole kept.counts change set;
    }
changed (RatioTimeslices width) days pages new minute before after kept change set =
    let sums : CountedDays = record { method = RatioTimeslices width; days = days } in
    record {
      kept = record {
        counts = kept-changed sums pages new minute before after kept.whole kept.counts change set;
        whole = whole-changed sums pages new minute before after kept.whole kept.counts change set;
      };
      counts = counts-changed sums pages new minute before after kept.whole kept.counts change set;
      there = days-kept sums pages new minute before after kept.whole kept.counts change set;
    }
