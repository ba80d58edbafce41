-- What is kept of the sums, after a change and after a day was added.
use Rattle.std.proofs.Common.{◌≡◌, ◌≢◌, ◌⊎◌, ℕ, ◌*◌, ◌%◌, ◌/◌, ◌<◌, ◌≤◌, ◌||◌, ◌==◌, nat_eq, Bool}
use Rattle.std.proofs.Common.{true, false, inl, inr, IsTrue, All, length, List, [], ◌∷◌, ◌++◌}
use Rattle.std.proofs.Common.{replicate, slice_set, sym, ap, subst, refl, ◌∙◌, arith, if◌then◌else◌}
use Rattle.std.specs.Int.{◌∣◌}
use Rattle.std.specs.Map.{set_value, values_of}
use Rattle.std.proofs.lemmas.Bool.Decides.{eqb_tells}
use Rattle.std.proofs.lemmas.Map.Views.{All-values-set_value}
use Rattle.std.proofs.lemmas.List.{length-set, length-replicate}
use Rattle.std.proofs.lemmas.List.Elements.{All-push}
use Rattle.std.proofs.lemmas.Nat.{mod_below}
use Rattle.exact_fraction.specs.declared.leaf.Leaf.{Leaf}
use Rattle.slice_method.specs.declared.amount.Counts.{Counts}
use Rattle.slice_method.specs.declared.method.Method.{Method}
use Rattle.slice_method.specs.Leaves.{leaf}
use Rattle.slo_terms.specs.Sums.{AreFew, leaves_over, most_events}
use Rattle.slo_terms.proofs.RangeLemmas.{sum_over-none, sum_over-same}
use Rattle.sum_pages.specs.DayTables.{values_of_day}
use Rattle.sum_pages.specs.Pages as paged
use Rattle.sum_pages.proofs.DayLemmas.{days-added, days-changed, of_day, value_at-added}
use Rattle.sum_pages.proofs.DayLemmas.{value_at-changed, values_of-push}
use Rattle.window_sums.specs.Slices.{AreCounted, AreSoundCounts, CountedDays, CountsAreKept, IsPart}
use Rattle.window_sums.specs.Slices.{MayExchange, counts_after, counts_of, day_of, new_counts}
use Rattle.window_sums.specs.Slices.{has_day, no_counts, slice_of, slices_a_day, width_of}
use Rattle.window_sums.proofs.SoundFacts.{after-here, few-one, sound-same}
use Rattle.window_sums.proofs.WidthFacts.{day_of_slice, slices-some}

-- the day of a minute's slice is the minute's day
pub its_day : (sums : CountedDays) (minute : ℕ) → AreCounted sums
    → slice_of sums.method minute / slices_a_day sums.method ≡ day_of minute
its_day sums minute counted = day_of_slice (width_of sums.method) minute counted.divides

-- the counts of other days
abbrev pub of_days : CountedDays → List (ℕ × List Counts) → CountedDays
of_days sums days = record { method = sums.method; days = days }

-- the days once the counts of a slice are others
abbrev pub days_by : CountedDays → ℕ → Counts → List (ℕ × List Counts)
days_by sums slice counts =
    set_value (nat_eq (slice / slices_a_day sums.method)) sums.days
    (slice_set (values_of_day sums.days (slice / slices_a_day sums.method))
    (slice % slices_a_day sums.method) counts)

-- What `change` asks for: the day of the minute is there, its slice has what is taken away, and
-- what is left is a part of few events.
pub record IsChange (sums : CountedDays) (minute : ℕ) (before after : Counts) : Type 0 where
  pub day : IsTrue (has_day sums (day_of minute))
  pub good : before.good ≤ (counts_of sums (slice_of sums.method minute)).good
  pub total : before.total ≤ (counts_of sums (slice_of sums.method minute)).total
  pub part : IsPart (counts_after sums minute before after (slice_of sums.method minute))
  pub events : AreFew (λ k. (counts_after sums minute before after k).total)
  pub leaves : AreFew (λ k. (leaf sums.method (counts_after sums minute before after k)).den)

-- the day of the slice is there
pub day-there : (sums : CountedDays) (minute : ℕ) (before after : Counts) → AreCounted sums →
    IsChange sums minute before after →
    IsTrue (has_day sums (slice_of sums.method minute / slices_a_day sums.method))
day-there sums minute before after counted change =
    subst (λ day. IsTrue (has_day sums day)) (sym (its_day sums minute counted)) change.day

-- the counts may be exchanged
pub may_exchange : (sums : CountedDays) (minute : ℕ) (before after : Counts) →
    IsChange sums minute before after →
    MayExchange (counts_of sums (slice_of sums.method minute)) before after
may_exchange sums minute before after change = record {
  good = change.good;
  total = change.total;
  part = subst IsPart (after-here sums minute before after) change.part;
  few = subst (λ (c : Counts). c.total ≤ most_events) (after-here sums minute before after)
      (few-one (λ k. (counts_after sums minute before after k).total) change.events
      (slice_of sums.method minute));
}

-- Days of all slices, of which one has other counts.
module _ (sums : CountedDays) (slice : ℕ)
    (whole : All (λ slices. length slices ≡ slices_a_day sums.method) (values_of sums.days))
    (divides : width_of sums.method ∣ 60)
    (there : IsTrue (has_day sums (slice / slices_a_day sums.method))) where
  day_whole : length (values_of_day sums.days (slice / slices_a_day sums.method))
      ≡ slices_a_day sums.method
  day_whole = of_day no_counts sums.days (λ slices. length slices ≡ slices_a_day sums.method)
      whole (slice / slices_a_day sums.method) there

  pub place-within : slice % slices_a_day sums.method < length
      (values_of_day sums.days (slice / slices_a_day sums.method))
  place-within = rw day_whole (mod_below slice (slices_a_day sums.method)
      (slices-some (width_of sums.method) divides))

  with : (counts : Counts) (k : ℕ) → counts_of (of_days sums (days_by sums slice counts)) k
      ≡ (if k == slice then counts else counts_of sums k)
  with counts k = value_at-changed no_counts sums.days (slices_a_day sums.method) slice counts there
      place-within k

  pub whole-with : (counts : Counts) → All (λ slices. length slices ≡ slices_a_day sums.method)
      (values_of (days_by sums slice counts))
  whole-with counts = All-values-set_value (nat_eq (slice / slices_a_day sums.method))
      (λ slices. length slices ≡ slices_a_day sums.method) sums.days
      (slice_set (values_of_day sums.days (slice / slices_a_day sums.method))
      (slice % slices_a_day sums.method) counts) whole
      (length-set (values_of_day sums.days (slice / slices_a_day sums.method))
      (slice % slices_a_day sums.method) counts ∙ day_whole)

  pub days-with : (counts : Counts) (day : ℕ)
      → has_day (of_days sums (days_by sums slice counts)) day ≡ has_day sums day
  days-with counts day =
      days-changed no_counts sums.days (slice / slices_a_day sums.method) day _ there

-- what the days say of each slice after a change
pub counts_of-after : (sums : CountedDays) (minute : ℕ) (before after : Counts) →
    All (λ slices. length slices ≡ slices_a_day sums.method) (values_of sums.days) →
    width_of sums.method ∣ 60 →
    IsTrue (has_day sums (slice_of sums.method minute / slices_a_day sums.method)) → (k : ℕ) →
    counts_of (of_days sums (days_by sums (slice_of sums.method minute)
    (new_counts (counts_of sums (slice_of sums.method minute)) before after))) k
    ≡ counts_after sums minute before after k
counts_of-after sums minute before after whole divides there k =
    with sums (slice_of sums.method minute) whole divides there
    (new_counts (counts_of sums (slice_of sums.method minute)) before after) k
    ∙ by (eqb_tells k (slice_of sums.method minute))
  where
    by : ((nat_eq k (slice_of sums.method minute) ≡ true) × (k ≡ slice_of sums.method minute))
        ⊎ ((nat_eq k (slice_of sums.method minute) ≡ false) × (k ≢ slice_of sums.method minute)) →
        (if k == slice_of sums.method minute
        then new_counts (counts_of sums (slice_of sums.method minute)) before after
        else counts_of sums k) ≡ counts_after sums minute before after k
    by (inl same) = rw same.0 (ap (λ j. new_counts (counts_of sums j) before after) (sym same.1))
    by (inr other) = rw other.0 refl

-- the leaf of each slice after a change, by the leaf of the one that changed
pub leaf-after : (sums : CountedDays) (pages : paged.LeafDays) (minute : ℕ)
    (before after : Counts) → CountsAreKept sums pages → (k : ℕ) →
    paged.leaf_after pages (slice_of sums.method minute)
    (leaf sums.method (new_counts (counts_of sums (slice_of sums.method minute)) before after)) k
    ≡ leaf sums.method (counts_after sums minute before after k)
leaf-after sums pages minute before after kept k = by (eqb_tells k (slice_of sums.method minute))
  where
    by : ((nat_eq k (slice_of sums.method minute) ≡ true) × (k ≡ slice_of sums.method minute))
        ⊎ ((nat_eq k (slice_of sums.method minute) ≡ false) × (k ≢ slice_of sums.method minute)) →
        paged.leaf_after pages (slice_of sums.method minute) (leaf sums.method
        (new_counts (counts_of sums (slice_of sums.method minute)) before after)) k
        ≡ leaf sums.method (counts_after sums minute before after k)
    by (inl same) = rw same.0
        (ap (λ j. leaf sums.method (new_counts (counts_of sums j) before after)) (sym same.1))
    by (inr other) = rw other.0 (kept.leaves k)

-- the same leaves have the same sum
pub leaves_over-same : (f g : ℕ → Leaf) → ((k : ℕ) → f k ≡ g k) → (first count : ℕ)
    → leaves_over f first count ≡ leaves_over g first count
leaves_over-same f g same first count = λ i. record { num = num i; den = den i }
  where
    num : (leaves_over f first count).num ≡ (leaves_over g first count).num
    num = sum_over-same (λ k. (f k).num) (λ k. (g k).num)
        (λ k. ap (λ (l : Leaf). l.num) (same k)) first count

    den : (leaves_over f first count).den ≡ (leaves_over g first count).den
    den = sum_over-same (λ k. (f k).den) (λ k. (g k).den)
        (λ k. ap (λ (l : Leaf). l.den) (same k)) first count

-- the pages stay as few as the leaves after the change
pub pages-few : (sums : CountedDays) (pages : paged.LeafDays) (minute : ℕ) (before after : Counts) →
    CountsAreKept sums pages →
    AreFew (λ k. (leaf sums.method (counts_after sums minute before after k)).den) →
    AreFew (λ k. (paged.leaf_after pages (slice_of sums.method minute) (leaf sums.method
    (new_counts (counts_of sums (slice_of sums.method minute)) before after)) k).den)
pages-few sums pages minute before after kept few first count =
    subst (λ n. n ≤ most_events)
    (sum_over-same (λ k. (leaf sums.method (counts_after sums minute before after k)).den)
    (λ k. (paged.leaf_after pages (slice_of sums.method minute) (leaf sums.method
    (new_counts (counts_of sums (slice_of sums.method minute)) before after)) k).den)
    (λ k. ap (λ (l : Leaf). l.den) (sym (leaf-after sums pages minute before after kept k))) first
    count) (few first count)

-- a day that the sums have is there for its leaves
pub page-there : (sums : CountedDays) (pages : paged.LeafDays) (slice : ℕ)
    → CountsAreKept sums pages →
    IsTrue (has_day sums (slice / slices_a_day sums.method)) →
    IsTrue (paged.has_day pages (slice / paged.slots_a_day pages))
page-there sums pages slice kept there =
    subst (λ n. IsTrue (paged.has_day pages (slice / (24 * n)))) (sym kept.hour)
    (kept.ready (slice / slices_a_day sums.method) there)

-- What `set` makes of the pages: a slot has another leaf.
pub record IsSet (pages new : paged.LeafDays) (slot : ℕ) (value : Leaf) : Type 0 where
  pub hours : new.per_hour ≡ pages.per_hour
  pub leaves : (k : ℕ) → paged.leaf_at new k ≡ paged.leaf_after pages slot value k
  pub days : (day : ℕ) → paged.has_day new day ≡ paged.has_day pages day

-- The sums after a change.
pub CountsAreKept-after : (sums : CountedDays) (days : List (ℕ × List Counts))
    (pages new : paged.LeafDays) (minute : ℕ) (before after : Counts) → CountsAreKept sums pages →
    AreSoundCounts sums.method (counts_after sums minute before after) →
    IsSet pages new (slice_of sums.method minute) (leaf sums.method
    (new_counts (counts_of sums (slice_of sums.method minute)) before after)) →
    ((k : ℕ) → counts_of (of_days sums days) k ≡ counts_after sums minute before after k) →
    ((day : ℕ) → has_day (of_days sums days) day ≡ has_day sums day) →
    CountsAreKept (of_days sums days) new
CountsAreKept-after sums days pages new minute before after kept sound set counts there = record {
  counted = record {
    divides = kept.counted.divides;
    sound = sound-same sums.method (counts_after sums minute before after)
        (counts_of (of_days sums days)) (λ k. sym (counts k)) sound;
  };
  hour = set.hours ∙ kept.hour;
  leaves = λ k. set.leaves k ∙ leaf-after sums pages minute before after kept k
      ∙ ap (λ (c : Counts). leaf sums.method c) (sym (counts k));
  ready = λ day has. subst IsTrue (sym (set.days day))
      (kept.ready day (subst IsTrue (there day) has));
}

nothing_below : {k : ℕ} → k < 0 → ⊥
nothing_below less = omega arith

-- the sums of no day
pub CountsAreKept-none : (method : Method) (pages : paged.LeafDays) → width_of method ∣ 60 →
    pages.per_hour ≡ 60 / width_of method → pages.days ≡ [] →
    CountsAreKept (record { method = method; days = [] }) pages
CountsAreKept-none method pages divides hour none = record {
  counted = record {
    divides = divides;
    sound = record {
      parts = λ k. omega arith;
      events = λ first count. rw (sum_over-none first count) (omega arith);
      leaves = λ first count. rw (sum_over-none first count) (omega arith);
    };
  };
  hour = hour;
  leaves = λ k. subst (λ days. paged.leaf_at (record { per_hour = pages.per_hour; days = days }) k
      ≡ record { num = 0; den = 0 }) (sym none) refl;
  ready = λ day has. cc has;
}

-- the counts with one day more, in which nothing was counted
abbrev pub sums_added : CountedDays → ℕ → CountedDays
sums_added sums day = record {
  method = sums.method;
  days = sums.days ++ (day, replicate (slices_a_day sums.method) no_counts) ∷ [];
}

pub counts_of-added : (sums : CountedDays) (day k : ℕ)
    → counts_of (sums_added sums day) k ≡ counts_of sums k
counts_of-added sums day k = value_at-added no_counts sums.days day (slices_a_day sums.method)
    (k / slices_a_day sums.method) (k % slices_a_day sums.method)

pub whole-added : (sums : CountedDays) (day : ℕ) →
    All (λ slices. length slices ≡ slices_a_day sums.method) (values_of sums.days) →
    All (λ slices. length slices ≡ slices_a_day sums.method) (values_of (sums_added sums day).days)
whole-added sums day whole =
    subst (λ l. All (λ slices. length slices ≡ slices_a_day sums.method) l)
    (sym (values_of-push sums.days day (replicate (slices_a_day sums.method) no_counts)))
    (All-push (λ slices. length slices ≡ slices_a_day sums.method)
    (values_of sums.days) (replicate (slices_a_day sums.method) no_counts) whole
    (length-replicate (slices_a_day sums.method) no_counts))

-- The sums with one day more, which the pages have.
pub CountsAreKept-added : (sums : CountedDays) (pages new : paged.LeafDays) (day : ℕ)
    → CountsAreKept sums pages →
    new.per_hour ≡ pages.per_hour →
    ((k : ℕ) → paged.leaf_at new k ≡ paged.leaf_at pages k) →
    ((other : ℕ) → paged.has_day new other ≡ (paged.has_day pages other || other == day)) →
    CountsAreKept (sums_added sums day) new
CountsAreKept-added sums pages new day kept hours leaves days = record {
  counted = record {
    divides = kept.counted.divides;
    sound = sound-same sums.method (counts_of sums) (counts_of (sums_added sums day))
        (λ k. sym (counts_of-added sums day k)) kept.counted.sound;
  };
  hour = hours ∙ kept.hour;
  leaves = λ k. leaves k ∙ kept.leaves k
      ∙ ap (λ (c : Counts). leaf sums.method c) (sym (counts_of-added sums day k));
  ready = λ other has. subst IsTrue (sym (days other))
      (either (paged.has_day pages other) (has_day sums other)
      (other == day) (kept.ready other) (subst IsTrue (days-added sums.days day other
      (replicate (slices_a_day sums.method) no_counts)) has));
}
  where
    either : (p q r : Bool) → (IsTrue q → IsTrue p) → IsTrue (q || r) → IsTrue (p || r)
    either true q r from has = refl
    either false true r from has = cc (from refl)
    either false false r from has = has
