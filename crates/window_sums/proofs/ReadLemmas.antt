-- The slots of the pages that are read for a range of minutes.
use Rattle.std.proofs.Common.{◌≡◌, ℕ, ◌-◌, ◌*◌, ◌/◌, ◌<◌, ◌≤◌, ap, sym, subst, ◌∙◌}
use Rattle.std.specs.Int.{◌∣◌, div_ceil}
use Rattle.std.proofs.lemmas.Grind.{div_ceil_times}
use Rattle.slo_limits.specs.declared.TheConstants.{MINUTES_A_DAY}
use Rattle.slo_terms.specs.Sums.{leaves_over, slice_from, slices_until, sum_of_slices}
use Rattle.sum_pages.specs.Pages as paged
use Rattle.window_sums.specs.Slices.{CountedDays, CountsAreKept, leaf_at, width_of}
use Rattle.window_sums.proofs.KeptFacts.{leaves_over-same}
use Rattle.window_sums.proofs.WidthFacts.{slice_from-div_ceil, slices-of_days, width-some}

-- So many slots from the first on are the slices of the range: they have its sum, are as many as
-- its slices, and those of so many days at most where the range is no longer.
pub record AreSlots (sums : CountedDays) (pages : paged.LeafDays) (from to first count : ℕ)
    : Type 0 where
  pub sum : leaves_over (paged.leaf_at pages) first count
      ≡ sum_of_slices (width_of sums.method) (leaf_at sums) from to
  pub slices : count
      ≡ slices_until (width_of sums.method) to - slice_from (width_of sums.method) from
  pub few : (days : ℕ) → to - from ≤ days * MINUTES_A_DAY → count ≤ days * (24 * pages.per_hour)

-- the slots that `sum` and `is_empty` read
pub are_slots : (sums kept : CountedDays) (pages : paged.LeafDays) (from to width first : ℕ)
    → CountsAreKept kept pages → kept ≡ sums → width ≡ width_of kept.method
    → first ≡ div_ceil from width
    → AreSlots sums pages from to first (to / width - first)
are_slots sums kept pages from to width first are view wide is = record {
  sum = leaves_over-same (paged.leaf_at pages) (leaf_at kept) are.leaves first (to / width - first)
      ∙ ap (λ s. leaves_over (leaf_at s) first (to / width - first)) view
      ∙ ap (λ n. leaves_over (leaf_at sums) n (to / width - n)) begins
      ∙ ap (λ w. leaves_over (leaf_at sums) (slice_from w from) (to / w - slice_from w from)) same;
  slices = ap (λ n. to / width - n) begins ∙ ap (λ w. to / w - slice_from w from) same;
  few = λ days less. subst (λ n. to / width - first ≤ days * (24 * n))
      (sym (are.hour ∙ ap (λ w. 60 / w) (sym wide)))
      (slices-of_days days width from to first divides
      (subst (λ n. from ≤ n * width) (sym is) (div_ceil_times from width some).0) less);
}
  where
    divides : width ∣ 60
    divides = subst (λ w. w ∣ 60) (sym wide) are.counted.divides

    some : 0 < width
    some = width-some width divides

    begins : first ≡ slice_from width from
    begins = is ∙ slice_from-div_ceil width from some

    same : width ≡ width_of sums.method
    same = wide ∙ ap (λ (s : CountedDays). width_of s.method) view
