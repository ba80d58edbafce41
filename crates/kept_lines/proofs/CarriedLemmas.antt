-- Objectives that count the same, and windows over the sums of one that are taken for the other.
use Rattle.std.proofs.Common.{◌≡◌, ◌∙◌, ◌*◌, ℕ, true, false, cond, Option, Some, None, IfSome, ap}
use Rattle.std.proofs.Common.{subst, sym}
use Rattle.exact_fraction.specs.declared.Leaf.{Leaf}
use Rattle.slice_method.specs.Leaves.{leaf}
use Rattle.slo_terms.specs.Sums.{sum_over}
use Rattle.sample_book.specs.Counting.{counts_of_minute}
use Rattle.sample_book.specs.Exclusions.{is_excluded}
use Rattle.window_sums.specs.Slices.{CountedDays, leaf_at as leaf_of_days, no_counts, width_of}
use Rattle.alert_line.specs.Summed.{AreSummedAt}
use Rattle.alert_line.specs.declared.SummedWindows.{SummedWindows}
use Rattle.office_history.specs.declared.Measure.{Measure}
use Rattle.office_history.specs.Counts.{Samples, counts_at, leaf_at, slice_counts}
use Rattle.kept_sums.specs.Objectives.{HasNoExclusions, counted, pooled}
use Rattle.kept_sums.proofs.SharedLemmas.{CountAlike, alike}
use Rattle.kept_lines.specs.Carried.{AreCarried, HaveSameLeaves}
use Rattle.kept_lines.specs.Sums.{AreSums}

-- OBJECTIVES

-- a minute counts the same for both, where it is excluded for both or for neither
same-minute : (s : Samples) (a b : Measure) (minute : ℕ) → CountAlike a b
    → is_excluded s.exclusions a.slo minute ≡ is_excluded s.exclusions b.slo minute
    → counts_at s a minute ≡ counts_at s b minute
same-minute s a b minute same out = λ i.
    cond (out i) no_counts
    (counts_of_minute (same.reading i) (same.op i) (same.value i) s.rows (same.sli i) minute)

same-slice : (s : Samples) (a b : Measure) (slice : ℕ) → CountAlike a b
    → ((minute : ℕ) → is_excluded s.exclusions a.slo minute
    ≡ is_excluded s.exclusions b.slo minute)
    → slice_counts s a slice ≡ slice_counts s b slice
same-slice s a b slice same out = λ i. record {
  good = sum_over (λ minute. (same-minute s a b minute same (out minute) i).good)
      (slice * width_of (same.method i)) (width_of (same.method i));
  total = sum_over (λ minute. (same-minute s a b minute same (out minute) i).total)
      (slice * width_of (same.method i)) (width_of (same.method i));
}

same-leaves : (s : Samples) (a b : Measure) → CountAlike a b
    → ((minute : ℕ) → is_excluded s.exclusions a.slo minute
    ≡ is_excluded s.exclusions b.slo minute)
    → HaveSameLeaves s a b
same-leaves s a b same out = record {
  method = same.method;
  leaves = λ slice i. leaf (same.method i) (same-slice s a b slice same out i);
}

-- objectives of one SLO that differ in their targets alone have the same leaves
pub counted-leaves : (s : Samples) (a b : Measure) → counted a ≡ counted b → HaveSameLeaves s a b
counted-leaves s a b e =
    same-leaves s a b (alike false a b e)
    (λ minute. ap (λ (m : Measure). is_excluded s.exclusions m.slo minute) e)

-- .. and so have those that differ in their SLOs too, where nothing is excluded for these
pub pooled-leaves : (s : Samples) (a b : Measure) → pooled a ≡ pooled b
    → HasNoExclusions s.exclusions a.slo → HasNoExclusions s.exclusions b.slo
    → HaveSameLeaves s a b
pooled-leaves s a b e first second =
    same-leaves s a b (alike true a b e) (λ minute. first minute ∙ sym (second minute))

-- WINDOWS

-- windows over leaves are windows over the same leaves
same-windows : (width other : ℕ) (leaves others : ℕ → Leaf) (minute : ℕ) (w : SummedWindows) →
    width ≡ other → leaves ≡ others → AreSummedAt width leaves minute w →
    AreSummedAt other others minute w
same-windows width other leaves others minute w widths same are =
    subst (λ (n : ℕ). AreSummedAt n others minute w) widths
    (subst (λ (f : ℕ → Leaf). AreSummedAt width f minute w) same are)

-- windows over what one objective counts are over what the other does
pub carried-on : (s : Samples) (a b : Measure) (minute : ℕ) (w : SummedWindows) →
    HaveSameLeaves s a b → AreSummedAt (width_of a.method) (leaf_at s a) minute w →
    AreSummedAt (width_of b.method) (leaf_at s b) minute w
carried-on s a b minute w same are =
    same-windows (width_of a.method) (width_of b.method) (leaf_at s a) (leaf_at s b) minute w
    (ap width_of same.method) (λ i slice. same.leaves slice i) are

-- windows of an objective are windows over its sums
pub over-sums : (s : Samples) (m : Measure) (sums : CountedDays) (minute : ℕ)
    (w : SummedWindows) → AreSums s m sums →
    AreSummedAt (width_of m.method) (leaf_at s m) minute w →
    AreSummedAt (width_of sums.method) (leaf_of_days sums) minute w
over-sums s m sums minute w is are =
    same-windows (width_of m.method) (width_of sums.method) (leaf_at s m) (leaf_of_days sums)
    minute w (ap width_of (sym is.method)) (λ i slice. sym (is.leaves slice) i) are

-- .. and the other way round, so they are carried on
pub of-sums : (s : Samples) (m : Measure) (sums : CountedDays) (minute : ℕ) (measure : Option
    Measure) (w : SummedWindows) → AreSums s m sums →
    IfSome measure (λ (own : Measure). HaveSameLeaves s own m) →
    AreSummedAt (width_of sums.method) (leaf_of_days sums) minute w →
    AreCarried s minute (record { measure = measure; windows = w })
of-sums s m sums minute None w is same are = tt
of-sums s m sums minute (Some own) w is same are =
    same-windows (width_of sums.method) (width_of own.method) (leaf_of_days sums) (leaf_at s own)
    minute w (ap width_of (is.method ∙ sym same.method))
    (λ i slice. (is.leaves slice ∙ sym (same.leaves slice)) i) are
