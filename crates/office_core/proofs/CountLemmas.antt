-- Sums that are kept over the same rows count the same.
use Rattle.std.proofs.Common.{◌≡◌, ◌∙◌, ℕ, Bool, List, ap, subst, sym}
use Rattle.sample_book.specs.declared.Exclusion.{Exclusion}
use Rattle.sample_book.specs.declared.Row.{Row}
use Rattle.slice_method.specs.declared.Method.{Method}
use Rattle.window_sums.specs.Shares.{slice_counts as share_counts}
use Rattle.window_sums.specs.Slices.{CountedDays, counts_of}
use Rattle.object_terms.specs.declared.Object.{Object}
use Rattle.office_history.specs.declared.Measure.{Measure}
use Rattle.kept_sums.specs.Sums.{SumsAreKept, row_counts, shares_by}
use Rattle.kept_sums.specs.Objectives.{KeepsSums, KeptObjectives}
use Rattle.office_derived.specs.declared.Derived.{Derived}
use Rattle.office_derived.specs.Derived.{Stays}
use Rattle.office_core.specs.Lent.{CountTheSame}
use Rattle.office_core.specs.SumsSeen.{sums_seen}
use Rattle.office_core.proofs.SeenLemmas.{seen_all, seen_kept, seen_only}

module _ (members : List Object) (made : List (Exclusion × Bool)) (rows : List Row) where
  same_counts : (m : Measure) (a b : CountedDays) → SumsAreKept m made rows a
      → SumsAreKept m made rows b →
      (slice : ℕ) → counts_of b slice ≡ counts_of a slice
  same_counts m a b of_a of_b slice =
      of_b.counted slice
      ∙ ap (λ (method : Method). share_counts method (shares_by (row_counts m made) rows) slice)
      (of_b.method ∙ sym of_a.method)
      ∙ sym (of_a.counted slice)

  pub count_same : (old new : KeptObjectives) → KeepsSums members made rows old →
      KeepsSums members made rows new →
      CountTheSame (sums_seen members old) (sums_seen members new)
  count_same old new keeps keeps' = record {
    still = λ m there.
        seen_all members made rows new keeps' m (seen_only members made rows old keeps m there);
    only = λ m there.
        seen_all members made rows old keeps m (seen_only members made rows new keeps' m there);
    method = λ m before after was is.
        (seen_kept members made rows new keeps' m after is).method
        ∙ sym (seen_kept members made rows old keeps m before was).method;
    counts = λ m before after slice was is.
        same_counts m before after (seen_kept members made rows old keeps m before was)
        (seen_kept members made rows new keeps' m after is) slice;
  }

-- more room leaves what the sums count
pub count_stays : (d d' : Derived) → Stays d d' →
    KeepsSums d.catalog d.book.exclusions d.book.rows d.sums →
    CountTheSame (sums_seen d.catalog d.sums) (sums_seen d'.catalog d'.sums)
count_stays d d' s keeps =
    subst (λ (os : List Object). CountTheSame (sums_seen d.catalog d.sums) (sums_seen os d'.sums))
    (sym s.catalog)
    (count_same d.catalog d.book.exclusions d.book.rows d.sums d'.sums keeps
    (subst (λ (os : List Object). KeepsSums os d.book.exclusions d.book.rows d'.sums)
    s.catalog
    (subst (λ (made : List (Exclusion × Bool)). KeepsSums d'.catalog made d.book.rows d'.sums)
    s.exclusions
    (subst (λ (rows : List Row). KeepsSums d'.catalog d'.book.exclusions rows d'.sums) s.rows
    (s.sums keeps)))))
