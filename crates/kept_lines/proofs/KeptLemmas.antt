-- The sums that are found among those that are kept.
use Rattle.std.proofs.Common.{◌≡◌, ℕ}
use Rattle.slice_method.specs.Leaves.{leaf}
use Rattle.window_sums.specs.Slices.{CountedDays, counts_of}
use Rattle.office_history.specs.declared.Measure.{Measure}
use Rattle.office_history.specs.Counts.{Samples, slice_counts}
use Rattle.kept_sums.specs.Sums.{SumsAreKept}
use Rattle.kept_sums.specs.Found.{HasNoOwn, HasNoPooled, IsTold}
use Rattle.kept_sums.specs.Objectives.{IsObjective}
use Rattle.kept_sums.proofs.SharedLemmas.{not-without, told-kept}
use Rattle.office_derived.specs.declared.Derived.{Derived}
use Rattle.office_derived.specs.Derived.{IsSound}
use Rattle.kept_lines.specs.Sums.{AreSums}

-- the sums of an objective of the catalog are those of its rows
pub kept_there : (d : Derived) (m : Measure) (sums : CountedDays) → IsSound d →
    IsObjective d.catalog m → IsTold d.sums m sums →
    SumsAreKept m d.book.exclusions d.book.rows sums
kept_there d m sums s is told =
    told-kept d.book.exclusions d.book.rows d.sums m sums s.sums.own s.sums.pooled
    (s.sums.all m is) told

-- and it has some
pub never_lacking : (d : Derived) (m : Measure) → IsSound d → IsObjective d.catalog m →
    HasNoOwn d.sums m → HasNoPooled d.sums m → ⊥
never_lacking d m s is own pool =
    not-without d.book.exclusions d.sums m (s.sums.all m is) own pool

-- and they are its sums, where each slice counts what its minutes do
pub are_sums : (s : Samples) (m : Measure) (sums : CountedDays) →
    ((slice : ℕ) → counts_of sums slice ≡ slice_counts s m slice) →
    SumsAreKept m s.exclusions s.rows sums → AreSums s m sums
are_sums s m sums counts kept = record {
  method = kept.method;
  leaves = λ slice i. leaf (kept.method i) (counts slice i);
}
