-- What rows count for in one slice.
use Rattle.std.proofs.Common.{◌≡◌, ◌≢◌, ◌⊎◌, inl, inr, ℕ, suc, ◌+◌, ◌==◌, nat_eq, not, Bool, true}
use Rattle.std.proofs.Common.{false, cond, refl, ap, sym, ◌∙◌, List, [], ◌∷◌, slice_get, Some}
use Rattle.std.proofs.lemmas.Bool.Decides.{eqb_tells}
use Rattle.std.proofs.lemmas.List.Sums.{sum_by-cons}
use Rattle.slice_method.specs.declared.Counts.{Counts}
use Rattle.slice_method.specs.declared.Method.{Method}
use Rattle.slo_terms.specs.Sums.{amount_at}
use Rattle.sample_book.specs.declared.Exclusion.{Exclusion}
use Rattle.sample_book.specs.declared.Row.{Row}
use Rattle.window_sums.specs.Shares.{Share, slice_counts}
use Rattle.window_sums.specs.Slices.{CountedDays, counts_of, slice_of}
use Rattle.office_history.specs.declared.Measure.{Measure}
use Rattle.kept_sums.specs.Sums.{SumsAreKept, row_counts, share_by, shares_by}
use Rattle.kept_sums.specs.Walks.{IsChanged, made_on}
use Rattle.kept_sums.proofs.DayLemmas.{changed_on}
use Rattle.kept_sums.proofs.ReplaceLemmas.{same_or_other}

-- what a row counts for is added to its slice
pub one-more : (f : Counts → ℕ) (method : Method) (by : Row → Counts) (row : Row)
    (rows : List Row) (k : ℕ) →
    amount_at (λ (s : Share). slice_of method s.minute) (λ (s : Share). f s.counts)
    (shares_by by (row ∷ rows)) k
    ≡ cond (slice_of method row.minute == k) (f (by row)) 0
    + amount_at (λ (s : Share). slice_of method s.minute) (λ (s : Share). f s.counts)
    (shares_by by rows) k
one-more f method by row rows k =
    sum_by-cons (λ (s : Share). cond (slice_of method s.minute == k) (f s.counts) 0)
    (share_by by row) (shares_by by rows)

-- rows that count the same in a slice add up to the same there
pub shares-like : (method : Method) (g h : Row → Counts) (rows : List Row) (k : ℕ) →
    ((place : ℕ) (row : Row) → slice_get rows place ≡ Some row → slice_of method row.minute ≡ k →
    g row ≡ h row) →
    slice_counts method (shares_by g rows) k ≡ slice_counts method (shares_by h rows) k
shares-like method g h [] k same = refl
shares-like method g h (row ∷ rows) k same = joined
    (shares-like method g h rows k (λ place r at lies. same (suc place) r at lies))
  where
    sums : (Row → Counts) → (Counts → ℕ) → List Row → ℕ
    sums by f rows =
        amount_at (λ (s : Share). slice_of method s.minute) (λ (s : Share). f s.counts)
        (shares_by by rows) k

    here : (f : Counts → ℕ) →
        ((nat_eq (slice_of method row.minute) k ≡ true) × (slice_of method row.minute ≡ k))
        ⊎ ((nat_eq (slice_of method row.minute) k ≡ false) × (slice_of method row.minute ≢ k)) →
        cond (slice_of method row.minute == k) (f (g row)) 0
        ≡ cond (slice_of method row.minute == k) (f (h row)) 0
    here f (inl lies) =
        ap (λ c. cond (slice_of method row.minute == k) (f c) 0) (same 0 row refl lies.1)
    here f (inr other) = rw other.0 refl

    one : (f : Counts → ℕ) → sums g f rows ≡ sums h f rows →
        sums g f (row ∷ rows) ≡ sums h f (row ∷ rows)
    one f more =
        one-more f method g row rows k
        ∙ ap (λ n. n + sums g f rows) (here f (eqb_tells (slice_of method row.minute) k))
        ∙ ap (λ n. cond (slice_of method row.minute == k) (f (h row)) 0 + n) more
        ∙ sym (one-more f method h row rows k)

    joined : slice_counts method (shares_by g rows) k ≡ slice_counts method (shares_by h rows) k →
        slice_counts method (shares_by g (row ∷ rows)) k
        ≡ slice_counts method (shares_by h (row ∷ rows)) k
    joined rest = λ i. record {
      good = one (λ c. c.good) (ap (λ (c : Counts). c.good) rest) i;
      total = one (λ c. c.total) (ap (λ (c : Counts). c.total) rest) i;
    }

-- where an exclusion changes no row of a slice, its rows count the same with it and without it
pub unchanged : (m : Measure) (made : List (Exclusion × Bool)) (value : Exclusion) (taken : Bool)
    (rows : List Row) (k : ℕ) → (IsChanged m made value rows k → ⊥) →
    slice_counts m.method (shares_by (row_counts m (made_on made value (not taken))) rows) k
    ≡ slice_counts m.method (shares_by (row_counts m (made_on made value taken)) rows) k
unchanged m made value taken rows k free = shares-like m.method without within rows k each
  where
    without : Row → Counts
    without = row_counts m (made_on made value (not taken))

    within : Row → Counts
    within = row_counts m (made_on made value taken)

    each : (place : ℕ) (row : Row) → slice_get rows place ≡ Some row →
        slice_of m.method row.minute ≡ k → without row ≡ within row
    each place row at lies = by (same_or_other (without row) (within row))
      where
        by : (without row ≡ within row) ⊎ (without row ≢ within row) → without row ≡ within row
        by (inl same) = same
        by (inr other) = absurd (free (record {
          place = place;
          row = row;
          here = at;
          changed = changed_on m made value taken row other;
          lies = lies;
        }))

-- so the sums that followed it have the counts there that they had
pub untouched : (m : Measure) (made : List (Exclusion × Bool)) (value : Exclusion) (taken : Bool)
    (rows : List Row) (old new : CountedDays)
    → SumsAreKept m (made_on made value (not taken)) rows old →
    SumsAreKept m (made_on made value taken) rows new → (k : ℕ) →
    (IsChanged m made value rows k → ⊥) → counts_of new k ≡ counts_of old k
untouched m made value taken rows old new before after k free =
    after.counted k
    ∙ ap (λ method. slice_counts method
    (shares_by (row_counts m (made_on made value taken)) rows) k) after.method
    ∙ sym (unchanged m made value taken rows k free)
    ∙ sym (before.counted k ∙ ap (λ method. slice_counts method
    (shares_by (row_counts m (made_on made value (not taken))) rows) k) before.method)
