-- The counts of a slice are those of its minutes.
use Rattle.std.proofs.Common.{◌≡◌, ◌≢◌, ◌⊎◌, inl, inr, ℕ, zero, suc, ◌+◌, ◌-◌, ◌*◌, ◌/◌, ◌%◌, ◌≤◌}
use Rattle.std.proofs.Common.{◌<◌, ◌==◌, ◌&&◌, nat_eq, nat_le, Bool, true, false, cond, not, refl}
use Rattle.std.proofs.Common.{ap, sym, subst, ◌∙◌, arith, List, [], ◌∷◌, filter, if◌then◌else◌}
use Rattle.std.proofs.lemmas.Bool.Decides.{eqb_tells, leb_tells}
use Rattle.std.proofs.lemmas.List.Sums.{sum_by-cons}
use Rattle.std.proofs.Math.Nat.{div-add-mod'}
use Rattle.std.proofs.lemmas.Nat.{div-mul-add, mod_below}
use Rattle.slice_method.specs.declared.Counts.{Counts}
use Rattle.slice_method.specs.Readings.{counts}
use Rattle.slo_terms.specs.Sums.{amount_at, sum_over}
use Rattle.slo_terms.proofs.RangeLemmas.{sum_over-none, sum_over-same}
use Rattle.sample_book.specs.declared.Exclusion.{Exclusion}
use Rattle.sample_book.specs.declared.Row.{Row}
use Rattle.sample_book.specs.Counting.{counted_in_minute, counts_of_minute, is_of}
use Rattle.sample_book.specs.Exclusions.{is_excluded}
use Rattle.window_sums.specs.Shares.{Share}
use Rattle.window_sums.specs.Shares as days
use Rattle.window_sums.specs.Slices.{CountedDays, counts_of, no_counts, slice_of, width_of}
use Rattle.office_history.specs.declared.Measure.{Measure}
use Rattle.office_history.specs.Counts.{slice_counts}
use Rattle.kept_sums.specs.Sums.{SumsAreKept, row_counts, share_by, shares_by}

amount-cons : (key f : Share → ℕ) (s : Share) (shares : List Share) (k : ℕ) →
    amount_at key f (s ∷ shares) k ≡ (if key s == k then f s else 0) + amount_at key f shares k
amount-cons key f s shares k = sum_by-cons (λ s. if key s == k then f s else 0) s shares

no_term : (key place : ℕ) (first count : ℕ) → (key < first) ⊎ (first + count ≤ key)
    → sum_over (λ m. if key == m then place else 0) first count ≡ 0
unfolding sum_over
no_term key place first zero out = refl
no_term key place first (suc count) out =
    by (eqb_tells key (first + count)) (no_term key place first count (less out))
  where
    less : (key < first) ⊎ (first + suc count ≤ key) → (key < first) ⊎ (first + count ≤ key)
    less (inl before) = inl before
    less (inr behind) = inr (omega (arith, behind))

    apart : key ≡ first + count → (key < first) ⊎ (first + suc count ≤ key) → ⊥
    apart e (inl before) = omega (arith, e, before)
    apart e (inr behind) = omega (arith, e, behind)

    by : ((nat_eq key (first + count) ≡ true) × (key ≡ first + count))
        ⊎ ((nat_eq key (first + count) ≡ false) × (key ≢ first + count)) →
        sum_over (λ m. if key == m then place else 0) first count ≡ 0 →
        sum_over (λ m. if key == m then place else 0) first count
        + (if key == first + count then place else 0) ≡ 0
    by (inl same) none = absurd (apart same.1 out)
    by (inr other) none = rw (other.0, none) refl

one_term : (key place : ℕ) (first count : ℕ) → first ≤ key → key < first + count
    → sum_over (λ m. if key == m then place else 0) first count ≡ place
unfolding sum_over
one_term key place first zero le less = absurd (omega (arith, le, less))
one_term key place first (suc count) le less =
    by (eqb_tells key (first + count)) (λ other. one_term key place first count le (below other))
  where
    below : key ≢ first + count → key < first + count
    below other = omega (arith, other, less)

    by : ((nat_eq key (first + count) ≡ true) × (key ≡ first + count))
        ⊎ ((nat_eq key (first + count) ≡ false) × (key ≢ first + count)) →
        (key ≢ first + count → sum_over (λ m. if key == m then place else 0) first count ≡ place) →
        sum_over (λ m. if key == m then place else 0) first count
        + (if key == first + count then place else 0) ≡ place
    by (inl same) go =
        rw (same.0, no_term key place first count (inr (omega (arith, same.1)))) (omega arith)
    by (inr other) go = rw other.0 (omega (arith, go other.1))

-- a minute lies in its slice alone
one_minute : (w minute place k : ℕ) → 0 < w → sum_over (λ m. if minute == m then place else 0)
    (k * w) w ≡ (if minute / w == k then place else 0)
one_minute w minute place k some = by (eqb_tells (minute / w) k)
  where
    parts : minute / w * w + minute % w ≡ minute
    parts = div-add-mod' minute w

    inside : minute / w ≡ k → (k * w ≤ minute) × (minute < k * w + w)
    inside e =
        let p : k * w + minute % w ≡ minute = subst (λ q. q * w + minute % w ≡ minute) e parts in
        let b = mod_below minute w some in
        ((omega (arith, p)), (omega (arith, p, b)))

    quotient : (r : ℕ) → r < w → minute ≡ k * w + r → minute / w ≡ k
    quotient r less e = ap (λ n. n / w) e ∙ div-mul-add k w r less

    outside : minute / w ≢ k → (minute < k * w) ⊎ (k * w + w ≤ minute)
    outside other = tell (leb_tells (k * w) minute) (leb_tells (k * w + w) minute)
      where
        tell : ((nat_le (k * w) minute ≡ true) × (k * w ≤ minute))
            ⊎ ((nat_le (k * w) minute ≡ false) × (minute < k * w)) →
            ((nat_le (k * w + w) minute ≡ true) × (k * w + w ≤ minute))
            ⊎ ((nat_le (k * w + w) minute ≡ false) × (minute < k * w + w)) →
            (minute < k * w) ⊎ (k * w + w ≤ minute)
        tell (inr before) behind = inl before.1
        tell (inl from) (inl behind) = inr behind.1
        tell (inl from) (inr to) = absurd (other
            (quotient (minute - k * w) (omega (arith, from.1, to.1)) (omega (arith, from.1))))

    by : ((nat_eq (minute / w) k ≡ true) × (minute / w ≡ k))
        ⊎ ((nat_eq (minute / w) k ≡ false) × (minute / w ≢ k)) →
        sum_over (λ m. if minute == m then place else 0) (k * w) w
        ≡ (if minute / w == k then place else 0)
    by (inl same) = let i = inside same.1 in rw same.0 (one_term minute place (k * w) w i.0 i.1)
    by (inr other) = rw other.0 (no_term minute place (k * w) w (outside other.1))

sum_over-plus : (f g : ℕ → ℕ) (first count : ℕ)
    → sum_over (λ k. f k + g k) first count ≡ sum_over f first count + sum_over g first count
unfolding sum_over
sum_over-plus f g first zero = refl
sum_over-plus f g first (suc count) = omega (arith, sum_over-plus f g first count)

-- the amounts of a slice are those of its minutes
slice_of_minutes : (w : ℕ) (f : Share → ℕ) (shares : List Share) (k : ℕ) → 0 < w →
    amount_at (λ s. s.minute / w) f shares k
    ≡ sum_over (λ m. amount_at (λ s. s.minute) f shares m) (k * w) w
slice_of_minutes w f [] k some = sym (sum_over-none (k * w) w)
slice_of_minutes w f (s ∷ shares) k some =
    amount-cons (λ s. s.minute / w) f s shares k
    ∙ ap (λ n. n + amount_at (λ s. s.minute / w) f shares k)
    (sym (one_minute w s.minute (f s) k some))
    ∙ ap (λ n. sum_over (λ m. if s.minute == m then f s else 0) (k * w) w + n)
    (slice_of_minutes w f shares k some)
    ∙ sym (sum_over-plus (λ m. if s.minute == m then f s else 0)
    (λ m. amount_at (λ s. s.minute) f shares m) (k * w) w)
    ∙ sum_over-same (λ m. (if s.minute == m then f s else 0) + amount_at (λ s. s.minute) f shares m)
    (λ m. amount_at (λ s. s.minute) f (s ∷ shares) m)
    (λ m. sym (amount-cons (λ s. s.minute) f s shares m)) (k * w) w

share_and_rest : (f : Counts → ℕ) →
    f no_counts ≡ 0 → (c : Counts) (a b x x' : Bool) (rest more : ℕ) → (b ≡ true → x ≡ x') →
    more ≡ cond b (f c) 0 + rest →
    cond b (f (cond (a && not x) c no_counts)) 0 + cond x' 0 rest ≡ cond x' 0 (cond a more rest)
share_and_rest f e c true true true true rest more same is = omega (arith, e)
share_and_rest f e c true true false false rest more same is = sym is
share_and_rest f e c a true true false rest more same is = cc (same refl)
share_and_rest f e c a true false true rest more same is = cc (same refl)
share_and_rest f e c false true true true rest more same is = omega (arith, e)
share_and_rest f e c false true false false rest more same is = omega (arith, e)
share_and_rest f e c true false x true rest more same is = refl
share_and_rest f e c false false x true rest more same is = refl
share_and_rest f e c true false x false rest more same is = sym is
share_and_rest f e c false false x false rest more same is = omega arith

-- what a minute counts for is what its rows do
minute_shares : (f : Counts → ℕ) → f no_counts ≡ 0 →
    (m : Measure) (made : List (Exclusion × Bool)) (rows : List Row) (u : ℕ) →
    amount_at (λ s. s.minute) (λ s. f s.counts) (shares_by (row_counts m made) rows) u
    ≡ (if is_excluded made m.slo u then 0 else amount_at (λ row. row.minute)
    (λ row. f (counts m.reading m.op m.value row.amount)) (filter (is_of m.sli) rows) u)
minute_shares f e m made [] u = by (is_excluded made m.slo u)
  where
    by : (b : Bool) → ◌≡◌ {A = ℕ} 0 (if b then 0 else 0)
    by true = refl
    by false = refl
minute_shares f e m made (row ∷ rows) u =
    amount-cons (λ s. s.minute) (λ s. f s.counts) (share_by (row_counts m made) row)
    (shares_by (row_counts m made) rows) u
    ∙ ap (λ n. (if row.minute == u then f (row_counts m made row) else 0) + n)
    (minute_shares f e m made rows u)
    ∙ share_and_rest f e (counts m.reading m.op m.value row.amount) (is_of m.sli row)
    (row.minute == u) (is_excluded made m.slo row.minute) (is_excluded made m.slo u)
    (amount_at (λ row. row.minute) (λ row. f (counts m.reading m.op m.value row.amount))
    (filter (is_of m.sli) rows) u)
    (amount_at (λ row. row.minute) (λ row. f (counts m.reading m.op m.value row.amount))
    (row ∷ filter (is_of m.sli) rows) u)
    (same_minute (eqb_tells row.minute u))
    (sum_by-cons (λ row. if row.minute == u then f (counts m.reading m.op m.value row.amount)
    else 0) row (filter (is_of m.sli) rows))
    ∙ ap (λ n. if is_excluded made m.slo u then 0 else n) (taken (is_of m.sli row))
  where
    same_minute : ((nat_eq row.minute u ≡ true) × (row.minute ≡ u))
        ⊎ ((nat_eq row.minute u ≡ false) × (row.minute ≢ u)) →
        (row.minute == u) ≡ true → is_excluded made m.slo row.minute ≡ is_excluded made m.slo u
    same_minute (inl same) h = ap (is_excluded made m.slo) same.1
    same_minute (inr other) h = let none : false ≡ true = sym other.0 ∙ h in cc none

    taken : (a : Bool) →
        cond a (amount_at (λ row. row.minute) (λ row. f (counts m.reading m.op m.value row.amount))
        (row ∷ filter (is_of m.sli) rows) u)
        (amount_at (λ row. row.minute) (λ row. f (counts m.reading m.op m.value row.amount))
        (filter (is_of m.sli) rows) u)
        ≡ amount_at (λ row. row.minute) (λ row. f (counts m.reading m.op m.value row.amount))
        (cond a (row ∷ filter (is_of m.sli) rows) (filter (is_of m.sli) rows)) u
    taken true = refl
    taken false = refl

slice_minutes : (f : Counts → ℕ) (none : f no_counts ≡ 0) (m : Measure)
    (made : List (Exclusion × Bool)) (rows : List Row) (k : ℕ) → 0 < width_of m.method →
    ((b : Bool) (u : ℕ) → cond b 0 (amount_at (λ row. row.minute)
    (λ row. f (counts m.reading m.op m.value row.amount)) (filter (is_of m.sli) rows) u)
    ≡ f (cond b no_counts (counts_of_minute m.reading m.op m.value rows m.sli u))) →
    amount_at (λ s. slice_of m.method s.minute) (λ s. f s.counts)
    (shares_by (row_counts m made) rows) k
    ≡ sum_over (λ u. f (counted_in_minute m.reading m.op m.value made rows m.slo m.sli u))
    (k * width_of m.method) (width_of m.method)
slice_minutes f none m made rows k some seen =
    slice_of_minutes (width_of m.method) (λ s. f s.counts)
    (shares_by (row_counts m made) rows) k some
    ∙ sum_over-same (λ u. amount_at
    (λ s. s.minute) (λ s. f s.counts) (shares_by (row_counts m made) rows) u)
    (λ u. f (counted_in_minute m.reading m.op m.value made rows m.slo m.sli u))
    (λ u. minute_shares f none m made rows u ∙ seen (is_excluded made m.slo u) u)
    (k * width_of m.method) (width_of m.method)

good_seen : (m : Measure) (rows : List Row) (b : Bool) (u : ℕ) →
    cond b 0 (amount_at (λ row. row.minute)
    (λ row. (counts m.reading m.op m.value row.amount).good) (filter (is_of m.sli) rows) u)
    ≡ (cond b no_counts (counts_of_minute m.reading m.op m.value rows m.sli u)).good
good_seen m rows true u = refl
good_seen m rows false u = refl

total_seen : (m : Measure) (rows : List Row) (b : Bool) (u : ℕ) →
    cond b 0 (amount_at (λ row. row.minute)
    (λ row. (counts m.reading m.op m.value row.amount).total) (filter (is_of m.sli) rows) u)
    ≡ (cond b no_counts (counts_of_minute m.reading m.op m.value rows m.sli u)).total
total_seen m rows true u = refl
total_seen m rows false u = refl

-- the shares of a slice add up to its counts
pub same_slices : (m : Measure) (made : List (Exclusion × Bool)) (rows : List Row) (k : ℕ) →
    0 < width_of m.method →
    days.slice_counts m.method (shares_by (row_counts m made) rows) k
    ≡ slice_counts (record { rows = rows; exclusions = made }) m k
same_slices m made rows k some = λ i. record {
  good = slice_minutes (λ c. c.good) refl m made rows k some (good_seen m rows) i;
  total = slice_minutes (λ c. c.total) refl m made rows k some (total_seen m rows) i;
}

-- kept counts are those of the minutes
pub kept_counts : (m : Measure) (made : List (Exclusion × Bool)) (rows : List Row)
    (sums : CountedDays) (k : ℕ) → 0 < width_of m.method → SumsAreKept m made rows sums →
    counts_of sums k ≡ slice_counts (record { rows = rows; exclusions = made }) m k
kept_counts m made rows sums k some kept =
    kept.counted k ∙ ap (λ method. days.slice_counts method (shares_by (row_counts m made) rows) k)
    kept.method ∙ same_slices m made rows k some
