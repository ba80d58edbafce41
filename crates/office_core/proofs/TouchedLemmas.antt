-- A row that counts otherwise changes the counts of its minute.
use Rattle.std.proofs.Common.{◌≡◌, ◌≢◌, ◌⊎◌, inl, inr, ℕ, zero, suc, ◌+◌, ◌==◌, ◌&&◌, nat_eq, not}
use Rattle.std.proofs.Common.{Bool}
use Rattle.std.proofs.Common.{true, false, cond, arith, ap, refl, sym, subst, ◌∙◌, if◌then◌else◌}
use Rattle.std.proofs.Common.{List, [], ◌∷◌, filter, Option, Some, None, slice_get}
use Rattle.std.proofs.lemmas.Bool.Decides.{eqb_tells}
use Rattle.std.proofs.lemmas.List.Sums.{sum_by-cons}
use Rattle.slice_method.specs.declared.Counts.{Counts}
use Rattle.slice_method.specs.Readings.{counts}
use Rattle.slo_terms.specs.Sums.{amount_at}
use Rattle.sample_book.specs.declared.Exclusion.{Exclusion}
use Rattle.sample_book.specs.declared.Row.{Row}
use Rattle.sample_book.specs.Counting.{counts_of_minute, is_of}
use Rattle.sample_book.specs.Exclusions.{is_excluded}
use Rattle.window_sums.specs.Slices.{no_counts}
use Rattle.office_history.specs.declared.Measure.{Measure}
use Rattle.office_history.specs.Counts.{Samples, counts_at}
use Rattle.kept_sums.specs.Sums.{row_counts}

abbrev minute_of : Row → ℕ
minute_of row = row.minute

amount_cons : (f : Row → ℕ) (x : Row) (rows : List Row) (minute : ℕ) →
    amount_at minute_of f (x ∷ rows) minute
    ≡ (if x.minute == minute then f x else 0) + amount_at minute_of f rows minute
amount_cons f x rows minute =
    sum_by-cons (λ (x : Row). if x.minute == minute then f x else 0) x rows

none_less : (a b c : ℕ) → a ≡ b + c → a ≡ 0 → c ≡ 0
none_less a b c is none = omega (arith, is, none)

none_first : (f : Row → ℕ) (x : Row) (rest a : ℕ) →
    ((nat_eq x.minute x.minute ≡ true) × (x.minute ≡ x.minute))
    ⊎ ((nat_eq x.minute x.minute ≡ false) × (x.minute ≢ x.minute)) →
    a ≡ (if x.minute == x.minute then f x else 0) + rest → a ≡ 0 → f x ≡ 0
none_first f x rest a (inl same) is none =
    let put : a ≡ f x + rest = is ∙ ap (λ (b : Bool). (if b then f x else 0) + rest) same.0 in
    omega (arith, put, none)
none_first f x rest a (inr other) is none = absurd (other.1 refl)

-- where a minute counts nothing, none of its rows does
none_counts : (sli : List ℕ) (f : Row → ℕ) (rows : List Row) (place : ℕ) (row : Row) →
    slice_get rows place ≡ Some row → is_of sli row ≡ true →
    amount_at minute_of f (filter (is_of sli) rows) row.minute ≡ 0 → f row ≡ 0
none_counts sli f [] place row here own none = cc here
none_counts sli f (x ∷ rows) zero row here own none =
    let same : x ≡ row = cc here in
    subst (λ (r : Row). f r ≡ 0) same
    (first (subst (λ (r : Row). is_of sli r ≡ true) (sym same) own)
    (subst (λ (r : Row). amount_at minute_of f (filter (is_of sli) (x ∷ rows)) r.minute ≡ 0)
    (sym same) none))
  where
    first : is_of sli x ≡ true →
        amount_at minute_of f (filter (is_of sli) (x ∷ rows)) x.minute ≡ 0 → f x ≡ 0
    first own none =
        none_first f x (amount_at minute_of f (filter (is_of sli) rows) x.minute)
        (amount_at minute_of f (x ∷ filter (is_of sli) rows) x.minute)
        (eqb_tells x.minute x.minute) (amount_cons f x (filter (is_of sli) rows) x.minute)
        (subst (λ (b : Bool). amount_at minute_of f
        (cond b (x ∷ filter (is_of sli) rows) (filter (is_of sli) rows)) x.minute ≡ 0) own none)
none_counts sli f (x ∷ rows) (suc place) row here own none =
    none_counts sli f rows place row here own (by (is_of sli x) none)
  where
    by : (b : Bool) → amount_at minute_of f
        (cond b (x ∷ filter (is_of sli) rows) (filter (is_of sli) rows)) row.minute ≡ 0 →
        amount_at minute_of f (filter (is_of sli) rows) row.minute ≡ 0
    by false none = none
    by true none =
        none_less (amount_at minute_of f (x ∷ filter (is_of sli) rows) row.minute)
        (if x.minute == row.minute then f x else 0)
        (amount_at minute_of f (filter (is_of sli) rows) row.minute)
        (amount_cons f x (filter (is_of sli) rows) row.minute) none

nothing : (c : Counts) → c.good ≡ 0 → c.total ≡ 0 → c ≡ no_counts
nothing c good total = λ i. record { good = good i; total = total i }

module _ (m : Measure) (rows : List Row) (place : ℕ) (row : Row) where
  abbrev own_counts : Counts
  own_counts = counts m.reading m.op m.value row.amount

  abbrev minute_counts : Counts
  minute_counts = counts_of_minute m.reading m.op m.value rows m.sli row.minute

  -- a minute whose rows count nothing has no row that counts
  quiet : slice_get rows place ≡ Some row → is_of m.sli row ≡ true → minute_counts ≡ no_counts →
      own_counts ≡ no_counts
  quiet here own none =
      nothing own_counts
      (none_counts m.sli (λ (row : Row). (counts m.reading m.op m.value row.amount).good) rows place
      row here own (ap (λ (c : Counts). c.good) none))
      (none_counts m.sli (λ (row : Row). (counts m.reading m.op m.value row.amount).total) rows
      place row here own (ap (λ (c : Counts). c.total) none))

  by_cases : slice_get rows place ≡ Some row → (own a b : Bool) → is_of m.sli row ≡ own →
      cond (own && not a) own_counts no_counts ≢ cond (own && not b) own_counts no_counts →
      cond a no_counts minute_counts ≡ cond b no_counts minute_counts → ⊥
  by_cases here false a b is differ same = differ refl
  by_cases here true true true is differ same = differ refl
  by_cases here true false false is differ same = differ refl
  by_cases here true true false is differ same = differ (sym (quiet here is (sym same)))
  by_cases here true false true is differ same = differ (quiet here is same)

  -- a row that counts otherwise over other exclusions changes the counts of its minute
  pub changed_minute : (made other : List (Exclusion × Bool)) → slice_get rows place ≡ Some row →
      row_counts m made row ≢ row_counts m other row →
      counts_at (record { rows = rows; exclusions = made }) m row.minute
      ≢ counts_at (record { rows = rows; exclusions = other }) m row.minute
  changed_minute made other here differ same =
      by_cases here (is_of m.sli row) (is_excluded made m.slo row.minute)
      (is_excluded other m.slo row.minute) refl differ same
