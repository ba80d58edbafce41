-- The rows that an exclusion changes.
use Rattle.std.proofs.Common.{◌≡◌, ◌≢◌, ◌⊎◌, inl, inr, ℕ, zero, suc, ◌≤◌, ◌<◌, ◌&&◌, nat_eq}
use Rattle.std.proofs.Common.{nat_le, nat_lt, Bool, true, false, refl, arith, ap, sym, subst, ◌∙◌}
use Rattle.std.proofs.Common.{List, [], ◌∷◌, take, length, slice_get, Option, Some}
use Rattle.std.specs.Str.{bytes_eq}
use Rattle.std.proofs.lemmas.Bool.{and_parts}
use Rattle.std.proofs.lemmas.Bool.Decides.{leb_tells, nat_tests}
use Rattle.sample_book.specs.declared.Exclusion.{Exclusion}
use Rattle.sample_book.specs.declared.Row.{Row}
use Rattle.cell_index.specs.Chains.{below, last}
use Rattle.sample_book.specs.LastRows.{is_on, last_place}
use Rattle.sample_book.specs.Counting.{is_of}
use Rattle.sample_book.specs.Exclusions.{excludes}
use Rattle.cell_index.proofs.ChainLemmas.{last-behind, last-passes, last-within}
use Rattle.window_sums.specs.Slices.{day_of}
use Rattle.office_history.specs.declared.Measure.{Measure}
use Rattle.kept_sums.specs.Sums.{row_counts}
use Rattle.kept_sums.specs.Walks.{IsChanged, IsOnKey, made_on, rows_until}
use Rattle.kept_sums.proofs.DayLemmas.{other_counts_none, same_on}
use Rattle.kept_sums.proofs.ListLemmas.{get_taken, take_all}
use Rattle.kept_sums.proofs.WalkLemmas.{until_below}
use Rattle.line_forgetting.specs.Touched.{IsChangedRow}

-- a row counts otherwise with an exclusion than without it
abbrev pub Differs : Measure → List (Exclusion × Bool) → Exclusion → Row → Type 0
Differs m made value row =
    row_counts m (made_on made value false) row ≢ row_counts m (made_on made value true) row

-- a row that counts otherwise is of the indicator
changed-own : (m : Measure) (made : List (Exclusion × Bool)) (value : Exclusion) (row : Row) →
    Differs m made value row → is_of m.sli row ≡ true
changed-own m made value row differ = by (is_of m.sli row) refl
  where
    by : (b : Bool) → is_of m.sli row ≡ b → is_of m.sli row ≡ true
    by true e = e
    by false e = absurd (differ (other_counts_none m (made_on made value false) row e
        ∙ sym (other_counts_none m (made_on made value true) row e)))

-- and the exclusion takes its minute
changed-taken : (m : Measure) (made : List (Exclusion × Bool)) (value : Exclusion) (row : Row) →
    Differs m made value row → excludes m.slo row.minute (value, true) ≡ true
changed-taken m made value row differ = by (excludes m.slo row.minute (value, true)) refl
  where
    by : (b : Bool) → excludes m.slo row.minute (value, true) ≡ b →
        excludes m.slo row.minute (value, true) ≡ true
    by true e = e
    by false e = absurd (differ (same_on m made value true row e))

le_is : (a b : ℕ) → nat_le a b ≡ true → a ≤ b
le_is a b h = grind (arith, nat_tests, h)

lt_is : (a b : ℕ) → nat_lt a b ≡ true → a < b
lt_is a b h = grind (arith, nat_tests, h)

-- an exclusion that takes a minute is of the SLO, and the minute lies in its range
pub record Taken (slo : List ℕ) (minute : ℕ) (value : Exclusion) : Type 0 where
  pub own : bytes_eq value.slo slo ≡ true
  pub from : value.from ≤ minute
  pub to : minute < value.to

taken-is : (slo : List ℕ) (minute : ℕ) (value : Exclusion) →
    excludes slo minute (value, true) ≡ true → Taken slo minute value
taken-is slo minute value e =
    let p =
    and_parts (bytes_eq value.slo slo && nat_le value.from minute) (nat_lt minute value.to) e
    in
    let q = and_parts (bytes_eq value.slo slo) (nat_le value.from minute) p.0 in
    record {
      own = q.0;
      from = le_is value.from minute q.1;
      to = lt_is minute value.to p.1;
    }

pub changed-is : (m : Measure) (made : List (Exclusion × Bool)) (value : Exclusion)
    (rows : List Row) (slice : ℕ) → (is : IsChanged m made value rows slice)
    → Taken m.slo is.row.minute value
changed-is m made value rows slice is =
    taken-is m.slo is.row.minute value (changed-taken m made value is.row is.changed)

-- an exclusion of another SLO changes no row
pub none-of_another : (m : Measure) (made : List (Exclusion × Bool)) (value : Exclusion)
    (rows : List Row) (slice : ℕ) → bytes_eq value.slo m.slo ≡ false →
    IsChanged m made value rows slice → ⊥
none-of_another m made value rows slice other is =
    let no : true ≡ false = sym (changed-is m made value rows slice is).own ∙ other in
    cc no

-- nor does one of no minute
pub none-empty : (m : Measure) (made : List (Exclusion × Bool)) (value : Exclusion)
    (rows : List Row) (slice : ℕ) → value.to ≤ value.from → IsChanged m made value rows slice → ⊥
none-empty m made value rows slice empty is =
    let taken = changed-is m made value rows slice is in
    omega (arith, empty, taken.from, taken.to)

-- a row of the indicator on the day is one of the walk
on_day : (sli : List ℕ) (day : ℕ) (row : Row) → is_of sli row ≡ true → day_of row.minute ≡ day →
    is_on sli day row ≡ true
on_day sli day row own e = both (is_of sli row) (nat_eq (day_of row.minute) day) own
    (same (day_of row.minute) day e)
  where
    same : (a b : ℕ) → a ≡ b → nat_eq a b ≡ true
    same a b e = grind (arith, nat_tests, e)

    both : (a b : Bool) → a ≡ true → b ≡ true → (a && b) ≡ true
    both true b e d = d
    both false b e d = cc e

-- a changed row of minutes that all lie on one day is one of the walk over the day
row-on : (m : Measure) (made : List (Exclusion × Bool)) (value : Exclusion) (begin end : ℕ)
    (row : Row) → ((minute : ℕ) → begin ≤ minute → minute < end → day_of minute ≡ day_of begin) →
    IsChangedRow m made value begin end row → is_on m.sli (day_of begin) row ≡ true
row-on m made value begin end row day is =
    on_day m.sli (day_of begin) row (changed-own m made value row is.changed)
    (day row.minute is.from is.to)

-- how many rows stand up to the last place of a test
until_last : (key : Row → Bool) (rows : List Row) (next : Option ℕ) → next ≡ last_place key rows →
    rows_until next ≡ last key rows
until_last key rows next is = ap rows_until is ∙ until_below (last key rows)

-- no row from a place of the book on is a changed one of these minutes
abbrev pub NoneFrom : Measure → List (Exclusion × Bool) → Exclusion → List Row → ℕ → ℕ → ℕ → Type 0
NoneFrom m made value rows begin end at =
    (place : ℕ) (row : Row) → at ≤ place → slice_get rows place ≡ Some row →
    IsChangedRow m made value begin end row → ⊥

-- behind the last row of the day there is none
pub none-behind : (m : Measure) (made : List (Exclusion × Bool)) (value : Exclusion)
    (rows : List Row) (begin end : ℕ) (next : Option ℕ) →
    ((minute : ℕ) → begin ≤ minute → minute < end → day_of minute ≡ day_of begin) →
    next ≡ last_place (is_on m.sli (day_of begin)) rows →
    NoneFrom m made value rows begin end (rows_until next)
none-behind m made value rows begin end next day last_is place row from here is =
    let key = is_on m.sli (day_of begin) in
    let behind = subst (λ n. n ≤ place) (until_last key rows next last_is) from in
    let no : true ≡ false = sym (row-on m made value begin end row day is)
    ∙ last-behind key rows place row behind here in
    cc no

-- one place is behind another, at it or before it
order : (k n : ℕ) → (n < k) ⊎ ((k ≡ n) ⊎ (k < n))
order k n = by (leb_tells (suc n) k) (leb_tells (suc k) n)
  where
    by : ((nat_le (suc n) k ≡ true) × (suc n ≤ k)) ⊎ ((nat_le (suc n) k ≡ false) × (k < suc n)) →
        ((nat_le (suc k) n ≡ true) × (suc k ≤ n)) ⊎ ((nat_le (suc k) n ≡ false) × (n < suc k)) →
        (n < k) ⊎ ((k ≡ n) ⊎ (k < n))
    by (inl a) b = inl a.1
    by (inr a) (inl b) = inr (inr b.1)
    by (inr a) (inr b) = inr (inl (omega (arith, a.1, b.1)))

-- from a place of the day to the one before it only the row at the place comes to those behind
pub none-more : (m : Measure) (made : List (Exclusion × Bool)) (value : Exclusion)
    (rows : List Row) (begin end at : ℕ) (row : Row) (next : Option ℕ) →
    ((minute : ℕ) → begin ≤ minute → minute < end → day_of minute ≡ day_of begin) →
    slice_get rows at ≡ Some row → next ≡ last_place (is_on m.sli (day_of begin)) (take at rows) →
    (IsChangedRow m made value begin end row → ⊥) →
    NoneFrom m made value rows begin end (suc at) →
    NoneFrom m made value rows begin end (rows_until next)
none-more m made value rows begin end at row next day there last_is free none place other from here
    is = tell (order place at)
  where
    key : Row → Bool
    key = is_on m.sli (day_of begin)

    tell : (at < place) ⊎ ((place ≡ at) ⊎ (place < at)) → ⊥
    tell (inl more) = none place other more here is
    tell (inr (inl e)) =
        let both : ◌≡◌ {A = Option Row} (Some other) (Some row) =
        sym here ∙ ap (slice_get rows) e ∙ there in
        let same : other ≡ row = cc both in
        free (subst (IsChangedRow m made value begin end) same is)
    tell (inr (inr less)) =
        let behind = subst (λ n. n ≤ place) (until_last key (take at rows) next last_is) from in
        let no : true ≡ false = sym (row-on m made value begin end other day is)
        ∙ last-behind key (take at rows) place other behind (get_taken rows at place less ∙ here) in
        cc no

-- the walk comes to a row of the day, or to none
pub on-key : (key : Row → Bool) (rows : List Row) (at : ℕ) (next : Option ℕ) → at ≤ length rows →
    next ≡ last_place key (take at rows) → IsOnKey key rows next
on-key key rows at next within is =
    subst (IsOnKey key rows) (sym is) (place (last key (take at rows)) refl)
  where
    short : (n : ℕ) (xs : List Row) → length (take n xs) ≤ n
    short zero xs = omega arith
    short (suc n) [] = omega arith
    short (suc n) (x ∷ xs) = omega (arith, short n xs)

    most : last key (take at rows) ≤ at
    most = omega (arith, last-within key (take at rows), short at rows)

    place : (n : ℕ) → last key (take at rows) ≡ n → IsOnKey key rows (below n)
    place zero e = tt
    place (suc n) e = (
      omega (arith, most, e, within),
      λ row there. last-passes key (take at rows) n row e
          (get_taken rows at n (omega (arith, most, e)) ∙ there),
    )

-- it begins so
pub on-key_of_all : (key : Row → Bool) (rows : List Row) (next : Option ℕ) →
    next ≡ last_place key rows → IsOnKey key rows next
on-key_of_all key rows next is =
    on-key key rows (length rows) next (omega arith)
    (is ∙ ap (last_place key) (sym (take_all rows (length rows) refl)))
