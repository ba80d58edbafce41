-- Rows of some minutes count by one, the others by another.
use Rattle.std.proofs.Common.{◌≢◌, ◌≡◌, ◌⊎◌, inl, inr, ℕ, ◌≤◌, ◌&&◌, ◌||◌, not}
use Rattle.std.proofs.Common.{nat_eq, nat_le, nat_lt, Bool, true, false, refl, ap, sym, ◌∙◌}
use Rattle.std.proofs.Common.{arith, List, [], ◌∷◌, ◌++◌, if◌then◌else◌}
use Rattle.std.specs.List.{list_any}
use Rattle.std.specs.Str.{bytes_eq}
use Rattle.std.proofs.lemmas.Bool.Decides.{nat_tests}
use Rattle.slice_method.specs.declared.Counts.{Counts}
use Rattle.slice_method.specs.Readings.{counts}
use Rattle.sample_book.specs.declared.Exclusion.{Exclusion}
use Rattle.sample_book.specs.declared.Row.{Row}
use Rattle.sample_book.specs.LastRows.{is_on}
use Rattle.sample_book.specs.Counting.{is_of}
use Rattle.sample_book.specs.Exclusions.{excludes, is_excluded}
use Rattle.window_sums.specs.Shares.{IsSmall}
use Rattle.window_sums.specs.Slices.{day_of, no_counts}
use Rattle.office_history.specs.declared.Measure.{Measure}
use Rattle.kept_sums.specs.Sums.{row_counts, shares_by}
use Rattle.kept_sums.specs.Walks.{is_within, made_on, up_to}
use Rattle.kept_sums.proofs.RowLemmas.{AreSmallBy, shares_same}

any_more : {A : Type 0} (p : A → Bool) (xs : List A) (x : A)
    → list_any p (xs ++ x ∷ []) ≡ (p x || list_any p xs)
any_more p [] x = refl
any_more p (y ∷ ys) x = by (p y) (p x) (any_more p ys x)
  where
    by : (a b : Bool) → list_any p (ys ++ x ∷ []) ≡ (b || list_any p ys)
        → (a || list_any p (ys ++ x ∷ [])) ≡ (b || (a || list_any p ys))
    by true true e = refl
    by true false e = refl
    by false b e = e

-- with an exclusion more, a row counts for nothing where it takes its minute, else for what it did
pub counts_more : (m : Measure) (made : List (Exclusion × Bool)) (value : Exclusion) (row : Row) →
    row_counts m (made ++ (value, true) ∷ []) row
    ≡ (if excludes m.slo row.minute (value, true) then no_counts else row_counts m made row)
counts_more m made value row =
    rw (any_more (excludes m.slo row.minute) made (value, true)) (by (is_of m.sli row)
    (excludes m.slo row.minute (value, true)) (is_excluded made m.slo row.minute))
  where
    by : (a b d : Bool) → (if a && not (b || d) then counts m.reading m.op m.value row.amount
        else no_counts)
        ≡ (if b then no_counts else if a && not d then counts m.reading m.op m.value row.amount
        else no_counts)
    by true true d = refl
    by false true d = refl
    by true false d = refl
    by false false d = refl

-- rows of which some count by one, the others by the other, are small
pub small_within : (sli : List ℕ) (first end : ℕ) (f g : Row → Counts) (rows : List Row)
    → AreSmallBy f rows → AreSmallBy g rows → AreSmallBy (up_to sli first end f g) rows
small_within sli first end f g [] a b = tt
small_within sli first end f g (row ∷ rows) a b = (
  by (is_within sli first end row),
  small_within sli first end f g rows a.1 b.1,
)
  where
    by : (t : Bool) → IsSmall (record { minute = row.minute; counts = if t then g row else f row })
    by true = b.0
    by false = a.0

-- a row of the day is of the indicator
own_part : (a b : Bool) → (a && b) ≡ true → a ≡ true
own_part true b e = refl
own_part false b e = cc e

pub day_own : (sli : List ℕ) (day : ℕ) (row : Row) → is_on sli day row ≡ true → is_of sli row ≡ true
day_own sli day row = own_part (is_of sli row) (nat_eq (day_of row.minute) day)

day_part : (a b : Bool) → (a && b) ≡ true → b ≡ true
day_part true b e = e
day_part false b e = cc e

pub day_is : (sli : List ℕ) (day : ℕ) (row : Row) → is_on sli day row ≡ true
    → day_of row.minute ≡ day
day_is sli day row h =
    same (day_of row.minute) day (day_part (is_of sli row) (nat_eq (day_of row.minute) day) h)
  where
    same : (a b : ℕ) → nat_eq a b ≡ true → a ≡ b
    same a b h = grind (arith, nat_tests, h)

-- a row whose minute the exclusion doesn't take counts the same with it and without it
pub same_on : (m : Measure) (made : List (Exclusion × Bool)) (value : Exclusion) (taken : Bool)
    (row : Row) → excludes m.slo row.minute (value, true) ≡ false →
    row_counts m (made_on made value (not taken)) row ≡ row_counts m (made_on made value taken) row
same_on m made value true row free = sym (counts_more m made value row
    ∙ ap (λ (t : Bool). if t then no_counts else row_counts m made row) free)
same_on m made value false row free = counts_more m made value row
    ∙ ap (λ (t : Bool). if t then no_counts else row_counts m made row) free

-- a row of another indicator counts for nothing
pub other_counts_none : (m : Measure) (made : List (Exclusion × Bool)) (row : Row)
    → is_of m.sli row ≡ false → row_counts m made row ≡ no_counts
other_counts_none m made row other = rw other refl

none_of_three : (a b d : Bool) → (a ≡ false) ⊎ ((b && d) ≡ false) → (a && b && d) ≡ false
none_of_three true true true (inl h) = cc h
none_of_three true true true (inr h) = cc h
none_of_three true true false h = refl
none_of_three true false d h = refl
none_of_three false b d h = refl

-- an exclusion doesn't take a minute outside its range
pub outside_free : (slo : List ℕ) (minute : ℕ) (value : Exclusion)
    → (nat_le value.from minute && nat_lt minute value.to) ≡ false
    → excludes slo minute (value, true) ≡ false
outside_free slo minute value outside = none_of_three (bytes_eq value.slo slo)
    (nat_le value.from minute) (nat_lt minute value.to) (inr outside)

-- an exclusion of another SLO, or of no minute, takes nothing
pub none_taken : (m : Measure) (made : List (Exclusion × Bool)) (value : Exclusion) (taken : Bool)
    (rows : List Row) → (bytes_eq value.slo m.slo ≡ false) ⊎ (value.to ≤ value.from) →
    shares_by (row_counts m (made_on made value (not taken))) rows
    ≡ shares_by (row_counts m (made_on made value taken)) rows
none_taken m made value taken rows none =
    shares_same (row_counts m (made_on made value (not taken)))
    (row_counts m (made_on made value taken))
    (λ row. same_on m made value taken row (free row none)) rows
  where
    empty : (from minute to : ℕ) → to ≤ from → (nat_le from minute && nat_lt minute to) ≡ false
    empty from minute to le = grind (arith, nat_tests, le)

    free : (row : Row) → (bytes_eq value.slo m.slo ≡ false) ⊎ (value.to ≤ value.from)
        → excludes m.slo row.minute (value, true) ≡ false
    free row (inl other) = none_of_three (bytes_eq value.slo m.slo) (nat_le value.from row.minute)
        (nat_lt row.minute value.to) (inl other)
    free row (inr less) =
        outside_free m.slo row.minute value (empty value.from row.minute value.to less)

-- a row that counts otherwise from one side to the other does so with the exclusion and without it
pub changed_on : (m : Measure) (made : List (Exclusion × Bool)) (value : Exclusion)
    (taken : Bool) (row : Row) →
    row_counts m (made_on made value (not taken)) row
    ≢ row_counts m (made_on made value taken) row →
    row_counts m (made_on made value false) row ≢ row_counts m (made_on made value true) row
changed_on m made value true row differ = differ
changed_on m made value false row differ = λ same. differ (sym same)
