-- What rows count for is small, and the shares of rows.
use Rattle.std.proofs.Common.{◌≡◌, ◌∙◌, ℕ, suc, ◌&&◌, Bool, true, false, cond, not, refl, ap, arith}
use Rattle.std.proofs.Common.{List, [], ◌∷◌, ◌++◌, length, if◌then◌else◌}
use Rattle.std.specs.List.{AllByRecursion}
use Rattle.std.specs.Ordering.{nat_cmp}
use Rattle.std.proofs.lemmas.List.{length-map, map-append}
use Rattle.exact_fraction.specs.declared.Op.{Op}
use Rattle.exact_fraction.specs.Op.{holds_of}
use Rattle.slice_method.specs.declared.Counts.{Counts}
use Rattle.slice_method.specs.declared.Amount.{Amount}
use Rattle.slice_method.specs.declared.Amount.TheVariants as amounts
use Rattle.slice_method.specs.declared.Reading.{Reading}
use Rattle.slice_method.specs.declared.Reading.TheVariants.{Good, Bad, Threshold, RawSuccess}
use Rattle.slice_method.specs.declared.Reading.TheVariants.{RawFailure}
use Rattle.slice_method.specs.Readings.{HasForm, counts}
use Rattle.slice_method.specs.Readings as readings
use Rattle.sample_book.specs.declared.Exclusion.{Exclusion}
use Rattle.sample_book.specs.declared.Row.{Row}
use Rattle.sample_book.specs.Counting.{is_of}
use Rattle.sample_book.specs.Exclusions.{is_excluded}
use Rattle.window_sums.specs.Shares.{IsSmall, Share}
use Rattle.window_sums.specs.Slices.{no_counts}
use Rattle.office_history.specs.declared.Measure.{Measure}
use Rattle.kept_sums.specs.Sums.{RowFits, row_counts, share_by, shares_by}

small_amount : (reading : Reading) (op : Op) (value : ℕ) (a : Amount) (minute : ℕ) →
    HasForm reading a → readings.IsSmall a →
    IsSmall (record { minute = minute; counts = counts reading op value a })
small_amount Good op value (amounts.Counts part total) minute form few =
    record { part = form; few = few }
small_amount Bad op value (amounts.Counts part total) minute form few =
    record { part = omega arith; few = few }
small_amount Threshold op value (amounts.Value measured) minute form few =
    by (holds_of op (nat_cmp measured value))
  where
    by : (b : Bool) → IsSmall (record {
      minute = minute;
      counts = record { good = cond b 1 0; total = 1 };
    })
    by true = record { part = omega arith; few = omega arith }
    by false = record { part = omega arith; few = omega arith }
small_amount RawSuccess op value (amounts.Value measured) minute form few =
    record { part = form; few = omega arith }
small_amount RawFailure op value (amounts.Value measured) minute form few =
    record { part = omega arith; few = omega arith }
small_amount Good op value (amounts.Value measured) minute form few = absurd form
small_amount Bad op value (amounts.Value measured) minute form few = absurd form
small_amount Threshold op value (amounts.Counts part total) minute form few = absurd form
small_amount RawSuccess op value (amounts.Counts part total) minute form few = absurd form
small_amount RawFailure op value (amounts.Counts part total) minute form few = absurd form
small_amount reading op value amounts.Withdrawn minute form few =
    record { part = omega arith; few = omega arith }

pub small_none : (minute : ℕ) → IsSmall (record { minute = minute; counts = no_counts })
small_none minute = record { part = omega arith; few = omega arith }

-- a row of the indicator counts for nothing where its minute is excluded, and else for its amount
pub counts-excluded : (m : Measure) (made : List (Exclusion × Bool)) (row : Row)
    → is_excluded made m.slo row.minute ≡ true → row_counts m made row ≡ no_counts
counts-excluded m made row h =
    (λ i. cond (is_of m.sli row && not (h i)) (counts m.reading m.op m.value row.amount) no_counts)
    ∙ none (is_of m.sli row)
  where
    none : (b : Bool)
        → cond (b && false) (counts m.reading m.op m.value row.amount) no_counts ≡ no_counts
    none true = refl
    none false = refl

pub counts-own : (m : Measure) (made : List (Exclusion × Bool)) (row : Row)
    → is_of m.sli row ≡ true → is_excluded made m.slo row.minute ≡ false
    → row_counts m made row ≡ counts m.reading m.op m.value row.amount
counts-own m made row own h =
    (λ i. cond (own i && not (h i)) (counts m.reading m.op m.value row.amount) no_counts)

-- what a row counts for is small
pub small_row : (m : Measure) (made : List (Exclusion × Bool)) (row : Row) → RowFits m row
    → IsSmall (share_by (row_counts m made) row)
small_row m made row fits = by (is_of m.sli row) (not (is_excluded made m.slo row.minute)) refl
  where
    by : (a b : Bool) → is_of m.sli row ≡ a → IsSmall (record {
      minute = row.minute;
      counts = if a && b then counts m.reading m.op m.value row.amount else no_counts;
    })
    by true true e = let f = fits e in
        small_amount m.reading m.op m.value row.amount row.minute f.0 f.1
    by true false e = small_none row.minute
    by false b e = small_none row.minute

-- each row counts for little, by f
abbrev pub AreSmallBy : (Row → Counts) → List Row → Type 0
AreSmallBy f rows = AllByRecursion (λ row. IsSmall (share_by f row)) rows

pub small_rows : (m : Measure) (made : List (Exclusion × Bool)) (rows : List Row)
    → AllByRecursion (RowFits m) rows → AreSmallBy (row_counts m made) rows
small_rows m made [] h = tt
small_rows m made (row ∷ rows) h = (small_row m made row h.0, small_rows m made rows h.1)

pub small_zeros : (rows : List Row) → AreSmallBy (λ row. no_counts) rows
small_zeros [] = tt
small_zeros (row ∷ rows) = (small_none row.minute, small_zeros rows)

pub small_by : (f : Row → Counts) (rows : List Row) → AreSmallBy f rows
    → AllByRecursion IsSmall (shares_by f rows)
small_by f [] h = tt
small_by f (row ∷ rows) h = (h.0, small_by f rows h.1)

pub shares_around : (f : Row → Counts) (xs : List Row) (x : Row) (ys : List Row)
    → shares_by f (xs ++ x ∷ ys) ≡ shares_by f xs ++ share_by f x ∷ shares_by f ys
shares_around f xs x ys = map-append (share_by f) xs (x ∷ ys)

-- a share for each row
pub length_around : (f g : Row → Counts) (xs : List Row) (x : Row) (s : Share) (ys : List Row)
    → length (shares_by g xs ++ s ∷ shares_by f ys) ≡ length (xs ++ x ∷ ys)
length_around f g [] x s ys = ap suc (length-map ys (share_by f))
length_around f g (z ∷ xs) x s ys = ap suc (length_around f g xs x s ys)

pub shares_same : (f g : Row → Counts) → ((row : Row) → f row ≡ g row) → (rows : List Row)
    → shares_by f rows ≡ shares_by g rows
shares_same f g same [] = refl
shares_same f g same (row ∷ rows) =
    λ i. record { minute = row.minute; counts = same row i } ∷ shares_same f g same rows i
