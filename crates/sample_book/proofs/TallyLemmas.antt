-- A pass over the rows, one place after another.
use Rattle.std.proofs.Common.{◌⊎◌, inl, inr, None, get_or, subst, ◌≡◌, ◌≤◌, ◌<◌, ◌*◌, ◌^◌, ◌/◌}
use Rattle.std.proofs.Common.{◌&&◌, nat_eq, refl, length, ℕ, zero, suc, ◌+◌, List, [], ◌∷◌, ◌++◌}
use Rattle.std.proofs.Common.{Bool, true, false, cond, ap, sym, ◌∙◌, filter, take, drop, slice_get}
use Rattle.std.proofs.Common.{Some, add-one, arith, ◌==◌, if◌then◌else◌}
use Rattle.std.specs.List.{All, AllByRecursion, find}
use Rattle.std.proofs.lemmas.List.Elements.{All-get_or}
use Rattle.std.proofs.lemmas.Option.{slice_get_cases}
use Rattle.std.proofs.lemmas.List.{take-take}
use Rattle.std.proofs.lemmas.List.Elements.{filter-append}
use Rattle.std.proofs.lemmas.List.Sums.{sum_by-append, sum_by-cons}
use Rattle.exact_fraction.specs.declared.Op.{Op}
use Rattle.slice_method.specs.declared.Counts.{Counts}
use Rattle.slice_method.specs.declared.Reading.{Reading}
use Rattle.slice_method.specs.Readings.{IsSmall, counts}
use Rattle.slice_method.specs.declared.Amount.{Amount}
use Rattle.slice_method.specs.declared.Amount.TheVariants as amounts
use Rattle.slice_method.specs.declared.Reading.TheVariants.{Good, Bad, Threshold, RawSuccess}
use Rattle.slice_method.specs.declared.Reading.TheVariants.{RawFailure}
use Rattle.slo_terms.specs.Sums.{amount_at}
use Rattle.std.proofs.lemmas.Bool.{and_parts, eqb-true}
use Rattle.std.proofs.lemmas.Slice.Eq.{bytes_eq-Decides}
use Rattle.sample_book.specs.LastRows.{is_on}
use Rattle.cell_index.specs.Chains.{last, later}
use Rattle.cell_index.proofs.ChainLemmas.{last-push, last-take, last-within, length-few}
use Rattle.cell_index.proofs.ListLemmas.{eq-itself}
use Rattle.cell_index.proofs.ListLemmas.{take_at}
use Rattle.sample_book.specs.declared.row.Row.{Row}
use Rattle.sample_book.specs.declared.row.RowVerdict.{RowVerdict}
use Rattle.sample_book.specs.Puts.{IsPutInto, behind, in_place, replaced_rows}
use Rattle.sample_book.specs.Counting.{IsSmallRow, is_of, counts_of_minute}

drop_at : {A : Type 0} (xs : List A) (n : ℕ) (x : A) → slice_get xs n ≡ Some x
    → drop n xs ≡ x ∷ drop (suc n) xs
drop_at [] n x e = cc e
drop_at (y ∷ ys) zero x e = let same : y ≡ x = cc e in ap (λ z. z ∷ ys) same
drop_at (y ∷ ys) (suc n) x e = drop_at ys n x e

pub found_at : {A : Type 0} (p : A → Bool) (xs : List A) (n : ℕ) (x : A) → slice_get xs n ≡ Some x
    → p x ≡ true → find p (drop n xs) ≡ Some x
found_at p xs n x e h = ap (find p) (drop_at xs n x e)
    ∙ ap (λ (b : Bool). cond b (Some x) (find p (drop (suc n) xs))) h

pub passed_at : {A : Type 0} (p : A → Bool) (xs : List A) (n : ℕ) (x : A) → slice_get xs n ≡ Some x
    → p x ≡ false → find p (drop (n + 1) xs) ≡ find p (drop n xs)
passed_at p xs n x e h =
    ap (λ k. find p (drop k xs)) (add-one n)
    ∙ sym (ap (find p) (drop_at xs n x e)
    ∙ ap (λ (b : Bool). cond b (Some x) (find p (drop (suc n) xs))) h)

abbrev own_in : (Row → ℕ) → ℕ → List Row → ℕ
own_in f minute rows = amount_at (λ row. row.minute) f rows minute

abbrev own : (Row → ℕ) → List ℕ → ℕ → List Row → ℕ
own f sli minute rows = own_in f minute (filter (is_of sli) rows)

own-append : (f : Row → ℕ) (sli : List ℕ) (minute : ℕ) (xs ys : List Row)
    → own f sli minute (xs ++ ys) ≡ own f sli minute xs + own f sli minute ys
own-append f sli minute xs ys =
    ap (λ own. amount_at (λ row. row.minute) f own minute) (filter-append (is_of sli) xs ys)
    ∙ sum_by-append (λ row. if row.minute == minute then f row else 0) (filter (is_of sli) xs)
    (filter (is_of sli) ys)

-- a row that is put adds what it counts for, and takes away what the row counted for whose
-- place it takes
pub amount-put : (f : Row → ℕ) (sli : List ℕ) (minute : ℕ) (rows after : List Row) (row : Row)
    (verdict : RowVerdict) → IsPutInto rows row verdict after →
    own f sli minute after + own f sli minute (replaced_rows verdict)
    ≡ own f sli minute rows + own f sli minute (row ∷ [])
amount-put f sli minute _ _ _ _ (behind rows row) =
    omega (arith, own-append f sli minute rows (row ∷ []))
amount-put f sli minute _ _ _ _ (in_place before after kept row same) =
    omega (
      arith,
      own-append f sli minute before (kept ∷ after),
      own-append f sli minute (kept ∷ []) after,
      own-append f sli minute before (row ∷ after),
      own-append f sli minute (row ∷ []) after,
    )

day_apart : (m n : ℕ) → nat_eq (m / 1440) (n / 1440) ≡ false → (m == n) ≡ false
day_apart m n h = by (m == n) refl
  where
    by : (b : Bool) → (m == n) ≡ b → b ≡ false
    by false e = refl
    by true e = let same : m ≡ n = eqb-true m n e in
        cc (sym (ap (λ k. nat_eq (m / 1440) (k / 1440)) same) ∙ eq-itself (m / 1440), h)

-- a row of another indicator or day counts for nothing at the minute
own-none : (f : Row → ℕ) (sli : List ℕ) (minute : ℕ) (row : Row)
    → is_on sli (minute / 1440) row ≡ false → own f sli minute (row ∷ []) ≡ 0
own-none f sli minute row h = by (is_of sli row) h
  where
    at : (c : Bool) → (row.minute == minute) ≡ c → c ≡ false → own_in f minute (row ∷ []) ≡ 0
    at true e g = cc g
    at false e g =
        omega (
          arith,
          sum_by-cons (λ (row : Row). if row.minute == minute then f row else 0) row [],
          ap (λ (b : Bool). if b then f row else 0) e,
        )

    by : (b : Bool) → (b && nat_eq (row.minute / 1440) (minute / 1440)) ≡ false
        → own_in f minute (cond b (row ∷ []) []) ≡ 0
    by false h = refl
    by true h = at (row.minute == minute) refl (day_apart row.minute minute h)

-- the rows behind the last one of the day count for nothing at the minute
own-last : (f : Row → ℕ) (sli : List ℕ) (minute : ℕ) (rows : List Row)
    → own f sli minute rows ≡ own f sli minute (take (last (is_on sli (minute / 1440)) rows) rows)
own-last f sli minute [] = refl
own-last f sli minute (row ∷ rows) = by (last p rows) (p row) refl refl (own-last f sli minute rows)
  where
    p : Row → Bool
    p = is_on sli (minute / 1440)

    by : (n : ℕ) (b : Bool) → last p rows ≡ n → p row ≡ b →
        own f sli minute rows ≡ own f sli minute (take n rows) →
        own f sli minute (row ∷ rows) ≡ own f sli minute (take (later n b) (row ∷ rows))
    by zero true l e rest = omega (arith, own-append f sli minute (row ∷ []) rows, rest)
    by zero false l e rest = omega (
      arith,
      own-append f sli minute (row ∷ []) rows,
      rest,
      own-none f sli minute row e,
    )
    by (suc n) b l e rest = own-append f sli minute (row ∷ []) rows
        ∙ ap (λ k. own f sli minute (row ∷ []) + k) rest
        ∙ sym (own-append f sli minute (row ∷ []) (take (suc n) rows))

-- The sums over the rows of the day that were passed: what is left is what the rows before the next
-- one come to.
pub record IsCounting (reading : Reading) (op : Op) (value : ℕ) (rows : List Row) (sli : List ℕ)
    (minute next : ℕ) (sum : Counts) : Type 0 where
  pub is : next ≡ last (is_on sli (minute / 1440)) (take next rows)
  pub within : next ≤ length rows
  pub good : (counts_of_minute reading op value rows sli minute).good
      ≡ sum.good + (counts_of_minute reading op value (take next rows) sli minute).good
  pub total : (counts_of_minute reading op value rows sli minute).total
      ≡ sum.total + (counts_of_minute reading op value (take next rows) sli minute).total
  pub part : sum.good ≤ sum.total
  pub few : sum.total + next * 2 ^ 32 ≤ length rows * 2 ^ 32

abbrev good_of : Reading → Op → ℕ → Row → ℕ
good_of reading op value row = (counts reading op value row.amount).good

abbrev total_of : Reading → Op → ℕ → Row → ℕ
total_of reading op value row = (counts reading op value row.amount).total

pub counting_from : (reading : Reading) (op : Op) (value : ℕ) (rows : List Row) (sli : List ℕ)
    (minute next : ℕ) → next ≡ last (is_on sli (minute / 1440)) rows →
    IsCounting reading op value rows sli minute next (record { good = 0; total = 0 })
counting_from reading op value rows sli minute next e =
    let p = is_on sli (minute / 1440) in
    let within : next ≤ length rows = omega (arith, e, last-within p rows) in
    record {
      is = e ∙ sym (last-take p rows next (omega (arith, e)));
      within = within;
      good = own-last (good_of reading op value) sli minute rows
          ∙ ap (λ n. own (good_of reading op value) sli minute (take n rows)) (sym e) ∙ omega arith;
      total = own-last (total_of reading op value) sli minute rows
          ∙ ap (λ n. own (total_of reading op value) sli minute (take n rows)) (sym e)
          ∙ omega arith;
      part = omega arith;
      few = omega (arith, within);
    }

-- the row at the last place of the day is of the day
of_day : (p : Row → Bool) (rows : List Row) (place : ℕ) (row : Row)
    → slice_get rows place ≡ Some row → suc place ≡ last p (take (suc place) rows) → p row ≡ true
of_day p rows place row here is = by (p row) refl
  where
    by : (b : Bool) → p row ≡ b → b ≡ true
    by true e = refl
    by false e =
        let before : last p (take (suc place) rows) ≡ last p (take place rows) =
        ap (last p) (take_at rows place row here) ∙ last-push p (take place rows) row ∙ ap
        (λ (b : Bool). cond b (suc (length (take place rows))) (last p (take place rows))) e in
        absurd (omega (arith, is, before, last-within p (take place rows), length-few place rows))

-- what is counted of one more row
own-step : (f : Row → ℕ) (sli : List ℕ) (minute : ℕ) (rows : List Row) (place next : ℕ)
    (row : Row) → slice_get rows place ≡ Some row →
    next ≡ last (is_on sli (minute / 1440)) (take place rows) → next ≤ place →
    own f sli minute (take (suc place) rows)
    ≡ own f sli minute (row ∷ []) + own f sli minute (take next rows)
own-step f sli minute rows place next row here e le =
    let before = own-last f sli minute (take place rows)
    ∙ ap (λ n. own f sli minute (take n (take place rows))) (sym e)
    ∙ ap (own f sli minute) (take-take next place rows le) in
    ap (own f sli minute) (take_at rows place row here)
    ∙ own-append f sli minute (take place rows) (row ∷ []) ∙ omega (arith, before)

pub counting_on : (reading : Reading) (op : Op) (value : ℕ) (rows : List Row) (sli : List ℕ)
    (minute place next : ℕ) (row : Row) (sum share : Counts) →
    slice_get rows place ≡ Some row →
    share ≡ counts_of_minute reading op value (row ∷ []) sli minute → share.good ≤ share.total →
    share.total < 2 ^ 32 →
    next ≡ last (is_on row.sli (row.minute / 1440)) (take place rows) →
    IsCounting reading op value rows sli minute (suc place) sum →
    IsCounting reading op value rows sli minute next
    (record { good = sum.good + share.good; total = sum.total + share.total })
counting_on reading op value rows sli minute place next row sum share here is part few e so =
    let p = is_on sli (minute / 1440) in
    let parts = and_parts (is_of sli row) (nat_eq (row.minute / 1440) (minute / 1440))
    (of_day p rows place row here so.is) in
    let of_sli : row.sli ≡ sli = (bytes_eq-Decides row.sli sli).0 parts.0 in
    let of_minute : row.minute / 1440 ≡ minute / 1440 =
    eqb-true (row.minute / 1440) (minute / 1440) parts.1 in
    let on : next ≡ last p (take place rows) = e
    ∙ (λ i. last (is_on (of_sli i) (of_minute i)) (take place rows)) in
    let le : next ≤ place = omega (
      arith,
      on,
      last-within p (take place rows),
      length-few place rows,
    ) in
    let good = own-step (good_of reading op value) sli minute rows place next row here on le in
    let total = own-step (total_of reading op value) sli minute rows place next row here on le in
    record {
      is = on ∙ sym (last-take p (take place rows) next (omega (arith, on)))
          ∙ ap (last p) (take-take next place rows le);
      within = omega (arith, le, so.within);
      good = so.good ∙ omega (arith, good, ap (λ (c : Counts). c.good) is);
      total = so.total ∙ omega (arith, total, ap (λ (c : Counts). c.total) is);
      part = omega (arith, part, so.part);
      few = omega (arith, few, le, so.few);
    }

pub counting_done : (reading : Reading) (op : Op) (value : ℕ) (rows : List Row) (sli : List ℕ)
    (minute : ℕ) (sum : Counts) → IsCounting reading op value rows sli minute 0 sum →
    sum ≡ counts_of_minute reading op value rows sli minute
counting_done reading op value rows sli minute sum so =
    let good : sum.good ≡ own (good_of reading op value) sli minute rows = omega (arith, so.good) in
    let total : sum.total ≡ own (total_of reading op value) sli minute rows =
    omega (arith, so.total) in
    (λ i. record { good = good i; total = total i })

total_small : (reading : Reading) (op : Op) (value : ℕ) (amount : Amount) → IsSmall amount
    → (counts reading op value amount).total ≤ 10 ^ 9
total_small Good op value (amounts.Counts part total) h = h
total_small Bad op value (amounts.Counts part total) h = h
total_small Threshold op value (amounts.Counts part total) h = omega arith
total_small RawSuccess op value (amounts.Counts part total) h = omega arith
total_small RawFailure op value (amounts.Counts part total) h = omega arith
total_small Good op value (amounts.Value measured) h = omega arith
total_small Bad op value (amounts.Value measured) h = omega arith
total_small Threshold op value (amounts.Value measured) h = omega arith
total_small RawSuccess op value (amounts.Value measured) h = omega arith
total_small RawFailure op value (amounts.Value measured) h = omega arith
total_small _ op value amounts.Withdrawn h = omega arith

row_small : (reading : Reading) (op : Op) (value : ℕ) (sli : List ℕ) (minute : ℕ) (row : Row)
    → IsSmallRow row → own (total_of reading op value) sli minute (row ∷ []) ≤ 10 ^ 9
row_small reading op value sli minute row h = by (is_of sli row)
  where
    one : (b : Bool) → (if b then total_of reading op value row else 0) ≤ 10 ^ 9
    one true = total_small reading op value row.amount h
    one false = omega arith

    by : (b : Bool) → own_in (total_of reading op value) minute (cond b (row ∷ []) []) ≤ 10 ^ 9
    by true = omega (
      arith,
      sum_by-cons (λ (row : Row). if row.minute == minute
          then total_of reading op value row else 0) row [],
      one (row.minute == minute),
    )
    by false = omega arith

-- rows within their limit count for at most 10^9 events each
pub counts_small : (reading : Reading) (op : Op) (value : ℕ) (rows : List Row) (sli : List ℕ)
    (minute : ℕ) → AllByRecursion IsSmallRow rows →
    (counts_of_minute reading op value rows sli minute).total ≤ 10 ^ 9 * length rows
counts_small reading op value [] sli minute h = omega arith
counts_small reading op value (row ∷ rows) sli minute h =
    omega (
      arith,
      own-append (total_of reading op value) sli minute (row ∷ []) rows,
      row_small reading op value sli minute row h.0,
      counts_small reading op value rows sli minute h.1,
    )

-- what holds of all holds of the one at a place
pub all_at : {A : Type 0} (P : A → Type 0) (xs : List A) (n : ℕ) (x : A) → All P xs
    → slice_get xs n ≡ Some x → P x
all_at P xs n x all here = by (slice_get_cases xs n).1
  where
    by : ((y : _) × (n < length xs) × (slice_get xs n ≡ Some y) × (get_or xs n y ≡ y))
        ⊎ ((length xs ≤ n) × (slice_get xs n ≡ None)) → P x
    by (inl (y, lt, e, g)) = let same : y ≡ x = cc (sym e ∙ here) in
        subst P (g ∙ same) (All-get_or P xs n y lt all)
    by (inr (le, none)) = cc (sym none ∙ here)
