-- What the index of the rows' cells tells of the rows.
use Rattle.std.proofs.Common.{◌≡◌, ◌∙◌, ◌/◌, ◌==◌, ◌||◌, ℕ, zero, suc, Bool, true, false, cond}
use Rattle.std.proofs.Common.{refl, ap, sym}
use Rattle.std.proofs.Common.{arith, List, [], ◌∷◌, map, filter, take, slice_get, Option, Some}
use Rattle.std.proofs.Common.{None}
use Rattle.std.specs.List.{find, list_any, position}
use Rattle.std.specs.Option.{option_map}
use Rattle.slo_terms.specs.Rows.{first_of_each}
use Rattle.cell_index.specs.Cells.{days_with_cells, is_cell_of, is_cell_on}
use Rattle.cell_index.specs.Chains.{last}
use Rattle.cell_index.specs.declared.Cell.{Cell}
use Rattle.cell_index.proofs.ChainLemmas.{last-map}
use Rattle.cell_index.proofs.ListLemmas.{map-take}
use Rattle.name_numbers.proofs.FirstPlaces.{first, none-first, position-first}
use Rattle.sample_book.specs.Counting.{days_with_rows, is_of}
use Rattle.sample_book.specs.LastRows.{is_on}
use Rattle.sample_book.specs.Rows.{cell_of}
use Rattle.sample_book.specs.declared.row.Row.{Row}

pub last-of : (sli : List ℕ) (rows : List Row)
    → last (is_cell_of sli) (map cell_of rows) ≡ last (is_of sli) rows
last-of sli rows = last-map cell_of (is_cell_of sli) (is_of sli) (λ row. refl) rows

pub last-on : (sli : List ℕ) (day : ℕ) (rows : List Row)
    → last (is_cell_on sli day) (map cell_of rows) ≡ last (is_on sli day) rows
last-on sli day rows = last-map cell_of (is_cell_on sli day) (is_on sli day) (λ row. refl) rows

pub before-of : (sli : List ℕ) (place : ℕ) (rows : List Row)
    → last (is_cell_of sli) (take place (map cell_of rows)) ≡ last (is_of sli) (take place rows)
before-of sli place rows =
    ap (last (is_cell_of sli)) (sym (map-take cell_of place rows)) ∙ last-of sli (take place rows)

pub before-on : (sli : List ℕ) (day place : ℕ) (rows : List Row) →
    last (is_cell_on sli day) (take place (map cell_of rows))
    ≡ last (is_on sli day) (take place rows)
before-on sli day place rows =
    ap (last (is_cell_on sli day)) (sym (map-take cell_of place rows))
    ∙ last-on sli day (take place rows)

abbrev same_day : ℕ → ℕ → Bool
same_day a b = a == b

-- the days of the cells are those of the rows
pub days-of : (sli : List ℕ) (rows : List Row)
    → days_with_cells (map cell_of rows) sli ≡ days_with_rows rows sli
days-of sli rows = ap (first_of_each same_day) (own rows)
  where
    own : (rows : List Row)
        → map (λ (cell : Cell). cell.minute / 1440) (filter (is_cell_of sli) (map cell_of rows))
        ≡ map (λ (row : Row). row.minute / 1440) (filter (is_of sli) rows)
    own [] = refl
    own (row ∷ rows) = by (is_of sli row) (own rows)
      where
        by : (b : Bool) → map (λ (cell : Cell). cell.minute / 1440) (filter (is_cell_of sli)
            (map cell_of rows)) ≡ map (λ (row : Row). row.minute / 1440) (filter (is_of sli) rows) →
            map (λ (cell : Cell). cell.minute / 1440)
            (cond b (cell_of row ∷ filter (is_cell_of sli) (map cell_of rows))
            (filter (is_cell_of sli) (map cell_of rows)))
            ≡ map (λ (row : Row). row.minute / 1440)
            (cond b (row ∷ filter (is_of sli) rows) (filter (is_of sli) rows))
        by true rest = ap (λ days. row.minute / 1440 ∷ days) rest
        by false rest = rest

-- the first cell of an indicator is that of its first row
pub first-of : (sli : List ℕ) (rows : List Row)
    → position (is_cell_of sli) (map cell_of rows) ≡ position (is_of sli) rows
first-of sli rows =
    position-first (is_cell_of sli) (map cell_of rows) ∙ same rows
    ∙ sym (position-first (is_of sli) rows)
  where
    same : (rows : List Row) → first (is_cell_of sli) (map cell_of rows) ≡ first (is_of sli) rows
    same [] = refl
    same (row ∷ rows) = ap (λ o. cond (is_of sli row) (Some 0) (option_map suc o)) (same rows)

-- what is found first stands at the first place
find-first : {A : Type 0} (p : A → Bool) (xs : List A) (n : ℕ) → first p xs ≡ Some n
    → slice_get xs n ≡ find p xs
find-first p [] n e = cc e
find-first p (x ∷ xs) n e = by (p x) (first p xs) n e (find-first p xs)
  where
    by : (b : Bool) (o : Option ℕ) (n : ℕ) → cond b (Some 0) (option_map suc o) ≡ Some n
        → ((n : ℕ) → o ≡ Some n → slice_get xs n ≡ find p xs)
        → slice_get (x ∷ xs) n ≡ cond b (Some x) (find p xs)
    by true o zero e go = refl
    by true o (suc n) e go = absurd (zero_suc n (cc e))
      where
        zero_suc : (n : ℕ) → 0 ≡ suc n → ⊥
        zero_suc n e = omega (arith, e)
    by false None n e go = cc e
    by false (Some m) zero e go = absurd (suc_zero m (cc e))
      where
        suc_zero : (m : ℕ) → suc m ≡ 0 → ⊥
        suc_zero m e = omega (arith, e)
    by false (Some m) (suc n) e go = go n (ap Some (same m n (cc e)))
      where
        same : (m n : ℕ) → suc m ≡ suc n → m ≡ n
        same m n e = omega (arith, e)

find-none : {A : Type 0} (p : A → Bool) (xs : List A) → list_any p xs ≡ false → find p xs ≡ None
find-none p [] h = refl
find-none p (x ∷ xs) h = by (p x) h (find-none p xs)
  where
    by : (b : Bool) → (b || list_any p xs) ≡ false → (list_any p xs ≡ false → find p xs ≡ None)
        → cond b (Some x) (find p xs) ≡ None
    by true h go = cc h
    by false h go = go h

pub find-position : {A : Type 0} (p : A → Bool) (xs : List A) (n : ℕ) → Some n ≡ position p xs
    → slice_get xs n ≡ find p xs
find-position p xs n e = find-first p xs n (sym (e ∙ position-first p xs))

pub none-position : {A : Type 0} (p : A → Bool) (xs : List A) → None ≡ position p xs
    → find p xs ≡ None
none-position p xs e = find-none p xs (none-first p xs (sym (e ∙ position-first p xs)))
