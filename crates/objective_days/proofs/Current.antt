-- What is found among current rows is found among those that came.
use Rattle.std.proofs.Common.{◌≡◌, ℕ, ◌+◌, ◌-◌, ◌/◌, ◌≤◌, ◌<◌, ◌==◌, ◌&&◌, ◌||◌, List, [], ◌∷◌}
use Rattle.std.proofs.Common.{◌++◌, Bool, true, false, not, cond, if◌then◌else◌, nat_lt, nat_eq}
use Rattle.std.proofs.Common.{refl, ap, sym, subst, ◌∙◌, arith, filter, map, length, take}
use Rattle.std.proofs.Common.{length-append, append_assoc, get_or, zero, suc}
use Rattle.std.specs.Prelude.{is_some}
use Rattle.std.proofs.lemmas.List.{append-nil, take_more}
use Rattle.std.proofs.lemmas.List.Folds.{list_any-append}
use Rattle.std.specs.List.{list_any}
use Rattle.std.specs.Str.{bytes_eq}
use Rattle.std.proofs.lemmas.Bool.{and_parts, eqb-true, or_parts}
use Rattle.std.proofs.lemmas.Bool.Decides.{nat_tests}
use Rattle.std.proofs.lemmas.Slice.Eq.{bytes_eq-Decides}
use Rattle.slo_terms.specs.Rows.{newer}
use Rattle.sample_book.specs.declared.row.Row.{Row}
use Rattle.cell_index.specs.declared.Cell.{Cell}
use Rattle.cell_index.specs.declared.CellIndex.{CellIndex}
use Rattle.cell_index.specs.Cells.{days_with_cells, is_cell_of, is_cell_on}
use Rattle.cell_index.specs.Chains.{IsIndexed, below, last, later}
use Rattle.sample_book.specs.Rows.{cell_of, same_cell, current_rows}
use Rattle.sample_book.specs.LastRows.{is_on, last_place}
use Rattle.sample_book.specs.Counting.{is_of}
use Rattle.slo_terms.proofs.CurrentLemmas.{settle, current-push}
use Rattle.sample_book.proofs.StandingLemmas.{cell_laws, cell_same}
use Rattle.office_history.specs.Batches.{days_of}
use Rattle.objective_days.specs.Days.{BringDays, has_day}
use Rattle.objective_days.proofs.Numbers.{counted-apart}

-- a test of cells
abbrev IsOfCells : (Row → Bool) → Type 0
IsOfCells p = (a b : Row) → same_cell a b ≡ true → p a ≡ p b

any-settled : (p : Row → Bool) → IsOfCells p → (rows : List Row) (x : Row)
    → list_any p (settle same_cell (λ row. row.revision) rows x) ≡ (list_any p rows || p x)
any-settled p same [] x = by (p x)
  where
    by : (b : Bool) → (b || false) ≡ b
    by true = refl
    by false = refl
any-settled p same (k ∷ ks) x = by (same_cell x k) refl (any-settled p same ks x)
  where
    swapped : (a b : Bool) → a ≡ b → (a || list_any p ks) ≡ ((b || list_any p ks) || a)
    swapped true b h = turned (b || list_any p ks)
      where
        turned : (c : Bool) → true ≡ (c || true)
        turned true = refl
        turned false = refl
    swapped false true h = cc h
    swapped false false h = turned (list_any p ks)
      where
        turned : (c : Bool) → c ≡ (c || false)
        turned true = refl
        turned false = refl

    placed : (b : Bool) → p (cond b x k) ≡ p x → p x ≡ p k
        → (p (cond b x k) || list_any p ks) ≡ ((p k || list_any p ks) || p x)
    placed b e f = ap (λ a. a || list_any p ks) e ∙ swapped (p x) (p k) f

    newer_is : (b : Bool) → p x ≡ p k → p (cond b x k) ≡ p x
    newer_is true e = refl
    newer_is false e = sym e

    grouped : (a b c : Bool) → (a || (b || c)) ≡ ((a || b) || c)
    grouped true b c = refl
    grouped false b c = refl

    by : (b : Bool) → same_cell x k ≡ b →
        list_any p (settle same_cell (λ row. row.revision) ks x) ≡ (list_any p ks || p x) →
        list_any p (if b then newer (λ (row : Row). row.revision) k x ∷ ks
        else k ∷ settle same_cell (λ row. row.revision) ks x) ≡ ((p k || list_any p ks) || p x)
    by true h rest = placed (nat_lt k.revision x.revision)
        (newer_is (nat_lt k.revision x.revision) (same x k h)) (same x k h)
    by false h rest = ap (λ b. p k || b) rest ∙ grouped (p k) (list_any p ks) (p x)

or-none : (b : Bool) → (b || false) ≡ b
or-none true = refl
or-none false = refl

-- what is found among current rows
pub any-current : (p : Row → Bool) → IsOfCells p → (came more : List Row)
    → list_any p (current_rows (came ++ more)) ≡ (list_any p (current_rows came) || list_any p more)
any-current p same came [] = ap (λ rows. list_any p (current_rows rows)) (append-nil came)
    ∙ by (list_any p (current_rows came))
  where
    by : (b : Bool) → b ≡ (b || false)
    by true = refl
    by false = refl
any-current p same came (x ∷ more) =
    ap (λ rows. list_any p (current_rows rows)) (sym (append_assoc came (x ∷ []) more))
    ∙ any-current p same (came ++ x ∷ []) more
    ∙ ap (λ b. b || list_any p more)
    (ap (list_any p) (current-push same_cell (λ row. row.revision) cell_laws came x)
    ∙ any-settled p same (current_rows came) x)
    ∙ grouped (list_any p (current_rows came)) (p x) (list_any p more)
  where
    grouped : (a b c : Bool) → ((a || b) || c) ≡ (a || (b || c))
    grouped true b c = refl
    grouped false b c = refl

on_cells : (sli : List ℕ) (day : ℕ) → IsOfCells (is_on sli day)
on_cells sli day a b h = ap (λ (c : Cell). bytes_eq c.sli sli && nat_eq (c.minute / 1440) day)
    (cell_same (cell_of a) (cell_of b) h)

-- a day is among the days of an indicator's rows where a row of it lies on the day
found : (sli : List ℕ) (day : ℕ) (rows : List Row)
    → list_any (λ x. x == day) (map (λ (row : Row). row.minute / 1440) (filter (is_of sli) rows))
    ≡ has_day sli rows day
found sli day [] = refl
found sli day (row ∷ rows) = by (is_of sli row) (found sli day rows)
  where
    by : (b : Bool) → list_any (λ x. x == day)
        (map (λ (row : Row). row.minute / 1440) (filter (is_of sli) rows)) ≡ has_day sli rows day →
        list_any (λ x. x == day) (map (λ (row : Row). row.minute / 1440)
        (cond b (row ∷ filter (is_of sli) rows) (filter (is_of sli) rows)))
        ≡ ((b && nat_eq (row.minute / 1440) day) || has_day sli rows day)
    by true rest = ap (λ b. (row.minute / 1440 == day) || b) rest
    by false rest = rest

-- the same of cells
found_cell : (sli : List ℕ) (day : ℕ) (cells : List Cell)
    → list_any (λ x. x == day)
    (map (λ (cell : Cell). cell.minute / 1440) (filter (is_cell_of sli) cells))
    ≡ list_any (is_cell_on sli day) cells
found_cell sli day [] = refl
found_cell sli day (cell ∷ cells) = by (is_cell_of sli cell) (found_cell sli day cells)
  where
    by : (b : Bool) → list_any (λ x. x == day)
        (map (λ (cell : Cell). cell.minute / 1440) (filter (is_cell_of sli) cells))
        ≡ list_any (is_cell_on sli day) cells →
        list_any (λ x. x == day) (map (λ (cell : Cell). cell.minute / 1440)
        (cond b (cell ∷ filter (is_cell_of sli) cells) (filter (is_cell_of sli) cells)))
        ≡ ((b && nat_eq (cell.minute / 1440) day) || list_any (is_cell_on sli day) cells)
    by true rest = ap (λ b. (cell.minute / 1440 == day) || b) rest
    by false rest = rest

-- The days of an indicator, over current rows and others that came later, are those that were there
-- and those that the others bring.
pub days-brought : (rows more : List Row) (index : CellIndex) (sli : List ℕ) (days : ℕ) →
    current_rows rows ≡ rows → (b : BringDays rows more index) →
    days ≡ length (days_with_cells b.cells sli) →
    days_of rows sli + days ≡ days_of (current_rows (rows ++ more)) sli
days-brought rows more index sli days current b is =
    ap (λ n. days_of rows sli + n) is
    ∙ sym (counted-apart (map (λ (row : Row). row.minute / 1440) (filter (is_of sli) rows))
    (map (λ (cell : Cell). cell.minute / 1440) (filter (is_cell_of sli) b.cells))
    (map (λ (row : Row). row.minute / 1440) (filter (is_of sli) (current_rows (rows ++ more))))
    (λ day. found sli day (current_rows (rows ++ more))
    ∙ any-current (is_on sli day) (on_cells sli day) rows more
    ∙ ap (λ rs. has_day sli rs day || has_day sli more day) current
    ∙ either (has_day sli rows day) (has_day sli more day)
    ∙ (λ i. sym (found sli day rows) i || sym (found_cell sli day b.cells ∙ b.days sli day) i))
    (λ day. (λ i. found sli day rows i && (found_cell sli day b.cells ∙ b.days sli day) i)
    ∙ never (has_day sli rows day) (has_day sli more day)))
  where
    either : (a b : Bool) → (a || b) ≡ (a || (b && not a))
    either true b = refl
    either false true = refl
    either false false = refl

    never : (a b : Bool) → (a && (b && not a)) ≡ false
    never true true = refl
    never true false = refl
    never false b = refl

-- a cell of the indicator lies on a day where there is a last one that does
pub found_last_cell : (sli : List ℕ) (day last_one : ℕ) (cells : List Cell)
    → last_one ≡ last (is_cell_on sli day) cells
    → nat_lt 0 last_one ≡ list_any (is_cell_on sli day) cells
found_last_cell sli day last_one cells is = ap (nat_lt 0) is ∙ at cells
  where
    at : (cells : List Cell) → nat_lt 0 (last (is_cell_on sli day) cells)
        ≡ list_any (is_cell_on sli day) cells
    at [] = refl
    at (cell ∷ cells) = by (last (is_cell_on sli day) cells) (is_cell_on sli day cell) (at cells)
      where
        some : (n : ℕ) → nat_lt 0 (suc n) ≡ true
        some n = grind (arith, nat_tests)

        by : (n : ℕ) (b : Bool) → nat_lt 0 n ≡ list_any (is_cell_on sli day) cells
            → nat_lt 0 (later n b) ≡ (b || list_any (is_cell_on sli day) cells)
        by zero true h = some 0
        by zero false h = h
        by (suc n) true h = some (suc n)
        by (suc n) false h = some (suc n) ∙ sym (some n) ∙ h

-- a row lies on a day where there is a last one that does
pub found_last : (sli : List ℕ) (day : ℕ) (rows : List Row)
    → is_some (last_place (is_on sli day) rows) ≡ has_day sli rows day
found_last sli day [] = refl
found_last sli day (row ∷ rows) =
    by (last (is_on sli day) rows) (is_on sli day row) (found_last sli day rows)
  where
    by : (n : ℕ) (b : Bool) → is_some (below n) ≡ has_day sli rows day
        → is_some (below (later n b)) ≡ (b || has_day sli rows day)
    by zero true h = refl
    by zero false h = h
    by (suc n) true h = refl
    by (suc n) false h = h

-- one row more
has_more : (sli : List ℕ) (day : ℕ) (came : List Row) (row : Row)
    → has_day sli (came ++ row ∷ []) day ≡ (has_day sli came day || is_on sli day row)
has_more sli day came row = list_any-append (is_on sli day) came (row ∷ [])
    ∙ ap (λ b. has_day sli came day || b) (or-none (is_on sli day row))

-- what holds of a row's indicator and day holds of the indicator and day that it is on
of_its_day : (P : List ℕ → ℕ → Type 0) (sli : List ℕ) (day : ℕ) (row : Row)
    → is_on sli day row ≡ true → P row.sli (row.minute / 1440) → P sli day
of_its_day P sli day row on h =
    let parts = and_parts (bytes_eq row.sli sli) (nat_eq (row.minute / 1440) day) on in
    subst (λ (d : ℕ). P sli d) (eqb-true (row.minute / 1440) day parts.1)
    (subst (λ (name : List ℕ). P name (row.minute / 1440))
    ((bytes_eq-Decides row.sli sli).0 parts.0) h)

-- the row brings no day more: its day was there, or was brought
pub brings_none : (rows came : List Row) (index : CellIndex) (row : Row)
    (b : BringDays rows came index) →
    (has_day row.sli rows (row.minute / 1440)
    || list_any (is_cell_on row.sli (row.minute / 1440)) b.cells) ≡ true →
    BringDays rows (came ++ row ∷ []) index
brings_none rows came index row b known = record {
  cells = b.cells;
  indexed = b.indexed;
  few = omega (arith, b.few, length-append came (row ∷ []));
  days = λ sli day. b.days sli day
      ∙ same sli day (is_on sli day row) refl
      ∙ ap (λ x. x && not (has_day sli rows day)) (sym (has_more sli day came row));
}
  where
    none : (a c : Bool) → (a || (c && not a)) ≡ true → (c && not a) ≡ ((c || true) && not a)
    none true true h = refl
    none true false h = refl
    none false true h = refl
    none false false h = cc h

    same : (sli : List ℕ) (day : ℕ) (on : Bool) → is_on sli day row ≡ on →
        (has_day sli came day && not (has_day sli rows day))
        ≡ ((has_day sli came day || is_on sli day row) && not (has_day sli rows day))
    same sli day true on =
        let there : (has_day sli rows day || list_any (is_cell_on sli day) b.cells) ≡ true =
        of_its_day (λ name d. (has_day name rows d || list_any (is_cell_on name d) b.cells) ≡ true)
        sli day row on known in
        none (has_day sli rows day) (has_day sli came day)
        (ap (λ x. has_day sli rows day || x) (sym (b.days sli day)) ∙ there)
        ∙ ap (λ x. (has_day sli came day || x) && not (has_day sli rows day)) (sym on)
    same sli day false on =
        ap (λ x. x && not (has_day sli rows day)) (sym (or-none (has_day sli came day)))
        ∙ ap (λ x. (has_day sli came day || x) && not (has_day sli rows day)) (sym on)

-- the row brings its day
pub brings_one : (rows came : List Row) (index index' : CellIndex) (row : Row)
    (b : BringDays rows came index) →
    (has_day row.sli rows (row.minute / 1440)
    || list_any (is_cell_on row.sli (row.minute / 1440)) b.cells) ≡ false →
    IsIndexed (b.cells ++ cell_of row ∷ []) index' → BringDays rows (came ++ row ∷ []) index'
brings_one rows came index index' row b unknown indexed = record {
  cells = b.cells ++ cell_of row ∷ [];
  indexed = indexed;
  few = omega (
    arith,
    b.few,
    length-append came (row ∷ []),
    length-append b.cells (cell_of row ∷ []),
  );
  days = λ sli day. list_any-append (is_cell_on sli day) b.cells (cell_of row ∷ [])
      ∙ ap (λ x. list_any (is_cell_on sli day) b.cells || x) (or-none (is_on sli day row))
      ∙ ap (λ x. x || is_on sli day row) (b.days sli day)
      ∙ same sli day (is_on sli day row) refl
      ∙ ap (λ x. x && not (has_day sli rows day)) (sym (has_more sli day came row));
}
  where
    one : (a c : Bool) → a ≡ false → ((c && not a) || true) ≡ ((c || true) && not a)
    one true c h = cc h
    one false true h = refl
    one false false h = refl

    none : (a c : Bool) → ((c && not a) || false) ≡ ((c || false) && not a)
    none true true = refl
    none true false = refl
    none false true = refl
    none false false = refl

    same : (sli : List ℕ) (day : ℕ) (on : Bool) → is_on sli day row ≡ on →
        ((has_day sli came day && not (has_day sli rows day)) || is_on sli day row)
        ≡ ((has_day sli came day || is_on sli day row) && not (has_day sli rows day))
    same sli day true on =
        let missing : has_day sli rows day ≡ false =
        of_its_day (λ name d. has_day name rows d ≡ false) sli day row on
        (or_parts (has_day row.sli rows (row.minute / 1440))
        (list_any (is_cell_on row.sli (row.minute / 1440)) b.cells) unknown).0 in
        ap (λ x. (has_day sli came day && not (has_day sli rows day)) || x) on
        ∙ one (has_day sli rows day) (has_day sli came day) missing
        ∙ ap (λ x. (has_day sli came day || x) && not (has_day sli rows day)) (sym on)
    same sli day false on =
        ap (λ x. (has_day sli came day && not (has_day sli rows day)) || x) on
        ∙ none (has_day sli rows day) (has_day sli came day)
        ∙ ap (λ x. (has_day sli came day || x) && not (has_day sli rows day)) (sym on)

-- a day that these rows have is known
pub known_day : (rows came : List Row) (index : CellIndex) (sli : List ℕ) (day : ℕ)
    (b : BringDays rows came index) → has_day sli came day ≡ true →
    (has_day sli rows day || list_any (is_cell_on sli day) b.cells) ≡ true
known_day rows came index sli day b h =
    ap (λ x. has_day sli rows day || x) (b.days sli day)
    ∙ by (has_day sli rows day) (has_day sli came day) h
  where
    by : (a c : Bool) → c ≡ true → (a || (c && not a)) ≡ true
    by true c h = refl
    by false true h = refl
    by false false h = h

-- the rows up to a place, and the row there
pub next_rows : (rows : List Row) (place : ℕ) (row : Row) → place < length rows
    → row ≡ get_or rows place row → take (place + 1) rows ≡ take place rows ++ row ∷ []
next_rows rows place row h is = take_more rows place row h
    ∙ ap (λ (r : Row). take place rows ++ r ∷ []) (sym is)

-- the last of the rows before a place is one of them
pub last_has : (rows : List Row) (place : ℕ) (before : Row) (sli : List ℕ) (day : ℕ) → 0 < place
    → place ≤ length rows → before ≡ get_or rows (place - 1) before
    → is_on sli day before ≡ true → has_day sli (take place rows) day ≡ true
last_has rows place before sli day some within is on =
    let e : place ≡ place - 1 + 1 = omega (arith, some) in
    ap (λ n. has_day sli (take n rows) day) e
    ∙ ap (λ rs. has_day sli rs day)
    (next_rows rows (place - 1) before (omega (arith, some, within)) is)
    ∙ has_more sli day (take (place - 1) rows) before
    ∙ ap (λ b. has_day sli (take (place - 1) rows) day || b) on
    ∙ at (has_day sli (take (place - 1) rows) day)
  where
    at : (b : Bool) → (b || true) ≡ true
    at true = refl
    at false = refl

-- no rows bring no days
pub none_brought : (rows : List Row) (index : CellIndex) → IsIndexed [] index
    → BringDays rows [] index
none_brought rows index indexed = record {
  cells = [];
  indexed = indexed;
  few = omega arith;
  days = λ sli day. refl;
}
