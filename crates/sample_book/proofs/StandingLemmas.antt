-- The rows of the first cells, and the room of those behind.
use Rattle.std.proofs.Common.{◌≡◌, ◌≢◌, ℕ, zero, suc, ◌+◌, ◌<◌, ◌≤◌, List, [], ◌∷◌, ◌++◌, length}
use Rattle.std.proofs.Common.{Bool, true, false, cond, if◌then◌else◌, ◌&&◌, ◌||◌, not, nat_lt}
use Rattle.std.proofs.Common.{nat_eq, refl, ap, sym, ◌∙◌, arith, map, take, drop, set, filter}
use Rattle.std.proofs.Common.{subst, append_assoc, slice_get, Option, Some, None}
use Rattle.std.specs.Option.{option_map}
use Rattle.std.specs.Prelude.{Result, Ok, Err, OnOk}
use Rattle.std.specs.Str.{bytes_eq}
use Rattle.std.specs.Cmp.{IsEquivalence}
use Rattle.std.specs.Cmp.Lexicographic.{nat_list_eq_equiv}
use Rattle.std.specs.List.{list_any, find, IsDistinct}
use Rattle.std.proofs.lemmas.Bool.{or_parts, or_from, and_parts, eqb-true}
use Rattle.std.proofs.lemmas.Bool.Decides.{nat_tests}
use Rattle.std.proofs.lemmas.List.{append-nil}
use Rattle.std.proofs.lemmas.List.Elements.{filter-append}
use Rattle.std.proofs.lemmas.Slice.Eq.{bytes_eq-Decides}
use Rattle.slo_terms.specs.Rows.{newer, first_of_each}
use Rattle.cell_index.specs.declared.Cell.{Cell}
use Rattle.cell_index.proofs.ListLemmas.{eq-itself}
use Rattle.sample_book.specs.declared.row.Row.{Row}
use Rattle.sample_book.specs.declared.row.RowVerdict.TheVariants.{New, Newer, Repeated, Superseded}
use Rattle.sample_book.specs.declared.row.RowVerdict.TheVariants.{Conflict}
use Rattle.sample_book.specs.declared.stored.Stored.{Stored}
use Rattle.sample_book.specs.Rows.{cell_of, same_cell, current_rows, same_amount}
use Rattle.cell_index.specs.Cells.{cell_eq}
use Rattle.sample_book.specs.Rows.{verdict_on, verdict_where, MayPutAs, new_cells}
use Rattle.cell_index.specs.Cells.{with_cell}
use Rattle.std.proofs.lemmas.List.{length-map}
use Rattle.sample_book.specs.Standing.{row_stored, rows_stored, IsInStep, MOST_CELLS}
use Rattle.name_numbers.proofs.FirstPlaces.{first}
use Rattle.slo_terms.proofs.CurrentLemmas.{settle, settle-new, adds, current-push}
use Rattle.slo_terms.proofs.CurrentLemmas.{current-of_distinct, current-distinct}
use Rattle.slo_terms.proofs.CurrentLemmas.{first_of_each-push}

-- one cell by the test is one cell
pub cell_same : (a b : Cell) → cell_eq a b ≡ true → a ≡ b
cell_same a b h =
    let p = and_parts (bytes_eq a.sli b.sli)
    (bytes_eq a.source b.source && nat_eq a.minute b.minute) h in
    let q = and_parts (bytes_eq a.source b.source) (nat_eq a.minute b.minute) p.1 in
    let sli = (bytes_eq-Decides a.sli b.sli).0 p.0 in
    let source = (bytes_eq-Decides a.source b.source).0 q.0 in
    let minute = eqb-true a.minute b.minute q.1 in
    λ i. record { sli = sli i; source = source i; minute = minute i }

eq-symm : (m n : ℕ) → nat_eq m n ≡ nat_eq n m
eq-symm m n = grind (arith, nat_tests)

-- being of one cell is an equivalence
pub cell_laws : IsEquivalence same_cell
cell_laws = record {
  refl = λ x. rw (
    nat_list_eq_equiv.refl x.sli,
    nat_list_eq_equiv.refl x.source,
    eq-itself x.minute,
  ) refl;
  symm = λ x y. rw (
    nat_list_eq_equiv.symm x.sli y.sli,
    nat_list_eq_equiv.symm x.source y.source,
    eq-symm x.minute y.minute,
  ) refl;
  congr = λ x y z h. ap (λ (c : Cell). cell_eq c (cell_of z)) (cell_same (cell_of x) (cell_of y) h);
}

pub row_at : (cells : List Cell) (stored : List Stored) (place : ℕ) (cell : Cell) (what : Stored) →
    slice_get cells place ≡ Some cell → slice_get stored place ≡ Some what →
    slice_get (rows_stored cells stored) place ≡ Some (row_stored cell what)
row_at [] stored place cell what e h = cc e
row_at (c ∷ cells) [] place cell what e h = cc h
row_at (c ∷ cells) (s ∷ stored) zero cell what e h =
    let same : c ≡ cell = cc e in
    let kept : s ≡ what = cc h in
    (λ i. Some (row_stored (same i) (kept i)))
row_at (c ∷ cells) (s ∷ stored) (suc place) cell what e h = row_at cells stored place cell what e h

pub row_beyond : (cells : List Cell) (stored : List Stored) (place : ℕ) → length stored ≤ place
    → slice_get (rows_stored cells stored) place ≡ None
row_beyond [] stored place h = refl
row_beyond (c ∷ cells) [] place h = refl
row_beyond (c ∷ cells) (s ∷ stored) zero h = absurd (omega arith)
row_beyond (c ∷ cells) (s ∷ stored) (suc place) h = row_beyond cells stored place (omega arith)

-- the kept row of a cell stands where the cell does
pub kept_at : (cells : List Cell) (stored : List Stored) (row kept : Row) (place : ℕ) →
    first (cell_eq (cell_of row)) cells ≡ Some place →
    slice_get (rows_stored cells stored) place ≡ Some kept →
    find (same_cell row) (rows_stored cells stored) ≡ Some kept
kept_at [] stored row kept place e h = cc e
kept_at (c ∷ cells) [] row kept place e h = cc h
kept_at (c ∷ cells) (s ∷ stored) row kept place e h = by (cell_eq (cell_of row) c)
    (first (cell_eq (cell_of row)) cells) place e h (λ n o g. kept_at cells stored row kept n o g)
  where
    by : (b : Bool) (o : Option ℕ) (place : ℕ) → cond b (Some 0) (option_map suc o) ≡ Some place →
        slice_get (row_stored c s ∷ rows_stored cells stored) place ≡ Some kept →
        ((n : ℕ) → o ≡ Some n → slice_get (rows_stored cells stored) n ≡ Some kept
        → find (same_cell row) (rows_stored cells stored) ≡ Some kept) →
        cond b (Some (row_stored c s)) (find (same_cell row) (rows_stored cells stored)) ≡ Some kept
    by true o zero e h go = h
    by true o (suc n) e h go = cc e
    by false None n e h go = cc e
    by false (Some m) zero e h go = cc e
    by false (Some m) (suc n) e h go =
        go n (let same : m ≡ n = cc e in ap (λ (k : ℕ). Some k) same) h

pub none_kept : (cells : List Cell) (stored : List Stored) (row : Row) →
    list_any (cell_eq (cell_of row)) (take (length stored) cells) ≡ false →
    list_any (same_cell row) (rows_stored cells stored) ≡ false
none_kept [] stored row h = refl
none_kept (c ∷ cells) [] row h = refl
none_kept (c ∷ cells) (s ∷ stored) row h =
    let parts = or_parts (cell_eq (cell_of row) c)
    (list_any (cell_eq (cell_of row)) (take (length stored) cells)) h in
    or_from (cell_eq (cell_of row) c) (list_any (same_cell row) (rows_stored cells stored)) parts.0
    (none_kept cells stored row parts.1)

pub none_found : (row : Row) (rows : List Row) → list_any (same_cell row) rows ≡ false
    → find (same_cell row) rows ≡ None
none_found row [] h = refl
none_found row (r ∷ rs) h =
    let parts = or_parts (same_cell row r) (list_any (same_cell row) rs) h in
    rw parts.0 (none_found row rs parts.1)

-- a row of a cell that has one isn't new
pub newer_verdict : (kept row : Row) → verdict_on kept row ≢ New
newer_verdict kept row h = by (nat_lt kept.revision row.revision)
    (nat_lt row.revision kept.revision) (same_amount kept.amount row.amount) h
  where
    by : (a b d : Bool) → (if a then Newer kept else if b then Superseded kept.revision else if d
        then Repeated else Conflict kept) ≡ New → ⊥
    by true b d h = cc h
    by false true d h = cc h
    by false false true h = cc h
    by false false false h = cc h

-- what is stored in the place of a cell is the row that settles there
pub settle_at : (cells : List Cell) (stored : List Stored) (row kept : Row) (place : ℕ) →
    first (cell_eq (cell_of row)) cells ≡ Some place →
    slice_get (rows_stored cells stored) place ≡ Some kept →
    nat_lt kept.revision row.revision ≡ true →
    rows_stored cells (set stored place (record { revision = row.revision; amount = row.amount }))
    ≡ settle same_cell (λ row. row.revision) (rows_stored cells stored) row
settle_at [] stored row kept place e h g = cc e
settle_at (c ∷ cells) [] row kept place e h g = cc h
settle_at (c ∷ cells) (s ∷ stored) row kept place e h g =
    by (cell_eq (cell_of row) c) (first (cell_eq (cell_of row)) cells) refl place e h
    (λ n o k. settle_at cells stored row kept n o k g)
  where
    by : (b : Bool) (o : Option ℕ) → cell_eq (cell_of row) c ≡ b →
        (place : ℕ) → cond b (Some 0) (option_map suc o) ≡ Some place →
        slice_get (row_stored c s ∷ rows_stored cells stored) place ≡ Some kept →
        ((n : ℕ) → o ≡ Some n → slice_get (rows_stored cells stored) n ≡ Some kept →
        rows_stored cells (set stored n (record { revision = row.revision; amount = row.amount }))
        ≡ settle same_cell (λ row. row.revision) (rows_stored cells stored) row) →
        rows_stored (c ∷ cells) (set (s ∷ stored) place
        (record { revision = row.revision; amount = row.amount }))
        ≡ (if b then newer (λ (row : Row). row.revision) (row_stored c s) row
        ∷ rows_stored cells stored else row_stored c s
        ∷ settle same_cell (λ row. row.revision) (rows_stored cells stored) row)
    by true o same zero e h go =
        let k : row_stored c s ≡ kept = cc h in
        ap (λ (x : Cell). row_stored x (record { revision = row.revision; amount = row.amount })
        ∷ rows_stored cells stored) (sym (cell_same (cell_of row) c same))
        ∙ ap (λ (b : Bool). cond b row (row_stored c s) ∷ rows_stored cells stored)
        (sym (ap (λ (r : Row). nat_lt r.revision row.revision) k ∙ g))
    by true o same (suc n) e h go = cc e
    by false None same n e h go = cc e
    by false (Some m) same zero e h go = cc e
    by false (Some m) same (suc n) e h go =
        ap (λ rows. row_stored c s ∷ rows)
        (go n (let same : m ≡ n = cc e in ap (λ (k : ℕ). Some k) same) h)

-- what is stored behind is the row of the first cell with room
pub stored_behind : (cells : List Cell) (stored : List Stored) (row : Row) →
    slice_get (drop (length stored) cells) 0 ≡ Some (cell_of row) →
    rows_stored cells (stored ++ record { revision = row.revision; amount = row.amount } ∷ [])
    ≡ rows_stored cells stored ++ row ∷ []
stored_behind [] [] row e = cc e
stored_behind [] (s ∷ stored) row e = cc e
stored_behind (c ∷ cells) [] row e =
    let same : c ≡ cell_of row = cc e in
    ap (λ (x : Cell). row_stored x (record { revision = row.revision; amount = row.amount })
    ∷ rows_stored cells []) same
    ∙ ap (λ rows. row ∷ rows) (none_stored cells)
  where
    none_stored : (cells : List Cell) → rows_stored cells [] ≡ []
    none_stored [] = refl
    none_stored (c ∷ cells) = refl
stored_behind (c ∷ cells) (s ∷ stored) row e =
    ap (λ rows. row_stored c s ∷ rows) (stored_behind cells stored row e)

-- and that cell leaves the room
pub room_behind : (cells : List Cell) (n : ℕ) (cell : Cell) → slice_get (drop n cells) 0 ≡ Some cell
    → drop n cells ≡ cell ∷ drop (suc n) cells
room_behind [] zero cell e = cc e
room_behind [] (suc n) cell e = cc e
room_behind (c ∷ cells) zero cell e = let same : c ≡ cell = cc e in
    ap (λ (x : Cell). x ∷ cells) same
room_behind (c ∷ cells) (suc n) cell e = room_behind cells n cell e

pub within_behind : (cells : List Cell) (n : ℕ) (cell : Cell)
    → slice_get (drop n cells) 0 ≡ Some cell → n < length cells
within_behind [] zero cell e = cc e
within_behind [] (suc n) cell e = cc e
within_behind (c ∷ cells) zero cell e = omega arith
within_behind (c ∷ cells) (suc n) cell e = let h = within_behind cells n cell e in omega arith

-- a row that is put is current beside those that are
pub put_current : (rows : List Row) (row : Row) → IsDistinct same_cell rows
    → settle same_cell (λ row. row.revision) rows row ≡ current_rows (rows ++ row ∷ [])
put_current rows row h =
    ap (λ kept. settle same_cell (λ row. row.revision) kept row)
    (sym (current-of_distinct same_cell (λ row. row.revision) cell_laws rows h))
    ∙ sym (current-push same_cell (λ row. row.revision) cell_laws rows row)

adds-cells : (rows : List Row) (row : Row)
    → map cell_of (adds same_cell (λ row. row.revision) rows row)
    ≡ (if list_any (cell_eq (cell_of row)) (map cell_of rows) then map cell_of rows
    else map cell_of rows ++ cell_of row ∷ [])
adds-cells [] row = refl
adds-cells (r ∷ rs) row = by (same_cell r row) (cell_eq (cell_of row) (cell_of r))
    (list_any (cell_eq (cell_of row)) (map cell_of rs)) (cell_laws.symm r row) (adds-cells rs row)
  where
    by : (a b d : Bool) → a ≡ b → map cell_of (adds same_cell (λ row. row.revision) rs row)
        ≡ (if d then map cell_of rs else map cell_of rs ++ cell_of row ∷ []) →
        cell_of r ∷ map cell_of (if a then rs else adds same_cell (λ row. row.revision) rs row)
        ≡ (if b || d then cell_of r ∷ map cell_of rs
        else (cell_of r ∷ map cell_of rs) ++ cell_of row ∷ [])
    by true true d s rest = refl
    by true false d s rest = cc s
    by false true d s rest = cc s
    by false false true s rest = ap (λ cells. cell_of r ∷ cells) rest
    by false false false s rest = ap (λ cells. cell_of r ∷ cells) rest

pub list_any-append : {A : Type 0} (p : A → Bool) (xs ys : List A)
    → list_any p (xs ++ ys) ≡ (list_any p xs || list_any p ys)
list_any-append p [] ys = refl
list_any-append p (x ∷ xs) ys = by (p x) (list_any-append p xs ys)
  where
    by : (b : Bool) → list_any p (xs ++ ys) ≡ (list_any p xs || list_any p ys)
        → (b || list_any p (xs ++ ys)) ≡ ((b || list_any p xs) || list_any p ys)
    by true rest = refl
    by false rest = rest

-- one more row gives its cell room unless the cell is there
pub new_cells-push : (cells : List Cell) (came : List Row) (row : Row) →
    new_cells cells (came ++ row ∷ [])
    ≡ (if list_any (cell_eq (cell_of row)) (cells ++ new_cells cells came)
    then new_cells cells came else new_cells cells came ++ cell_of row ∷ [])
new_cells-push cells came row =
    ap (λ rows. map cell_of (first_of_each same_cell rows))
    (filter-append (λ row. not (list_any (cell_eq (cell_of row)) cells)) came (row ∷ []))
    ∙ by (list_any (cell_eq (cell_of row)) cells)
    ∙ ap (λ (b : Bool). if b then new_cells cells came else new_cells cells came ++ cell_of row
    ∷ []) (sym (list_any-append (cell_eq (cell_of row)) cells (new_cells cells came)))
  where
    by : (b : Bool) → map cell_of (first_of_each same_cell (filter
        (λ row. not (list_any (cell_eq (cell_of row)) cells)) came ++ cond (not b) (row ∷ []) []))
        ≡ (if b || list_any (cell_eq (cell_of row)) (new_cells cells came) then new_cells cells came
        else new_cells cells came ++ cell_of row ∷ [])
    by true = ap (λ rows. map cell_of (first_of_each same_cell rows))
        (append-nil (filter (λ row. not (list_any (cell_eq (cell_of row)) cells)) came))
    by false =
        ap (map cell_of) (first_of_each-push same_cell (λ row. row.revision) cell_laws
        (filter (λ row. not (list_any (cell_eq (cell_of row)) cells)) came) row)
        ∙ adds-cells (first_of_each same_cell
        (filter (λ row. not (list_any (cell_eq (cell_of row)) cells)) came)) row

pub length-rows : (cells : List Cell) (stored : List Stored) → length stored ≤ length cells
    → length (rows_stored cells stored) ≡ length stored
length-rows [] [] h = refl
length-rows [] (s ∷ stored) h = absurd (omega arith)
length-rows (c ∷ cells) [] h = refl
length-rows (c ∷ cells) (s ∷ stored) h = ap suc (length-rows cells stored (omega arith))

-- what may be put behind the kept rows
pub record PutBehind (cells : List Cell) (stored : List Stored) (row : Row) : Type 0 where
  pub rows : rows_stored cells
      (stored ++ record { revision = row.revision; amount = row.amount } ∷ []) ≡ current_rows
      (rows_stored cells stored ++ row ∷ [])
  pub room : drop (length stored) cells ≡ cell_of row ∷ drop (suc (length stored)) cells
  pub within : length stored < length cells
  pub new : verdict_where (find (same_cell row) (rows_stored cells stored)) row ≡ New

pub put_behind : (cells : List Cell) (stored : List Stored) (row : Row) →
    IsDistinct same_cell (rows_stored cells stored) →
    list_any (cell_eq (cell_of row)) (take (length stored) cells) ≡ false →
    MayPutAs (verdict_where (find (same_cell row) (rows_stored cells stored)) row)
    (drop (length stored) cells) (cell_of row) → PutBehind cells stored row
put_behind cells stored row apart absent may =
    let none : list_any (same_cell row) (rows_stored cells stored) ≡ false =
    none_kept cells stored row absent in
    let found : find (same_cell row) (rows_stored cells stored) ≡ None =
    none_found row (rows_stored cells stored) none in
    let head : slice_get (drop (length stored) cells) 0 ≡ Some (cell_of row) =
    subst (λ (o : Option Row).
    MayPutAs (verdict_where o row) (drop (length stored) cells) (cell_of row)) found may in
    record {
      rows = stored_behind cells stored row head ∙ sym
          (settle-new same_cell (λ row. row.revision) cell_laws (rows_stored cells stored) row none)
          ∙ put_current (rows_stored cells stored) row apart;
      room = room_behind cells (length stored) (cell_of row) head;
      within = within_behind cells (length stored) (cell_of row) head;
      new = ap (λ (o : Option Row). verdict_where o row) found;
    }

-- rows that were put are of cells that differ
pub put_apart : (rows rows' : List Row) (row : Row) → rows' ≡ current_rows (rows ++ row ∷ [])
    → IsDistinct same_cell rows'
put_apart rows rows' row e = subst (IsDistinct same_cell) (sym e)
    (current-distinct same_cell (λ row. row.revision) cell_laws (rows ++ row ∷ []))

-- rows are those of the first cells
rows-first : (cells more : List Cell) (stored : List Stored) → length stored ≤ length cells
    → rows_stored (take (length stored) cells ++ more) stored ≡ rows_stored cells stored
rows-first [] more [] h = none_stored more
  where
    none_stored : (cells : List Cell) → rows_stored cells [] ≡ []
    none_stored [] = refl
    none_stored (c ∷ cells) = refl
rows-first [] more (s ∷ stored) h = absurd (omega arith)
rows-first (c ∷ cells) [] [] h = refl
rows-first (c ∷ cells) (m ∷ more) [] h = refl
rows-first (c ∷ cells) more (s ∷ stored) h =
    ap (λ rows. row_stored c s ∷ rows) (rows-first cells more stored (omega arith))

drop-first : (cells more : List Cell) (n : ℕ) → n ≤ length cells
    → drop n (take n cells ++ more) ≡ more
drop-first cells more zero h = refl
drop-first [] more (suc n) h = absurd (omega arith)
drop-first (c ∷ cells) more (suc n) h = drop-first cells more n (omega arith)

length-first : (cells more : List Cell) (n : ℕ) → n ≤ length cells
    → length (take n cells ++ more) ≡ n + length more
length-first cells more zero h = omega arith
length-first [] more (suc n) h = absurd (omega arith)
length-first (c ∷ cells) more (suc n) h = omega (arith, length-first cells more n (omega arith))

-- The cells with rows stay, and others come behind them.
pub record RoomMade (cells : List Cell) (stored : List Stored) (cells' : List Cell)
    (stored' : List Stored) (capacity : ℕ) (more : List Cell) : Type 0 where
  pub in_step : IsInStep cells' stored' capacity
  pub rows : rows_stored cells' stored' ≡ rows_stored cells stored
  pub room : drop (length stored') cells' ≡ more

pub room_made : (cells : List Cell) (stored : List Stored) (before : ℕ) (cells' : List Cell)
    (stored' : List Stored) (capacity : ℕ) (more : List Cell) →
    IsInStep cells stored before → cells' ≡ take (length stored) cells ++ more → stored' ≡ stored →
    length stored + length more ≤ capacity → length stored + length more ≤ MOST_CELLS →
    RoomMade cells stored cells' stored' capacity more
room_made cells stored before cells' stored' capacity more step e f ready few =
    subst (λ (s : List Stored). RoomMade cells stored cells' s capacity more) (sym f)
    (subst (λ (c : List Cell). RoomMade cells stored c stored capacity more) (sym e) (record {
      in_step = record {
        within = omega (arith, step.within, length-first cells more (length stored) step.within);
        ready = omega (arith, ready, length-first cells more (length stored) step.within);
        few = omega (arith, few, length-first cells more (length stored) step.within);
        apart = subst (IsDistinct same_cell)
            (sym (rows-first cells more stored step.within)) step.apart;
      };
      rows = rows-first cells more stored step.within;
      room = drop-first cells more (length stored) step.within;
    }))

-- the cells of the rows are the first cells
pub cells-rows : (cells : List Cell) (stored : List Stored)
    → map cell_of (rows_stored cells stored) ≡ take (length stored) cells
cells-rows [] [] = refl
cells-rows [] (s ∷ stored) = refl
cells-rows (c ∷ cells) [] = refl
cells-rows (c ∷ cells) (s ∷ stored) = ap (λ cells. c ∷ cells) (cells-rows cells stored)

length-kept : {A : Type 0} (p : A → Bool) (xs : List A) → length (filter p xs) ≤ length xs
length-kept p [] = omega arith
length-kept p (x ∷ xs) = by (p x) (length-kept p xs)
  where
    by : (b : Bool) → length (filter p xs) ≤ length xs
        → length (cond b (x ∷ filter p xs) (filter p xs)) ≤ suc (length xs)
    by true h = omega arith
    by false h = omega arith

length-first_of_each : (rows : List Row) → length (first_of_each same_cell rows) ≤ length rows
length-first_of_each [] = omega arith
length-first_of_each (r ∷ rs) =
    let rest = length-first_of_each rs in
    let kept = length-kept (λ later. not (same_cell r later)) (first_of_each same_cell rs) in
    omega arith

-- no more cells than rows get room
pub length-new_cells : (cells : List Cell) (came : List Row)
    → length (new_cells cells came) ≤ length came
length-new_cells cells came =
    omega (
      arith,
      length-map (first_of_each same_cell
          (filter (λ row. not (list_any (cell_eq (cell_of row)) cells)) came)) cell_of,
      length-first_of_each (filter (λ row. not (list_any (cell_eq (cell_of row)) cells)) came),
      length-kept (λ row. not (list_any (cell_eq (cell_of row)) cells)) came,
    )

-- one more row, one more cell
pub new_cells-step : (cells cells' cells'' : List Cell) (came : List Row) (row : Row) →
    cells' ≡ cells ++ new_cells cells came → cells'' ≡ with_cell cells' (cell_of row) →
    cells'' ≡ cells ++ new_cells cells (came ++ row ∷ [])
new_cells-step cells cells' cells'' came row e f =
    f ∙ ap (λ c. with_cell c (cell_of row)) e
    ∙ by (list_any (cell_eq (cell_of row)) (cells ++ new_cells cells came))
    ∙ ap (λ c. cells ++ c) (sym (new_cells-push cells came row))
  where
    by : (b : Bool) → (if b then cells ++ new_cells cells came
        else (cells ++ new_cells cells came) ++ cell_of row ∷ [])
        ≡ cells ++ (if b then new_cells cells came else new_cells cells came ++ cell_of row ∷ [])
    by true = refl
    by false = append_assoc cells (new_cells cells came) (cell_of row ∷ [])

pub in_step_empty : (cells : List Cell) (stored : List Stored) (capacity : ℕ) → cells ≡ []
    → stored ≡ [] → IsInStep cells stored capacity
in_step_empty cells stored capacity e f =
    subst (λ (c : List Cell). IsInStep c stored capacity) (sym e)
    (subst (λ (s : List Stored). IsInStep [] s capacity) (sym f) (record {
      within = omega arith;
      ready = omega arith;
      few = omega arith;
      apart = none;
    }))
  where
    none : IsDistinct same_cell []
    none = current-distinct same_cell (λ row. row.revision) cell_laws []

-- what follows from what holds after success holds after success
pub also_ok : {A E P Q : Type 0} (r : Result A E) → OnOk r P → (P → Q) → OnOk r Q
also_ok (Ok a) p f = f p
also_ok (Err e) p f = tt

pub length-taken : (cells : List Cell) (n : ℕ) → n ≤ length cells → length (take n cells) ≡ n
length-taken cells zero h = refl
length-taken [] (suc n) h = absurd (omega arith)
length-taken (c ∷ cells) (suc n) h = ap suc (length-taken cells n (omega arith))
