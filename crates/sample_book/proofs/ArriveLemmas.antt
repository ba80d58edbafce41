-- What comes of a row that is looked up once: its cell has a row at a place, or is the last one.
use Rattle.std.proofs.Common.{◌≡◌, ◌≢◌, ◌∙◌, ◌<◌, ◌≤◌, ◌+◌, ℕ, zero, suc, List, [], ◌∷◌, ◌++◌, Bool}
use Rattle.std.proofs.Common.{true, false, if◌then◌else◌}
use Rattle.std.proofs.Common.{length, refl, ap, sym, subst, arith, take, drop, set, slice_get}
use Rattle.std.proofs.Common.{is_some, Option, Some, None}
use Rattle.std.specs.List.{IsDistinct, find, list_any, position}
use Rattle.std.proofs.lemmas.List.{append-nil}
use Rattle.cell_index.specs.declared.Cell.{Cell}
use Rattle.sample_book.specs.declared.row.Row.{Row}
use Rattle.sample_book.specs.declared.row.RowVerdict.{RowVerdict}
use Rattle.sample_book.specs.declared.row.RowVerdict.TheVariants.{New, Newer, Repeated, Superseded}
use Rattle.sample_book.specs.declared.row.RowVerdict.TheVariants.{Conflict}
use Rattle.sample_book.specs.declared.stored.Stored.{Stored}
use Rattle.sample_book.specs.History.{is_put, room_after, rows_after}
use Rattle.sample_book.specs.Puts.{IsPutInto}
use Rattle.sample_book.specs.Rows.{MayPutAs, cell_of, current_rows, same_cell, verdict_of}
use Rattle.cell_index.specs.Cells.{cell_eq}
use Rattle.sample_book.specs.Rows.{verdict_on, verdict_where}
use Rattle.cell_index.specs.Cells.{with_cell}
use Rattle.sample_book.specs.Standing.{IsInStep, MOST_CELLS, row_stored, rows_stored}
use Rattle.name_numbers.proofs.FirstPlaces.{any-position, first, position-first}
use Rattle.sample_book.proofs.PutLemmas.{newer_on, placed_settled}
use Rattle.sample_book.proofs.StandingLemmas.{RoomMade, kept_at, none_found, none_kept, put_apart}
use Rattle.sample_book.proofs.StandingLemmas.{put_behind, put_current, room_behind, room_made}
use Rattle.sample_book.proofs.StandingLemmas.{row_at, settle_at}

-- a row comes where this one is kept
pub record Renewed (cells : List Cell) (stored : List Stored) (row kept : Row)
    (place : ℕ) : Type 0 where
  pub stands : verdict_on kept row ≡ verdict_of (rows_stored cells stored) row
  pub taken : is_put (verdict_on kept row) ≡ true →
      rows_stored cells (set stored place (record { revision = row.revision; amount = row.amount }))
      ≡ rows_after (rows_stored cells stored) row
  pub passed : is_put (verdict_on kept row) ≡ false
      → rows_stored cells stored ≡ rows_after (rows_stored cells stored) row
  pub distinct : is_put (verdict_on kept row) ≡ true →
      IsDistinct same_cell (rows_stored cells
      (set stored place (record { revision = row.revision; amount = row.amount })))

pub renewed : (cells : List Cell) (stored : List Stored) (row : Row) (place : ℕ) (cell : Cell)
    (what : Stored) (kept : Row) →
    IsDistinct same_cell (rows_stored cells stored) →
    position (cell_eq (cell_of row)) cells ≡ Some place →
    slice_get cells place ≡ Some cell → slice_get stored place ≡ Some what →
    kept ≡ row_stored cell what → Renewed cells stored row kept place
renewed cells stored row place cell what kept apart there e h k =
    let rows : List Row = rows_stored cells stored in
    let at : slice_get rows place ≡ Some kept = row_at cells stored place cell what e h
    ∙ ap (λ (r : Row). Some r) (sym k) in
    let first_at : first (cell_eq (cell_of row)) cells ≡ Some place =
    sym (position-first (cell_eq (cell_of row)) cells) ∙ there in
    let found : find (same_cell row) rows ≡ Some kept =
    kept_at cells stored row kept place first_at at in
    let verdict : verdict_of rows row ≡ verdict_on kept row =
    ap (λ (o : Option Row). verdict_where o row) found in
    let current : is_put (verdict_on kept row) ≡ true →
    rows_stored cells (set stored place (record { revision = row.revision; amount = row.amount }))
    ≡ current_rows (rows ++ row ∷ [])
    = λ is. settle_at cells stored row kept place first_at at (newer_on kept row is)
    ∙ put_current rows row apart in
    record {
      stands = sym verdict;
      taken = λ is. current is ∙ ap (λ (b : Bool). if b then current_rows (rows ++ row ∷ [])
          else rows) (sym (ap is_put verdict ∙ is));
      passed = λ is. ap (λ (b : Bool). if b then current_rows (rows ++ row ∷ []) else rows)
          (sym (ap is_put verdict ∙ is));
      distinct = λ is. put_apart rows _ row (current is);
    }

-- a row comes whose cell is the first without a row
pub record Appended (cells : List Cell) (stored : List Stored) (row : Row) : Type 0 where
  pub new : verdict_of (rows_stored cells stored) row ≡ New
  pub taken : rows_stored cells
      (stored ++ record { revision = row.revision; amount = row.amount } ∷ []) ≡ rows_after
      (rows_stored cells stored) row
  pub distinct : IsDistinct same_cell
      (rows_stored cells (stored ++ record { revision = row.revision; amount = row.amount } ∷ []))
  pub within : length stored < length cells

-- a row is new whose cell has none
pub new_there : (cells : List Cell) (stored : List Stored) (row : Row) →
    list_any (cell_eq (cell_of row)) (take (length stored) cells) ≡ false →
    verdict_of (rows_stored cells stored) row ≡ New
new_there cells stored row absent = ap (λ (o : Option Row). verdict_where o row)
    (none_found row (rows_stored cells stored) (none_kept cells stored row absent))

pub appended : (cells : List Cell) (stored : List Stored) (row : Row) →
    IsDistinct same_cell (rows_stored cells stored) →
    slice_get (drop (length stored) cells) 0 ≡ Some (cell_of row) →
    list_any (cell_eq (cell_of row)) (take (length stored) cells) ≡ false →
    Appended cells stored row
appended cells stored row apart head absent =
    let rows : List Row = rows_stored cells stored in
    let verdict : verdict_of rows row ≡ New = new_there cells stored row absent in
    let may : MayPutAs (verdict_of rows row) (drop (length stored) cells) (cell_of row)
    = subst (λ (v : RowVerdict). MayPutAs v (drop (length stored) cells) (cell_of row))
    (sym verdict) head in
    let behind = put_behind cells stored row apart absent may in
    record {
      new = verdict;
      taken = behind.rows ∙ ap (λ (b : Bool). if b then current_rows (rows ++ row ∷ [])
          else rows) (sym (ap is_put verdict));
      distinct = put_apart rows _ row behind.rows;
      within = behind.within;
    }

-- a row that isn't new takes no room
pub room_kept : (verdict : RowVerdict) (room : List Cell) → verdict ≢ New
    → room ≡ room_after verdict room
room_kept New room other = absurd (other refl)
room_kept (Newer kept) room other = refl
room_kept Repeated room other = refl
room_kept (Superseded revision) room other = refl
room_kept (Conflict kept) room other = refl

-- a row that is new takes the first place
pub room_taken : (verdict : RowVerdict) (room room' : List Cell) (cell : Cell)
    → MayPutAs verdict room cell → room' ≡ room_after verdict room → verdict ≡ New
    → room ≡ cell ∷ room'
room_taken New room room' cell may is new =
    room_behind room 0 cell may ∙ ap (λ (left : List Cell). cell ∷ left) (sym is)
room_taken (Newer kept) room room' cell may is new = cc new
room_taken Repeated room room' cell may is new = absurd may
room_taken (Superseded revision) room room' cell may is new = absurd may
room_taken (Conflict kept) room room' cell may is new = absurd may

-- a row that came and was put stands behind all others, or in the place of its cell's row
pub arrive_placed : (rows rows' : List Row) (row : Row) (verdict : RowVerdict) →
    IsDistinct same_cell rows → verdict ≡ verdict_of rows row →
    rows' ≡ rows_after rows row → is_put verdict ≡ true → IsPutInto rows row verdict rows'
arrive_placed rows rows' row verdict apart v e h =
    let is : is_put (verdict_of rows row) ≡ true = ap is_put (sym v) ∙ h in
    subst (λ (w : RowVerdict). IsPutInto rows row w rows') (sym v)
    (subst (IsPutInto rows row (verdict_of rows row))
    (put_current rows row apart
    ∙ ap (λ (b : Bool). if b then current_rows (rows ++ row ∷ []) else rows) (sym is) ∙ sym e)
    (placed_settled rows row is))

-- a cell that is there isn't added
pub cell_there : (cells cells' : List Cell) (cell : Cell) (place : ℕ)
    → cells' ≡ with_cell cells cell → Some place ≡ position (cell_eq cell) cells → cells' ≡ cells
cell_there cells cells' cell place e p =
    e ∙ ap (λ (b : Bool). if b then cells
    else cells ++ cell ∷ []) (any-position (cell_eq cell) cells ∙ ap is_some (sym p))

-- and another one comes behind the others
pub cell_added : (cells cells' : List Cell) (cell : Cell) → cells' ≡ with_cell cells cell
    → None ≡ position (cell_eq cell) cells → cells' ≡ cells ++ cell ∷ []
cell_added cells cells' cell e p =
    e ∙ ap (λ (b : Bool). if b then cells
    else cells ++ cell ∷ []) (any-position (cell_eq cell) cells ∙ ap is_some (sym p))

take-first : (cells more : List Cell) (n : ℕ) → n ≤ length cells
    → take n (take n cells ++ more) ≡ take n cells
take-first cells more zero h = refl
take-first [] more (suc n) h = absurd (omega arith)
take-first (c ∷ cells) more (suc n) h =
    ap (λ cells. c ∷ cells) (take-first cells more n (omega arith))

-- The cells without rows were forgotten, and those with rows stay alone.
pub made_none : (cells : List Cell) (stored : List Stored) (before : ℕ) (cells' : List Cell)
    (stored' : List Stored) (capacity : ℕ) →
    IsInStep cells stored before → cells' ≡ take (length stored) cells → stored' ≡ stored →
    before ≤ capacity → RoomMade cells stored cells' stored' capacity []
made_none cells stored before cells' stored' capacity step first_are same ready =
    room_made cells stored before cells' stored' capacity [] step
    (first_are ∙ sym (append-nil (take (length stored) cells))) same
    (omega (arith, step.within, step.ready, ready)) (omega (arith, step.within, step.few))

-- or this one comes behind them
pub made_one : (cells : List Cell) (stored : List Stored) (before : ℕ) (cells' : List Cell)
    (stored' : List Stored) (capacity : ℕ) (cell : Cell) →
    IsInStep cells stored before → cells' ≡ take (length stored) cells ++ cell ∷ [] →
    stored' ≡ stored → length stored + 1 ≤ capacity → length stored + 1 ≤ MOST_CELLS →
    RoomMade cells stored cells' stored' capacity (cell ∷ [])
made_one cells stored before cells' stored' capacity cell step are same ready few =
    room_made cells stored before cells' stored' capacity (cell ∷ []) step are same
    (omega (arith, ready)) (omega (arith, few))

-- which none of them is
pub made_absent : (cells : List Cell) (stored : List Stored) (cells' : List Cell)
    (stored' : List Stored) (cell : Cell) → length stored ≤ length cells →
    cells' ≡ take (length stored) cells ++ cell ∷ [] → stored' ≡ stored →
    list_any (cell_eq cell) (take (length stored) cells) ≡ false →
    list_any (cell_eq cell) (take (length stored') cells') ≡ false
made_absent cells stored cells' stored' cell within are same absent =
    ap (λ (s : List Stored). list_any (cell_eq cell) (take (length s) cells')) same
    ∙ ap (λ (c : List Cell). list_any (cell_eq cell) (take (length stored) c)) are
    ∙ ap (list_any (cell_eq cell)) (take-first cells (cell ∷ []) (length stored) within)
    ∙ absent
