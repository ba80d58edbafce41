-- The last row that passes a test, and the index of the rows' cells once a row was put.
use Rattle.std.proofs.Common.{◌≡◌, ◌≢◌, ◌∙◌, ℕ, zero, suc, ◌+◌, ◌-◌, ◌<◌, ◌≤◌, Bool, refl, ap, true}
use Rattle.std.proofs.Common.{false, if◌then◌else◌, sym, arith, List, [], ◌∷◌, ◌++◌, length}
use Rattle.std.proofs.Common.{length-append, map, take, Some}
use Rattle.std.specs.Prelude.{Result, Ok, Err, OnOk, OnErr}
use Rattle.sample_book.specs.History.{MayComeAs, is_put, room_after, rows_after}
use Rattle.sample_book.specs.LastRows.{IsInOrder, IsLastPlace}
use Rattle.cell_index.specs.Chains.{IsIndexed, IsReadyFor, below, last}
use Rattle.sample_book.specs.Puts.{IsPutInto, behind, in_place}
use Rattle.sample_book.specs.Rows.{cell_of, current_rows, room_for, verdict_of}
use Rattle.cell_index.proofs.ChainLemmas.{last-behind, last-passes, last-within, length-few}
use Rattle.cell_index.proofs.ChainLemmas.{ready_fewer}
use Rattle.sample_book.proofs.ArriveLemmas.{room_kept, room_taken}
use Rattle.sample_book.proofs.StandingLemmas.{length-new_cells}
use Rattle.cell_index.specs.declared.Cell.{Cell}
use Rattle.sample_book.specs.declared.row.Row.{Row}
use Rattle.sample_book.specs.declared.row.RowVerdict.{RowVerdict}
use Rattle.sample_book.specs.declared.row.RowVerdict.TheVariants.{New}
use Rattle.cell_index.specs.declared.CellIndex.{CellIndex}

-- the last place of a row is one that passes, with none behind it
pub last_place-is : (p : Row → Bool) (rows : List Row) → IsLastPlace p rows (below (last p rows))
last_place-is p rows = by (last p rows) refl
  where
    by : (n : ℕ) → last p rows ≡ n → IsLastPlace p rows (below n)
    by zero e = λ place row g. last-behind p rows place row (omega (arith, e)) g
    by (suc n) e = (
      λ row g. last-passes p rows n row e g,
      λ place row lt g. last-behind p rows place row (omega (arith, e, lt)) g,
      omega (arith, e, last-within p rows),
    )

-- what is put behind takes the first room, and what takes the place of a row takes none
pub record IsAdded (rows rows' : List Row) (row : Row) (room room' : List Cell) : Type 0 where
  pub grown : rows' ≡ rows ++ row ∷ []
  pub taken : length room ≡ length room' + 1

pub put_added : (rows rows' : List Row) (row : Row) (verdict : RowVerdict) (room room' : List Cell)
    (cell : Cell) → IsPutInto rows row verdict rows' → length rows < length rows' →
    (verdict ≡ New → room ≡ cell ∷ room') → IsAdded rows rows' row room room'
put_added _ _ _ _ room room' cell (behind rows row) h new = record {
  grown = refl;
  taken = ap length (new refl) ∙ omega arith;
}
put_added _ _ _ _ room room' cell (in_place before after kept row same) h new = absurd
    (omega (arith, h, length-append before (kept ∷ after), length-append before (row ∷ after)))

-- what takes the place of a row is of its cell
pub record IsReplaced (rows rows' : List Row) (verdict : RowVerdict) : Type 0 where
  pub cells : map cell_of rows' ≡ map cell_of rows
  pub newer : verdict ≢ New

pub put_replaced : (rows rows' : List Row) (row : Row) (verdict : RowVerdict)
    → IsPutInto rows row verdict rows' → length rows' ≤ length rows → IsReplaced rows rows' verdict
put_replaced _ _ _ _ (behind rows row) h = absurd (omega (arith, h, length-append rows (row ∷ [])))
put_replaced _ _ _ _ (in_place before after kept row same) h = record {
  cells = swapped before after kept row (sym same);
  newer = λ e. cc e;
}
  where
    swapped : (before after : List Row) (kept row : Row) → cell_of row ≡ cell_of kept
        → map cell_of (before ++ row ∷ after) ≡ map cell_of (before ++ kept ∷ after)
    swapped [] after kept row e = ap (λ (cell : Cell). cell ∷ map cell_of after) e
    swapped (b ∷ before) after kept row e =
        ap (λ cells. cell_of b ∷ cells) (swapped before after kept row e)

-- A row that comes where the rows get more stands behind them.
pub came_added : (rows rows' : List Row) (row : Row) (room room' : List Cell) →
    (is_put (verdict_of rows row) ≡ true → IsPutInto rows row (verdict_of rows row) rows') →
    rows' ≡ rows_after rows row → room' ≡ room_after (verdict_of rows row) room →
    MayComeAs (verdict_of rows row) room (cell_of row) → length rows < length rows' →
    IsAdded rows rows' row room room'
came_added rows rows' row room room' placed came roomy may longer =
    by (is_put (verdict_of rows row)) refl
  where
    by : (b : Bool) → is_put (verdict_of rows row) ≡ b → IsAdded rows rows' row room room'
    by true is = put_added rows rows' row (verdict_of rows row) room room' (cell_of row)
        (placed is) longer
        (room_taken (verdict_of rows row) room room' (cell_of row) (may is) roomy)
    by false is =
        let same : rows' ≡ rows = came
        ∙ ap (λ (b : Bool). if b then current_rows (rows ++ row ∷ []) else rows) is in
        absurd (omega (arith, longer, ap length same))

-- else the cells and the room stay
pub record AreStill (rows rows' : List Row) (room room' : List Cell) : Type 0 where
  pub cells : map cell_of rows' ≡ map cell_of rows
  pub places : room' ≡ room

pub came_still : (rows rows' : List Row) (row : Row) (room room' : List Cell) →
    (is_put (verdict_of rows row) ≡ true → IsPutInto rows row (verdict_of rows row) rows') →
    rows' ≡ rows_after rows row → room' ≡ room_after (verdict_of rows row) room →
    length rows' ≤ length rows → AreStill rows rows' room room'
came_still rows rows' row room room' placed came roomy few =
    by (is_put (verdict_of rows row)) refl
  where
    by : (b : Bool) → is_put (verdict_of rows row) ≡ b → AreStill rows rows' room room'
    by true is =
        let put = put_replaced rows rows' row (verdict_of rows row) (placed is) few in
        record {
          cells = put.cells;
          places = roomy ∙ sym (room_kept (verdict_of rows row) room put.newer);
        }
    by false is = record {
      cells = ap (map cell_of) (came
          ∙ ap (λ (b : Bool). if b then current_rows (rows ++ row ∷ []) else rows) is);
      places = roomy ∙ sym (room_kept (verdict_of rows row) room
          (λ new. cc (is, ap is_put new)));
    }

pub in_order : (rows : List Row) (room : List Cell) (index : CellIndex) (count : ℕ)
    → length room ≤ count → IsIndexed (map cell_of rows) index → IsReadyFor count index
    → IsInOrder rows room index
in_order rows room index count h indexed ready = record {
  indexed = indexed;
  ready = ready_fewer count (length room) index h ready;
}

pub below-suc : (link : ℕ) → 0 < link → Some (link - 1) ≡ below link
below-suc zero h = absurd (omega (arith, h))
below-suc (suc n) h = ap Some (omega arith)

-- room that was made for rows is at most a place for each
pub room_few : {A E : Type 0} (result : Result A E) (room : List Cell) (rows came : List Row)
    → OnOk result (room ≡ room_for rows came) → OnErr result (room ≡ []) → length room ≤ length came
room_few (Ok a) room rows came ok err =
    omega (arith, ap length ok, length-new_cells (map cell_of rows) came)
room_few (Err e) room rows came ok err = omega (arith, ap length err)

pub last_below : (p : Row → Bool) (rows : List Row) (place next : ℕ)
    → next ≡ last p (take place rows) → next ≤ place
last_below p rows place next e = omega (
  arith,
  e,
  last-within p (take place rows),
  length-few place rows,
)
