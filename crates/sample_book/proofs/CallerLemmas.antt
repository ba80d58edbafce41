-- What a caller of the book cites.
use Rattle.std.proofs.Common.{◌≡◌, List, [], ◌∷◌, Bool, true, false, cond, not, ◌||◌, refl, ap}
use Rattle.std.proofs.Common.{Option, Some, None, map}
use Rattle.std.specs.List.{find, list_any}
use Rattle.slo_terms.specs.Rows.{first_of_each}
use Rattle.sample_book.specs.declared.row.Row.{Row}
use Rattle.sample_book.specs.declared.row.RowVerdict.TheVariants.{New}
use Rattle.sample_book.specs.Rows.{cell_of, same_cell, kept_of, verdict_where, verdict_of}
use Rattle.cell_index.specs.Cells.{cell_eq}
use Rattle.sample_book.specs.Rows.{room_for}
use Rattle.sample_book.proofs.StandingLemmas.{newer_verdict}

pub no_cell : (row : Row) (rows : List Row) → find (same_cell row) rows ≡ None
    → list_any (cell_eq (cell_of row)) (map cell_of rows) ≡ false
no_cell row [] h = refl
no_cell row (r ∷ rs) h = by (same_cell row r) h (no_cell row rs)
  where
    by : (b : Bool) → cond b (Some r) (find (same_cell row) rs) ≡ None → (find (same_cell row) rs
        ≡ None → list_any (cell_eq (cell_of row)) (map cell_of rs) ≡ false) →
        (b || list_any (cell_eq (cell_of row)) (map cell_of rs)) ≡ false
    by true h go = cc h
    by false h go = go h

-- Room that is made for a row that is new is room for its cell.
pub room_for-new : (rows : List Row) (row : Row) → verdict_of rows row ≡ New
    → room_for rows (row ∷ []) ≡ cell_of row ∷ []
room_for-new rows row new = by (kept_of rows row) refl new
  where
    by : (o : Option Row) → kept_of rows row ≡ o → verdict_where o row ≡ New
        → room_for rows (row ∷ []) ≡ cell_of row ∷ []
    by None e h =
        ap (λ (b : Bool). map cell_of (first_of_each same_cell (cond (not b) (row ∷ []) [])))
        (no_cell row rows e)
    by (Some kept) e h = absurd (newer_verdict kept row h)
