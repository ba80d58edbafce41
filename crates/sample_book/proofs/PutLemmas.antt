-- Where a row stands that was put, and what it counts for.
use Rattle.std.proofs.Common.{◌≡◌, Bool, true, false, cond, refl, sym, subst, ◌∙◌, List, [], ◌∷◌}
use Rattle.std.proofs.Common.{◌++◌, nat_lt, Option, Some, None, if◌then◌else◌}
use Rattle.std.specs.List.{IsDistinct}
use Rattle.slo_terms.specs.Rows.{newer}
use Rattle.cell_index.specs.declared.Cell.{Cell}
use Rattle.sample_book.specs.declared.row.Row.{Row}
use Rattle.sample_book.specs.declared.row.RowVerdict.{RowVerdict}
use Rattle.sample_book.specs.declared.row.RowVerdict.TheVariants.{Newer, Repeated, Superseded}
use Rattle.sample_book.specs.declared.row.RowVerdict.TheVariants.{Conflict}
use Rattle.sample_book.specs.History.{is_put}
use Rattle.sample_book.specs.Puts.{IsPutInto, behind, in_place}
use Rattle.sample_book.specs.Rows.{MayPutAs, cell_of, current_rows, kept_of, same_amount, same_cell}
use Rattle.sample_book.specs.Rows.{verdict_of, verdict_on, verdict_where}
use Rattle.slo_terms.proofs.CurrentLemmas.{settle}
use Rattle.sample_book.proofs.StandingLemmas.{cell_same, put_current}

pub newer_on : (kept row : Row) → is_put (verdict_on kept row) ≡ true
    → nat_lt kept.revision row.revision ≡ true
newer_on kept row h = by (nat_lt kept.revision row.revision) (nat_lt row.revision kept.revision)
    (same_amount kept.amount row.amount) h
  where
    by : (a b d : Bool) → is_put (if a then Newer kept else if b then Superseded kept.revision
        else if d then Repeated else Conflict kept) ≡ true → a ≡ true
    by true b d h = refl
    by false true d h = cc h
    by false false true h = cc h
    by false false false h = cc h

under : (k : Row) (rows rows' : List Row) (row : Row) (verdict : RowVerdict)
    → IsPutInto rows row verdict rows' → IsPutInto (k ∷ rows) row verdict (k ∷ rows')
under k _ _ _ _ (behind rows row) = behind (k ∷ rows) row
under k _ _ _ _ (in_place before after kept row same) = in_place (k ∷ before) after kept row same

pub placed_settled : (rows : List Row) (row : Row) → is_put (verdict_of rows row) ≡ true
    → IsPutInto rows row (verdict_of rows row) (settle same_cell (λ row. row.revision) rows row)
placed_settled [] row h = behind [] row
placed_settled (k ∷ ks) row h = by (same_cell row k) refl h (placed_settled ks row)
  where
    by : (b : Bool) → same_cell row k ≡ b →
        is_put (verdict_where (cond b (Some k) (kept_of ks row)) row) ≡ true →
        (is_put (verdict_of ks row) ≡ true → IsPutInto ks row (verdict_of ks row)
        (settle same_cell (λ row. row.revision) ks row)) →
        IsPutInto (k ∷ ks) row (verdict_where (cond b (Some k) (kept_of ks row)) row)
        (if b then newer (λ (row : Row). row.revision) k row ∷ ks
        else k ∷ settle same_cell (λ row. row.revision) ks row)
    by true e h go =
        let lt = newer_on k row h in
        rw (lt) (in_place [] ks k row (sym (cell_same (cell_of row) (cell_of k) e)))
    by false e h go =
        under k ks (settle same_cell (λ row. row.revision) ks row) row (verdict_of ks row) (go h)

put_is : (kept row : Row) (room : List Cell) → MayPutAs (verdict_on kept row) room (cell_of row)
    → is_put (verdict_on kept row) ≡ true
put_is kept row room h = by (nat_lt kept.revision row.revision) (nat_lt row.revision kept.revision)
    (same_amount kept.amount row.amount) h
  where
    by : (a b d : Bool) → MayPutAs (if a then Newer kept else if b then Superseded kept.revision
        else if d then Repeated else Conflict kept) room (cell_of row) →
        is_put (if a then Newer kept else if b then Superseded kept.revision else if d then Repeated
        else Conflict kept) ≡ true
    by true b d h = refl
    by false true d h = absurd h
    by false false true h = absurd h
    by false false false h = absurd h

-- a row that may be put stands behind all others, or in the place of its cell's row
pub put_placed : (rows rows' : List Row) (row : Row) (room : List Cell) →
    IsDistinct same_cell rows → MayPutAs (verdict_of rows row) room (cell_of row) →
    rows' ≡ current_rows (rows ++ row ∷ []) → IsPutInto rows row (verdict_of rows row) rows'
put_placed rows rows' row room distinct may is =
    subst (IsPutInto rows row (verdict_of rows row)) (put_current rows row distinct ∙ sym is)
    (placed_settled rows row (by (kept_of rows row) may))
  where
    by : (o : Option Row) → MayPutAs (verdict_where o row) room (cell_of row)
        → is_put (verdict_where o row) ≡ true
    by None h = refl
    by (Some kept) h = put_is kept row room h
