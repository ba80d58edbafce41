-- The book's rows are the current ones of all rows that came.
use Rattle.std.proofs.Common.{◌≡◌, List, [], ◌∷◌, ◌++◌, Bool, true, false, refl, ap, sym, ◌∙◌, fold}
use Rattle.std.proofs.Common.{nat_lt, if◌then◌else◌, Option, Some, None, append_assoc}
use Rattle.std.proofs.lemmas.List.{append-nil}
use Rattle.sample_book.specs.declared.row.Row.{Row}
use Rattle.sample_book.specs.declared.row.RowVerdict.TheVariants.{Newer, Repeated, Superseded}
use Rattle.sample_book.specs.declared.row.RowVerdict.TheVariants.{Conflict}
use Rattle.sample_book.specs.Rows.{same_cell, current_rows, kept_of, same_amount, verdict_on}
use Rattle.sample_book.specs.Rows.{verdict_where, verdict_of}
use Rattle.sample_book.specs.History.{is_put, rows_after}
use Rattle.slo_terms.proofs.CurrentLemmas.{settle, settle-kept, current-push, current-step}
use Rattle.sample_book.proofs.StandingLemmas.{cell_laws}

-- A row that is put over the current rows of those before it leaves the current rows of all.
pub put-current : (came : List Row) (row : Row)
    → current_rows (current_rows came ++ row ∷ []) ≡ current_rows (came ++ row ∷ [])
put-current came row = current-step same_cell (λ row. row.revision) cell_laws came row

not_newer : (kept row : Row) → is_put (verdict_on kept row) ≡ false
    → nat_lt kept.revision row.revision ≡ false
not_newer kept row h = by (nat_lt kept.revision row.revision) (nat_lt row.revision kept.revision)
    (same_amount kept.amount row.amount) h
  where
    by : (a b d : Bool) → is_put (if a then Newer kept else if b then Superseded kept.revision
        else if d then Repeated else Conflict kept) ≡ false → a ≡ false
    by true b d h = cc h
    by false b d h = refl

-- A row that isn't put changes no current row.
pub pass-current : (came : List Row) (row : Row) → is_put (verdict_of (current_rows came) row)
    ≡ false → current_rows (came ++ row ∷ []) ≡ current_rows came
pass-current came row h = current-push same_cell (λ row. row.revision) cell_laws came row
    ∙ by (kept_of (current_rows came) row) refl h
  where
    by : (o : Option Row) → kept_of (current_rows came) row ≡ o → is_put (verdict_where o row)
        ≡ false → settle same_cell (λ row. row.revision) (current_rows came) row ≡ current_rows came
    by None e h = cc h
    by (Some kept) e h = settle-kept same_cell (λ row. row.revision) cell_laws (current_rows came)
        row kept e (not_newer kept row h)

-- so each row that comes leaves the current rows of all that came
pub after-current : (came : List Row) (row : Row)
    → rows_after (current_rows came) row ≡ current_rows (came ++ row ∷ [])
after-current came row = by (is_put (verdict_of (current_rows came) row)) refl
  where
    by : (b : Bool) → is_put (verdict_of (current_rows came) row) ≡ b →
        (if b then current_rows (current_rows came ++ row ∷ []) else current_rows came)
        ≡ current_rows (came ++ row ∷ [])
    by true e = put-current came row
    by false e = sym (pass-current came row e)

fold-current : (before came : List Row)
    → fold rows_after (current_rows before) came ≡ current_rows (before ++ came)
fold-current before [] = ap current_rows (sym (append-nil before))
fold-current before (row ∷ came) =
    ap (λ rows. fold rows_after rows came) (after-current before row)
    ∙ fold-current (before ++ row ∷ []) came
    ∙ ap current_rows (append_assoc before (row ∷ []) came)

-- After any list of rows came, of which those that are new or newer were put, the book's rows are
-- the current rows of all of them.
pub came-current : (came : List Row) → fold rows_after [] came ≡ current_rows came
came-current came = fold-current [] came

-- After any list of puts the book's rows are the current rows of the rows that were put.
pub puts-current : (puts : List Row)
    → fold (λ rows row. current_rows (rows ++ row ∷ [])) [] puts ≡ current_rows puts
puts-current puts = from [] puts
  where
    from : (before puts : List Row)
        → fold (λ rows row. current_rows (rows ++ row ∷ [])) (current_rows before) puts
        ≡ current_rows (before ++ puts)
    from before [] = ap current_rows (sym (append-nil before))
    from before (row ∷ puts) =
        ap (λ rows. fold (λ rows row. current_rows (rows ++ row ∷ [])) rows puts)
        (put-current before row)
        ∙ from (before ++ row ∷ []) puts
        ∙ ap current_rows (append_assoc before (row ∷ []) puts)
