-- A book is what came: its rows, exclusions and liftings over everything that ever came.
use Rattle.std.proofs.Common.{◌≡◌, ℕ, List, [], ◌∷◌, ◌++◌, Bool, true, false, refl, ap, sym, ◌∙◌}
use Rattle.std.proofs.Common.{subst, None, if◌then◌else◌}
use Rattle.sample_book.specs.declared.exclusions.Exclusion.{Exclusion}
use Rattle.cell_index.specs.declared.Cell.{Cell}
use Rattle.sample_book.specs.declared.row.Row.{Row}
use Rattle.sample_book.specs.declared.row.RowVerdict.{RowVerdict}
use Rattle.sample_book.specs.declared.row.RowVerdict.TheVariants.{New, Newer, Repeated, Superseded}
use Rattle.sample_book.specs.declared.row.RowVerdict.TheVariants.{Conflict}
use Rattle.sample_book.specs.Book.{Book}
use Rattle.sample_book.specs.Exclusions.{Change, Excluded, Lifted, exclusion_of, is_excluded}
use Rattle.sample_book.specs.Exclusions.{is_excluded_in, IsLive, after_lifting}
use Rattle.sample_book.specs.History.{Arrival, Came, Changed, Gains, Holds, empty, put, passed}
use Rattle.sample_book.specs.History.{excluded, lifted_one, changes_in, exclusions_of, is_put}
use Rattle.sample_book.specs.History.{rows_after, rows_in}
use Rattle.sample_book.specs.Rows.{MayPutAs, current_rows, verdict_of}
use Rattle.sample_book.proofs.CameLemmas.{put-current, pass-current}
use Rattle.sample_book.proofs.ExclusionLemmas as shapes
use Rattle.sample_book.proofs.ExclusionLemmas.{Made, is_excluded-made, shape}

rows-came : (arrivals : List Arrival) (row : Row)
    → rows_in (arrivals ++ Came row ∷ []) ≡ rows_in arrivals ++ row ∷ []
rows-came [] row = refl
rows-came (Came r ∷ arrivals) row = ap (λ rows. r ∷ rows) (rows-came arrivals row)
rows-came (Changed change ∷ arrivals) row = rows-came arrivals row

rows-changed : (arrivals : List Arrival) (change : Change)
    → rows_in (arrivals ++ Changed change ∷ []) ≡ rows_in arrivals
rows-changed [] change = refl
rows-changed (Came r ∷ arrivals) change = ap (λ rows. r ∷ rows) (rows-changed arrivals change)
rows-changed (Changed other ∷ arrivals) change = rows-changed arrivals change

changes-came : (arrivals : List Arrival) (row : Row)
    → changes_in (arrivals ++ Came row ∷ []) ≡ changes_in arrivals
changes-came [] row = refl
changes-came (Came r ∷ arrivals) row = changes-came arrivals row
changes-came (Changed change ∷ arrivals) row =
    ap (λ changes. change ∷ changes) (changes-came arrivals row)

changes-changed : (arrivals : List Arrival) (change : Change)
    → changes_in (arrivals ++ Changed change ∷ []) ≡ changes_in arrivals ++ change ∷ []
changes-changed [] change = refl
changes-changed (Came r ∷ arrivals) change = changes-changed arrivals change
changes-changed (Changed other ∷ arrivals) change =
    ap (λ changes. other ∷ changes) (changes-changed arrivals change)

-- A book's rows are the current rows of all that came.
pub rows-held : (arrivals : List Arrival) (rows : List Row) (made : List (Exclusion × Bool))
    → Holds arrivals rows made → rows ≡ current_rows (rows_in arrivals)
rows-held _ _ _ empty = refl
rows-held _ _ _ (put {arrivals = arrivals} {rows = rows} {made = made} row before is) =
    let e = rows-held arrivals rows made before in
    ap (λ rows. current_rows (rows ++ row ∷ [])) e ∙ put-current (rows_in arrivals) row
    ∙ ap current_rows (sym (rows-came arrivals row))
rows-held _ _ _ (passed {arrivals = arrivals} {rows = rows} {made = made} row before is) =
    let e = rows-held arrivals rows made before in
    e ∙ sym (pass-current (rows_in arrivals)
    row (subst (λ rows. is_put (verdict_of rows row) ≡ false) e is))
    ∙ ap current_rows (sym (rows-came arrivals row))
rows-held _ _ _ (excluded {arrivals = arrivals} {rows = rows} {made = made} value before unused) =
    rows-held arrivals rows made before
    ∙ ap current_rows (sym (rows-changed arrivals (Excluded value)))
rows-held _ _ _ (lifted_one {arrivals = arrivals} {rows = rows} {made = made} id before live) =
    rows-held arrivals rows made before ∙ ap current_rows (sym (rows-changed arrivals (Lifted id)))

-- and its exclusions are those of the exclusions and liftings among the arrivals
pub made-held : (arrivals : List Arrival) (rows : List Row) (made : List (Exclusion × Bool))
    → Holds arrivals rows made → Made (changes_in arrivals) made
made-held _ _ _ empty = shapes.none
made-held _ _ _ (put {arrivals = arrivals} {rows = rows} {made = made} row before is) =
    subst (λ (changes : List Change). Made changes made) (sym (changes-came arrivals row))
    (made-held arrivals rows made before)
made-held _ _ _ (passed {arrivals = arrivals} {rows = rows} {made = made} row before is) =
    subst (λ (changes : List Change). Made changes made) (sym (changes-came arrivals row))
    (made-held arrivals rows made before)
made-held _ _ _ (excluded {arrivals = arrivals} {rows = rows} {made = made} value before unused) =
    subst (λ (changes : List Change). Made changes (made ++ (value, true) ∷ []))
    (sym (changes-changed arrivals (Excluded value)))
    (shapes.excluded value (made-held arrivals rows made before) unused)
made-held _ _ _ (lifted_one {arrivals = arrivals} {rows = rows} {made = made} id before live) =
    subst (λ (changes : List Change). Made changes (after_lifting made id))
    (sym (changes-changed arrivals (Lifted id)))
    (shapes.lifted_one id (made-held arrivals rows made before) live)

pub exclusions-held : (arrivals : List Arrival) (rows : List Row) (made : List (Exclusion × Bool))
    → Holds arrivals rows made → made ≡ exclusions_of (changes_in arrivals)
exclusions-held arrivals rows made h =
    (shape (changes_in arrivals) made (made-held arrivals rows made h)).flags

pub excluded-held : (arrivals : List Arrival) (rows : List Row) (made : List (Exclusion × Bool))
    (slo : List ℕ) (minute : ℕ) → Holds arrivals rows made →
    is_excluded made slo minute ≡ is_excluded_in (changes_in arrivals) slo minute
excluded-held arrivals rows made slo minute h =
    is_excluded-made (changes_in arrivals) made slo minute (made-held arrivals rows made h)

pub may-put : (verdict : RowVerdict) (room : List Cell) (cell : Cell) → MayPutAs verdict room cell
    → is_put verdict ≡ true
may-put New room cell h = refl
may-put (Newer kept) room cell h = refl
may-put Repeated room cell h = absurd h
may-put (Superseded revision) room cell h = absurd h
may-put (Conflict kept) room cell h = absurd h

-- What the book's calls do to its history.
pub gains-came : (before after : Book) (row : Row) → after.rows ≡ rows_after before.rows row
    → after.exclusions ≡ before.exclusions → Gains before (Came row) after
gains-came before after row e f arrivals h =
    subst (λ (rows : List Row). Holds (arrivals ++ Came row ∷ []) rows after.exclusions) (sym e)
    (subst (λ (made : List (Exclusion × Bool)).
    Holds (arrivals ++ Came row ∷ []) (rows_after before.rows row) made) (sym f)
    (by (is_put (verdict_of before.rows row)) refl))
  where
    by : (b : Bool) → is_put (verdict_of before.rows row) ≡ b →
        Holds (arrivals ++ Came row ∷ [])
        (if b then current_rows (before.rows ++ row ∷ []) else before.rows) before.exclusions
    by true is = put row h is
    by false is = passed row h is

pub gains-excluded : (before after : Book) (value : Exclusion) →
    exclusion_of before.exclusions value.id ≡ None →
    after.exclusions ≡ before.exclusions ++ (value, true) ∷ [] → after.rows ≡ before.rows →
    Gains before (Changed (Excluded value)) after
gains-excluded before after value unused e f arrivals h =
    subst (λ (rows : List Row).
    Holds (arrivals ++ Changed (Excluded value) ∷ []) rows after.exclusions) (sym f)
    (subst (λ (made : List (Exclusion × Bool)). Holds (arrivals ++ Changed (Excluded value) ∷ [])
    before.rows made) (sym e) (excluded value h unused))

pub gains-lifted : (before after : Book) (id : List ℕ) → IsLive before.exclusions id →
    after.exclusions ≡ after_lifting before.exclusions id → after.rows ≡ before.rows →
    Gains before (Changed (Lifted id)) after
gains-lifted before after id live e f arrivals h =
    subst (λ (rows : List Row). Holds (arrivals ++ Changed (Lifted id) ∷ []) rows after.exclusions)
    (sym f)
    (subst (λ (made : List (Exclusion × Bool)).
    Holds (arrivals ++ Changed (Lifted id) ∷ []) before.rows made) (sym e) (lifted_one id h live))

pub holds-empty : (rows : List Row) (made : List (Exclusion × Bool)) → rows ≡ [] → made ≡ []
    → Holds [] rows made
holds-empty rows made e f =
    subst (λ (rows : List Row). Holds [] rows made) (sym e)
    (subst (λ (made : List (Exclusion × Bool)). Holds [] [] made) (sym f) empty)
