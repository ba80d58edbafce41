-- Room that was made for a batch of rows is enough for them.
use Rattle.std.proofs.Common.{◌≡◌, List, [], ◌∷◌, ◌++◌, Bool, true, false, cond, if◌then◌else◌, not}
use Rattle.std.proofs.Common.{◌&&◌, ◌||◌, nat_lt, refl, ap, sym, ◌∙◌, subst, map, filter, Option}
use Rattle.std.proofs.Common.{Some, None}
use Rattle.std.specs.List.{find, list_any, IsDistinct}
use Rattle.std.proofs.lemmas.List.{map-append}
use Rattle.slo_terms.specs.Rows.{newer, first_of_each}
use Rattle.cell_index.specs.declared.Cell.{Cell}
use Rattle.sample_book.specs.declared.row.Row.{Row}
use Rattle.sample_book.specs.declared.row.RowVerdict.{RowVerdict}
use Rattle.sample_book.specs.declared.row.RowVerdict.TheVariants.{New, Newer, Repeated, Superseded}
use Rattle.sample_book.specs.declared.row.RowVerdict.TheVariants.{Conflict}
use Rattle.sample_book.specs.History.{MayComeAll, MayComeAs, is_put, room_after}
use Rattle.sample_book.specs.Rows.{cell_of, same_cell, current_rows, kept_of, new_cells}
use Rattle.cell_index.specs.Cells.{cell_eq}
use Rattle.sample_book.specs.Rows.{room_for, same_amount, verdict_of, verdict_on, verdict_where}
use Rattle.sample_book.proofs.CallerLemmas.{no_cell}
use Rattle.slo_terms.proofs.CurrentLemmas.{settle, settle-new, current-distinct}
use Rattle.sample_book.proofs.StandingLemmas.{cell_laws, cell_same, list_any-append, put_current}

filter-both : {A : Type 0} (p q : A → Bool) (xs : List A)
    → filter p (filter q xs) ≡ filter (λ x. q x && p x) xs
filter-both p q [] = refl
filter-both p q (x ∷ xs) = by (q x) (p x) refl (filter-both p q xs)
  where
    by : (a b : Bool) → p x ≡ b → filter p (filter q xs) ≡ filter (λ x. q x && p x) xs →
        filter p (cond a (x ∷ filter q xs) (filter q xs))
        ≡ cond (a && b) (x ∷ filter (λ x. q x && p x) xs) (filter (λ x. q x && p x) xs)
    by true true e rest = rw e (ap (λ ys. x ∷ ys) rest)
    by true false e rest = rw e rest
    by false b e rest = rest

and-turned : (a b : Bool) → (a && b) ≡ (b && a)
and-turned true true = refl
and-turned true false = refl
and-turned false true = refl
and-turned false false = refl

and-twice : (a : Bool) → (a && a) ≡ a
and-twice true = refl
and-twice false = refl

-- the rows of other cells than this one's
abbrev others : Row → List Row → List Row
others row = filter (λ later. not (same_cell row later))

others-turned : (one other : Row) (rows : List Row)
    → others one (others other rows) ≡ others other (others one rows)
others-turned one other rows =
    filter-both (λ later. not (same_cell one later)) (λ later. not (same_cell other later)) rows
    ∙ ap (λ p. filter p rows)
    (λ i x. and-turned (not (same_cell other x)) (not (same_cell one x)) i)
    ∙ sym (filter-both (λ later. not (same_cell other later))
    (λ later. not (same_cell one later)) rows)

others-twice : (one other : Row) (rows : List Row) → same_cell one other ≡ true
    → others one (others other rows) ≡ others one rows
others-twice one other rows h =
    ap (λ p. others one (filter p rows)) (λ i x. not (sym (cell_laws.congr one other x h) i))
    ∙ filter-both (λ later. not (same_cell one later)) (λ later. not (same_cell one later)) rows
    ∙ ap (λ p. filter p rows) (λ i x. and-twice (not (same_cell one x)) i)

first-others : (row : Row) (rows : List Row)
    → first_of_each same_cell (others row rows) ≡ others row (first_of_each same_cell rows)
first-others row [] = refl
first-others row (r ∷ rs) = by (same_cell row r) refl (first-others row rs)
  where
    by : (b : Bool) → same_cell row r ≡ b →
        first_of_each same_cell (others row rs) ≡ others row (first_of_each same_cell rs) →
        first_of_each same_cell (cond (not b) (r ∷ others row rs) (others row rs))
        ≡ cond (not b) (r ∷ others row (others r (first_of_each same_cell rs)))
        (others row (others r (first_of_each same_cell rs)))
    by true e rest = rest ∙ sym (others-twice row r (first_of_each same_cell rs) e)
    by false e rest = ap (λ rows. r ∷ others r rows) rest
        ∙ ap (λ rows. r ∷ rows) (others-turned r row (first_of_each same_cell rs))

-- a row of a cell that isn't there gives it the first room
new_cells-new : (cells : List Cell) (row : Row) (came : List Row) →
    list_any (cell_eq (cell_of row)) cells ≡ false →
    new_cells cells (row ∷ came) ≡ cell_of row ∷ new_cells (cells ++ cell_of row ∷ []) came
new_cells-new cells row came h =
    rw h (ap (λ rows. cell_of row ∷ map cell_of rows) (
    sym (first-others row (filter (λ row. not (list_any (cell_eq (cell_of row)) cells)) came))
    ∙ ap (first_of_each same_cell) (filter-both (λ later. not (same_cell row later))
    (λ row. not (list_any (cell_eq (cell_of row)) cells)) came
    ∙ ap (λ p. filter p came) (λ i x. apart x i))))
  where
    both : (a b c : Bool) → b ≡ c → (not a && not b) ≡ not (a || (c || false))
    both true b c e = refl
    both false true true e = refl
    both false true false e = cc e
    both false false true e = cc e
    both false false false e = refl

    apart : (x : Row) → (not (list_any (cell_eq (cell_of x)) cells) && not (same_cell row x))
        ≡ not (list_any (cell_eq (cell_of x)) (cells ++ cell_of row ∷ []))
    apart x =
        both (list_any (cell_eq (cell_of x)) cells) (same_cell row x)
        (cell_eq (cell_of x) (cell_of row)) (cell_laws.symm row x)
        ∙ ap not (sym (list_any-append (cell_eq (cell_of x)) cells (cell_of row ∷ [])))

-- a row of a cell that is there gives none
new_cells-old : (cells : List Cell) (row : Row) (came : List Row)
    → list_any (cell_eq (cell_of row)) cells ≡ true
    → new_cells cells (row ∷ came) ≡ new_cells cells came
new_cells-old cells row came h = rw h refl

any-kept : (row kept : Row) (rows : List Row) → find (same_cell row) rows ≡ Some kept
    → list_any (cell_eq (cell_of row)) (map cell_of rows) ≡ true
any-kept row kept [] e = cc e
any-kept row kept (r ∷ rs) e = by (same_cell row r) e (any-kept row kept rs)
  where
    by : (b : Bool) → cond b (Some r) (find (same_cell row) rs) ≡ Some kept →
        (find (same_cell row) rs ≡ Some kept
        → list_any (cell_eq (cell_of row)) (map cell_of rs) ≡ true) →
        (b || list_any (cell_eq (cell_of row)) (map cell_of rs)) ≡ true
    by true e go = refl
    by false e go = go e

none-kept : (row : Row) (rows : List Row) → find (same_cell row) rows ≡ None
    → list_any (same_cell row) rows ≡ false
none-kept row [] e = refl
none-kept row (r ∷ rs) e = by (same_cell row r) e (none-kept row rs)
  where
    by : (b : Bool) → cond b (Some r) (find (same_cell row) rs) ≡ None
        → (find (same_cell row) rs ≡ None → list_any (same_cell row) rs ≡ false)
        → (b || list_any (same_cell row) rs) ≡ false
    by true e go = cc e
    by false e go = go e

-- a row that settles in its cell's place changes no cell
settle-cells : (row kept : Row) (rows : List Row) → find (same_cell row) rows ≡ Some kept
    → map cell_of (settle same_cell (λ row. row.revision) rows row) ≡ map cell_of rows
settle-cells row kept [] e = cc e
settle-cells row kept (r ∷ rs) e = by (same_cell row r) refl e (settle-cells row kept rs)
  where
    cell-newer : (b : Bool) → cell_of row ≡ cell_of r → cell_of (cond b row r) ≡ cell_of r
    cell-newer true e = e
    cell-newer false e = refl

    by : (b : Bool) → same_cell row r ≡ b → cond b (Some r) (find (same_cell row) rs) ≡ Some kept →
        (find (same_cell row) rs ≡ Some kept
        → map cell_of (settle same_cell (λ row. row.revision) rs row) ≡ map cell_of rs) →
        map cell_of (if b then newer (λ (row : Row). row.revision) r row ∷ rs
        else r ∷ settle same_cell (λ row. row.revision) rs row) ≡ cell_of r ∷ map cell_of rs
    by true h e go = ap (λ cell. cell ∷ map cell_of rs)
        (cell-newer (nat_lt r.revision row.revision) (cell_same (cell_of row) (cell_of r) h))
    by false h e go = ap (λ cells. cell_of r ∷ cells) (go e)

cells-newer : (row kept : Row) (rows : List Row) → IsDistinct same_cell rows
    → find (same_cell row) rows ≡ Some kept
    → map cell_of (current_rows (rows ++ row ∷ [])) ≡ map cell_of rows
cells-newer row kept rows apart e = ap (map cell_of) (sym (put_current rows row apart))
    ∙ settle-cells row kept rows e

cells-new : (row : Row) (rows : List Row) → IsDistinct same_cell rows → find (same_cell row) rows
    ≡ None → map cell_of (current_rows (rows ++ row ∷ [])) ≡ map cell_of rows ++ cell_of row ∷ []
cells-new row rows apart e =
    ap (map cell_of) (sym (put_current rows row apart)
    ∙ settle-new same_cell (λ row. row.revision) cell_laws rows row (none-kept row rows e))
    ∙ map-append cell_of rows (row ∷ [])

comes : (rows came : List Row) → IsDistinct same_cell rows
    → MayComeAll rows (room_for rows came) came
comes rows [] apart = tt
comes rows (row ∷ came) apart = by (kept_of rows row) refl (λ rows apart. comes rows came apart)
  where
    Goes : Type 0
    Goes = (rows : List Row) → IsDistinct same_cell rows → MayComeAll rows (room_for rows came) came

    next : List Row
    next = current_rows (rows ++ row ∷ [])

    Comes : RowVerdict → List Cell → Type 0
    Comes v room = MayComeAs v room (cell_of row)
        × MayComeAll (if is_put v then next else rows) (room_after v room) came

    next-apart : IsDistinct same_cell next
    next-apart = current-distinct same_cell (λ row. row.revision) cell_laws (rows ++ row ∷ [])

    by_kept : Goes → (kept : Row) (a b d : Bool) → find (same_cell row) rows ≡ Some kept →
        Comes (if a then Newer kept else if b then Superseded kept.revision else if d then Repeated
        else Conflict kept) (room_for rows came)
    by_kept go kept true b d e = (
      λ is. tt,
      subst (λ (cells : List Cell). MayComeAll next (new_cells cells came) came)
          (cells-newer row kept rows apart e) (go next next-apart),
    )
    by_kept go kept false true d e = (λ is. cc is, go rows apart)
    by_kept go kept false false true e = (λ is. cc is, go rows apart)
    by_kept go kept false false false e = (λ is. cc is, go rows apart)

    by : (o : Option Row) → kept_of rows row ≡ o → Goes
        → Comes (verdict_of rows row) (room_for rows (row ∷ came))
    by None e go =
        subst (λ (o : Option Row). Comes (verdict_where o row) (room_for rows (row ∷ came))) (sym e)
        (subst (λ (room : List Cell). Comes New room)
        (sym (new_cells-new (map cell_of rows) row came (no_cell row rows e))) (
          λ is. refl,
          subst (λ (cells : List Cell). MayComeAll next (new_cells cells came) came)
              (cells-new row rows apart e) (go next next-apart),
        ))
    by (Some kept) e go =
        subst (λ (o : Option Row). Comes (verdict_where o row) (room_for rows (row ∷ came))) (sym e)
        (subst (λ (room : List Cell). Comes (verdict_on kept row) room)
        (sym (new_cells-old (map cell_of rows) row came (any-kept row kept rows e)))
        (by_kept go kept (nat_lt kept.revision row.revision) (nat_lt row.revision kept.revision)
        (same_amount kept.amount row.amount) e))

-- Room that was made for rows is enough for them, one after another.
pub room-enough : (rows came : List Row)
    → MayComeAll (current_rows rows) (room_for (current_rows rows) came) came
room-enough rows came =
    comes (current_rows rows) came (current-distinct same_cell (λ row. row.revision) cell_laws rows)
