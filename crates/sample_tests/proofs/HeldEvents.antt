-- Rows of events stay rows of events where one more is put.
use Rattle.std.proofs.Common.{◌≡◌, ℕ, ◌+◌, ◌≤◌, arith, sym, subst, List, [], ◌∷◌, ◌++◌, length}
use Rattle.std.proofs.Common.{length-append, true}
use Rattle.std.specs.List.{All, AllByRecursion}
use Rattle.std.proofs.lemmas.List.Elements.{All-from_recursion}
use Rattle.slice_method.specs.declared.Reading.TheVariants.{Good}
use Rattle.slice_method.specs.Readings.{HasForm}
use Rattle.sample_book.specs.Counting.{HaveForm, is_of}
use Rattle.sample_book.specs.History.{MayComeAll}
use Rattle.sample_book.specs.Puts.{IsPutInto, behind, in_place}
use Rattle.sample_book.specs.Rows.{current_rows, room_for}
use Rattle.cell_index.specs.declared.Cell.{Cell}
use Rattle.sample_book.specs.declared.Row.{Row}
use Rattle.sample_book.specs.declared.RowVerdict.{RowVerdict}
use Rattle.sample_tests.specs.Events.{HasEvents}

held_behind : (rows : List Row) (row : Row) → AllByRecursion HasEvents rows → HasEvents row
    → AllByRecursion HasEvents (rows ++ row ∷ [])
held_behind [] row held own = (own, tt)
held_behind (r ∷ rows) row held own = (held.0, held_behind rows row held.1 own)

held_in_place : (before after : List Row) (kept row : Row)
    → AllByRecursion HasEvents (before ++ kept ∷ after) → HasEvents row
    → AllByRecursion HasEvents (before ++ row ∷ after)
held_in_place [] after kept row held own = (own, held.1)
held_in_place (r ∷ before) after kept row held own =
    (held.0, held_in_place before after kept row held.1 own)

pub held_put : (rows rows' : List Row) (row : Row) (verdict : RowVerdict)
    → IsPutInto rows row verdict rows' → AllByRecursion HasEvents rows → HasEvents row
    → AllByRecursion HasEvents rows'
held_put _ _ _ _ (behind rows row) held own = held_behind rows row held own
held_put _ _ _ _ (in_place before after kept row same) held own =
    held_in_place before after kept row held own

pub few_put : (rows rows' : List Row) (row : Row) (verdict : RowVerdict)
    → IsPutInto rows row verdict rows' → length rows' ≤ length rows + 1
few_put _ _ _ _ (behind rows row) = omega (arith, length-append rows (row ∷ []))
few_put _ _ _ _ (in_place before after kept row same) =
    omega (arith, length-append before (kept ∷ after), length-append before (row ∷ after))

-- room that was made for a batch over current rows lets all of it come
pub may_come : (rows rows' : List Row) (room : List Cell) (came : List Row) →
    current_rows rows ≡ rows → rows' ≡ rows → room ≡ room_for rows came →
    MayComeAll (current_rows rows) (room_for (current_rows rows) came) came →
    MayComeAll rows' room came
may_come rows rows' room came current same made may =
    subst (λ (room : List Cell). MayComeAll rows' room came) (sym made)
    (subst (λ (kept : List Row). MayComeAll kept (room_for rows came) came) (sym same)
    (subst (λ (kept : List Row). MayComeAll kept (room_for kept came) came) current may))

-- each of them can be read as good of a total, at any minute
pub have_form : (rows : List Row) (sli : List ℕ) (minute : ℕ) → AllByRecursion HasEvents rows
    → HaveForm Good rows sli minute
have_form rows sli minute held = All-from_recursion (λ (row : Row). is_of sli row ≡ true
    → row.minute ≡ minute → HasForm Good row.amount) rows (formed rows held)
  where
    formed : (rows : List Row) → AllByRecursion HasEvents rows → AllByRecursion
        (λ (row : Row). is_of sli row ≡ true → row.minute ≡ minute → HasForm Good row.amount) rows
    formed [] held = tt
    formed (row ∷ rows) held = (λ own at. held.0, formed rows held.1)
