-- What a book holds after all that came: rows, exclusions and liftings, in any order.
use Rattle.std.specs.Prelude.{◌≡◌, ℕ, Bool, true, false, not, List, [], ◌∷◌, ◌++◌, map, drop}
use Rattle.std.specs.Prelude.{if◌then◌else◌, None}
use Rattle.std.specs.List.{list_any}
use Rattle.std.specs.Str.{bytes_eq}
use Rattle.cell_index.specs.declared.Cell.{Cell}
use Rattle.sample_book.specs.declared.row.Row.{Row}
use Rattle.sample_book.specs.declared.row.RowVerdict.{RowVerdict}
use Rattle.sample_book.specs.declared.row.RowVerdict.TheVariants.{New, Newer}
use Rattle.sample_book.specs.declared.exclusions.Exclusion.{Exclusion}
use Rattle.sample_book.specs.Book.{Book}
use Rattle.sample_book.specs.Exclusions.{Change, Excluded, Lifted, IsLive, after_lifting}
use Rattle.sample_book.specs.Exclusions.{exclusion_of, excluded_in, lifted_in}
use Rattle.sample_book.specs.Rows.{MayPutAs, cell_of, current_rows, verdict_of}

-- what comes to a book: a row, an exclusion, or the lifting of the one of an id
pub data Arrival : Type 0 where
  Came : Row → Arrival
  Changed : Change → Arrival

-- the rows that came
abbrev pub rows_in : List Arrival → List Row
rows_in [] = []
rows_in (Came row ∷ arrivals) = row ∷ rows_in arrivals
rows_in (Changed change ∷ arrivals) = rows_in arrivals

-- the exclusions and liftings among the arrivals
abbrev pub changes_in : List Arrival → List Change
changes_in [] = []
changes_in (Came row ∷ arrivals) = changes_in arrivals
changes_in (Changed change ∷ arrivals) = change ∷ changes_in arrivals

-- The exclusions that were made, each live unless its id was lifted.
abbrev pub exclusions_of : List Change → List (Exclusion × Bool)
exclusions_of changes = map
    (λ value. (value, not (list_any (bytes_eq value.id) (lifted_in changes)))) (excluded_in changes)

-- a row is put where it is new or newer, and passed over else
abbrev pub is_put : RowVerdict → Bool
is_put New = true
is_put (Newer kept) = true
is_put _ = false

-- The rows and exclusions of a book after these arrivals, one call after another: each row that
-- came was put or passed over, each exclusion was of an id that was unused, each lifting of one
-- that was live.
pub data Holds : List Arrival → List Row → List (Exclusion × Bool) → Type 0 where
  empty : Holds [] [] []
  put : {arrivals : List Arrival} {rows : List Row} {made : List (Exclusion × Bool)} (row : Row) →
      Holds arrivals rows made →
      is_put (verdict_of rows row) ≡ true →
      Holds (arrivals ++ Came row ∷ []) (current_rows (rows ++ row ∷ [])) made
  passed : {arrivals : List Arrival} {rows : List Row} {made : List (Exclusion × Bool)}
      (row : Row) → Holds arrivals rows made →
      is_put (verdict_of rows row) ≡ false → Holds (arrivals ++ Came row ∷ []) rows made
  excluded : {arrivals : List Arrival} {rows : List Row} {made : List (Exclusion × Bool)}
      (value : Exclusion) → Holds arrivals rows made →
      exclusion_of made value.id ≡ None →
      Holds (arrivals ++ Changed (Excluded value) ∷ []) rows (made ++ (value, true) ∷ [])
  lifted_one : {arrivals : List Arrival} {rows : List Row} {made : List (Exclusion × Bool)}
      (id : List ℕ) → Holds arrivals rows made →
      IsLive made id → Holds (arrivals ++ Changed (Lifted id) ∷ []) rows (after_lifting made id)

-- a book of some arrivals becomes the book of these and one more
abbrev pub Gains : Book → Arrival → Book → Type 0
Gains before arrival after =
    (arrivals : List Arrival) → Holds arrivals before.rows before.exclusions
    → Holds (arrivals ++ arrival ∷ []) after.rows after.exclusions

-- the rows of a book after a row came: a row is put where it is new or newer
abbrev pub rows_after : List Row → Row → List Row
rows_after rows row = if is_put (verdict_of rows row) then current_rows (rows ++ row ∷ []) else rows

-- a row takes the first place with room where it is new
abbrev pub room_after : RowVerdict → List Cell → List Cell
room_after New room = drop 1 room
room_after _ room = room

-- a row that comes may be put, or is none to put
abbrev pub MayComeAs : RowVerdict → List Cell → Cell → Type 0
MayComeAs verdict room cell = is_put verdict ≡ true → MayPutAs verdict room cell

-- Rows may come one after another, with this room, and each that is new or newer may be put.
abbrev pub MayComeAll : List Row → List Cell → List Row → Type 0
MayComeAll rows room [] = Unit {0}
MayComeAll rows room (row ∷ came) =
    MayComeAs (verdict_of rows row) room (cell_of row)
    × MayComeAll (rows_after rows row) (room_after (verdict_of rows row) room) came
