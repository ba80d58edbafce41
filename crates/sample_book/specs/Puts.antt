-- What a row that is put does to the current rows, and what a batch of rows comes to.
use Rattle.std.specs.Prelude.{◌≡◌, Bool, true, false, Option, Some, None, List, [], ◌∷◌, ◌++◌}
use Rattle.slo_terms.specs.Rows.{newer}
use Rattle.sample_book.specs.declared.row.Row.{Row}
use Rattle.sample_book.specs.declared.row.RowVerdict.{RowVerdict}
use Rattle.sample_book.specs.declared.row.RowVerdict.TheVariants.{New, Newer, Repeated, Superseded}
use Rattle.sample_book.specs.declared.row.RowVerdict.TheVariants.{Conflict}
use Rattle.sample_book.specs.Rows.{cell_of, current_rows, verdict_of}

-- A row that is put stands behind all others where it is new, and else in the place of
-- its cell's row.
pub data IsPutInto : List Row → Row → RowVerdict → List Row → Type 0 where
  behind : (rows : List Row) (row : Row) → IsPutInto rows row New (rows ++ row ∷ [])
  in_place : (before after : List Row) (kept row : Row) → cell_of kept ≡ cell_of row →
      IsPutInto (before ++ kept ∷ after) row (Newer kept) (before ++ row ∷ after)

-- the rows that a row takes the place of where it is put: one where it is newer, else none
abbrev pub replaced_rows : RowVerdict → List Row
replaced_rows (Newer kept) = kept ∷ []
replaced_rows _ = []

-- of a kept row and a later one of the cell the one that counts: the later one where its
-- revision is greater
abbrev pub later_of : Option Row → Option Row → Option Row
later_of None later = later
later_of (Some kept) None = Some kept
later_of (Some kept) (Some later) = Some (newer (λ (row : Row). row.revision) kept later)

-- What becomes of the rows of a batch that come over these rows, each behind those before it.
abbrev pub verdicts : List Row → List Row → List RowVerdict
verdicts came [] = []
verdicts came (row ∷ rows) = verdict_of (current_rows came) row ∷ verdicts (came ++ row ∷ []) rows

-- whether a row is the first of its cell
abbrev pub is_new : RowVerdict → Bool
is_new New = true
is_new _ = false

-- a row of the same amount or of a greater revision is kept of the cell
abbrev pub is_settled : RowVerdict → Bool
is_settled Repeated = true
is_settled (Superseded revision) = true
is_settled _ = false

-- whether a row has the revision of its cell's row and another amount
abbrev pub is_conflict : RowVerdict → Bool
is_conflict (Conflict kept) = true
is_conflict _ = false
