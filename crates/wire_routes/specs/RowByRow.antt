-- The samples of a body as a reader meets them, one record after another.
use Rattle.std.specs.Prelude.{◌≡◌, ◌≤◌, ℕ, ◌+◌, Bool, true, false, List, [], ◌∷◌, ◌++◌, Option}
use Rattle.std.specs.Prelude.{Some, None, Result, Ok, Err, drop, length}
use Rattle.csv_records.specs.Records.{Fields, csv_records}
use Rattle.plain_fields.specs.Lines.{IsLineStart}
use Rattle.sample_book.specs.declared.row.Row.{Row}
use Rattle.wire_routes.specs.Samples.{row_of, samples_of}

abbrev pub before_row : Row → Result (List Row) ℕ → Result (List Row) ℕ
before_row row (Ok rows) = Ok (row ∷ rows)
before_row row (Err number) = Err number

abbrev pub rows_with : Option Row → ℕ → Result (List Row) ℕ → Result (List Row) ℕ
rows_with None number rest = Err number
rows_with (Some row) number rest = before_row row rest

-- the rows from the record of that number on
abbrev pub rows_from : ℕ → List Fields → Result (List Row) ℕ
rows_from number [] = Ok []
rows_from number (fields ∷ rest) = rows_with (row_of fields) number (rows_from (number + 1) rest)

-- rows behind those that were read
abbrev pub rows_behind : List Row → Result (List Row) ℕ → Result (List Row) ℕ
rows_behind rows (Ok more) = Ok (rows ++ more)
rows_behind rows (Err number) = Err number

-- a record's row stands behind the others, where the record is one
abbrev pub Adds : Bool → Option Row → List Row → List Row → Type 0
Adds true read before after = (row : Row) × (Some row ≡ read) × (after ≡ before ++ row ∷ [])
Adds false read before after = None ≡ read

-- The rows of a body's lines before a place are these, and a line begins there, whose record has
-- this number.
pub record HaveRead (body : List ℕ) (number at : ℕ) (rows : List Row) : Type 0 where
  pub so_far : rows_behind rows (rows_from number (csv_records (10 ∷ drop at body)))
      ≡ samples_of body
  pub start : IsLineStart body at
  pub few : number + length (csv_records (10 ∷ drop at body)) ≤ length body + 1
