-- A text in parts, and the records that were taken of it.
use Rattle.std.specs.Prelude.{◌≡◌, ℕ, List, ◌∷◌, ◌++◌}
use Rattle.csv_records.specs.Records.{Fields, csv_records}

-- The text ends where a record does: the records of whatever text it begins are its own and then
-- those of the rest, which stands behind a line feed.
abbrev pub EndsWithRecord : List ℕ → Type 0
EndsWithRecord text =
    (more : List ℕ) → csv_records (text ++ more) ≡ csv_records text ++ csv_records (10 ∷ more)

-- Of the bytes seen so far these records were taken, and these bytes wait: the records of a text
-- that begins with the bytes seen are those taken, and then those of the waiting bytes with
-- whatever comes after.
abbrev pub PartsAreRead : List ℕ → List Fields → List ℕ → Type 0
PartsAreRead seen records waiting =
    (more : List ℕ) → csv_records (seen ++ more) ≡ records ++ csv_records (waiting ++ more)
