-- The records of a text of comma-separated values: RFC 4180, with the reading of the crate `csv`
-- where it is silent.
use Rattle.std.specs.Prelude.{◌≡◌, ◌∷◌, [], ℕ, List, Bool, true, false}
use Rattle.csv.specs.Reading.{default_config, records, strip_bom}

-- the fields of a record as bytes, in order
abbrev pub Fields : Type 0
Fields = List (List ℕ)

-- Every record of a text in order. Commas stand between fields, and the first line is a record as
-- the others are. A line ends with LF, CR LF or CR alone; the last one may end with the text. An
-- empty line is no record. A comma has a field after it, so `a,` is two fields, the second empty. A
-- field that begins with `"` runs to the next `"` that is not doubled, over commas and line ends;
-- the quotes are not part of it, and `""` inside it is one `"`. So `"1"` is the field `1`, a line
-- `""` is a record of one empty field, and a quote that is never closed takes the rest of the text.
-- A `"` elsewhere, and any byte that is no UTF-8, is a byte like any other. A byte order mark (EF
-- BB BF) at the start of the text is dropped.
abbrev pub csv_records : List ℕ → List Fields
csv_records bytes = records default_config (strip_bom bytes)

-- what a read took of the records that were left: the first of them, or none where none was left
abbrev pub Takes : Bool → List Fields → Fields → List Fields → Type 0
Takes true before row after = before ≡ row ∷ after
Takes false before row after = (before ≡ []) × (after ≡ [])
