-- The samples of a body, record by record and as a whole.
use Rattle.std.proofs.Common.{◌≡◌, ◌∙◌, ap, sym, refl, append_assoc, zero-add, arith, ℕ, suc, ◌+◌}
use Rattle.std.proofs.Common.{List, [], ◌∷◌, ◌++◌, length, Bool, true, false, cond, Option, Some}
use Rattle.std.proofs.Common.{None, Result, Ok, Err, drop}
use Rattle.std.specs.Prelude.{◌==◌, is_some}
use Rattle.std.specs.List.{cons_option, filter_map}
use Rattle.std.proofs.lemmas.Bool.Decides.{nat_tests}
use Rattle.std.proofs.lemmas.List.{append-nil}
use Rattle.csv_records.specs.Records.{Fields, csv_records}
use Rattle.csv_records.proofs.Counts.{csv_records-few}
use Rattle.plain_fields.specs.Lines.{IsLineStart}
use Rattle.sample_book.specs.declared.row.Row.{Row}
use Rattle.wire_routes.specs.RowByRow.{Adds, HaveRead, before_row, rows_behind, rows_from}
use Rattle.wire_routes.specs.RowByRow.{rows_with}
use Rattle.wire_routes.specs.Samples.{row_of, rows_before, rows_or_number, samples_of}

behind_row : (rows : List Row) (row : Row) (rest : Result (List Row) ℕ)
    → rows_behind (rows ++ row ∷ []) rest ≡ rows_behind rows (before_row row rest)
behind_row rows row (Ok more) = ap Ok (append_assoc rows (row ∷ []) more)
behind_row rows row (Err number) = refl

-- one record more, which is a row
pub one_more : (rows more : List Row) (number : ℕ) (records : List Fields) (fields : Fields)
    (rest : List Fields) (all : Result (List Row) ℕ)
    → rows_behind rows (rows_from number records) ≡ all → records ≡ fields ∷ rest
    → Adds true (row_of fields) rows more
    → rows_behind more (rows_from (number + 1) rest) ≡ all
one_more rows more number records fields rest all so_far is (row, read, grown) =
    ap (λ rs. rows_behind rs (rows_from (number + 1) rest)) grown
    ∙ behind_row rows row (rows_from (number + 1) rest)
    ∙ ap (rows_behind rows) (ap (λ o. rows_with o number (rows_from (number + 1) rest)) read)
    ∙ ap (λ rs. rows_behind rows (rows_from number rs)) (sym is) ∙ so_far

-- and one that is none
pub no_more : (rows : List Row) (number : ℕ) (records : List Fields) (fields : Fields)
    (rest : List Fields) (all : Result (List Row) ℕ)
    → rows_behind rows (rows_from number records) ≡ all → records ≡ fields ∷ rest
    → None ≡ row_of fields
    → all ≡ Err number
no_more rows number records fields rest all so_far is read =
    sym so_far ∙ ap (λ rs. rows_behind rows (rows_from number rs)) is
    ∙ ap (rows_behind rows) (ap (λ o. rows_with o number (rows_from (number + 1) rest)) (sym read))

-- what records from that number on give, of which `count` are rows before one that is none, and
-- `rows` are rows
abbrev given : ℕ → ℕ → ℕ → List Row → Result (List Row) ℕ
given number count size rows = cond (count == size) (Ok rows) (Err (count + number))

given_row : (row : Row) (number count size : ℕ) (rows : List Row) (b : Bool) → (count == size) ≡ b
    → before_row row (given (number + 1) count size rows)
    ≡ given number (1 + count) (suc size) (row ∷ rows)
given_row row number count size rows true e =
    let more : (1 + count == suc size) ≡ true = grind (arith, nat_tests) in
    rw (e, more) refl
given_row row number count size rows false e =
    let more : (1 + count == suc size) ≡ false = grind (arith, nat_tests) in
    let same : count + (number + 1) ≡ 1 + count + number = omega arith in
    rw (e, more, same) refl

given_none : (number size : ℕ) (rows : List Row) → Err number ≡ given number 0 (suc size) rows
given_none number size rows =
    let none : (0 == suc size) ≡ false = grind (arith, nat_tests) in
    rw (none, zero-add number) refl

given_more : (read : Option Row) (number count size : ℕ) (rows : List Row)
    → rows_with read number (given (number + 1) count size rows)
    ≡ given number (cond (is_some read) (1 + count) 0) (suc size) (cons_option read rows)
given_more None number count size rows = given_none number size rows
given_more (Some row) number count size rows =
    given_row row number count size rows (count == size) refl

from_number : (number : ℕ) (records : List Fields) → rows_from number records
    ≡ given number (rows_before records) (length records) (filter_map row_of records)
from_number number [] = refl
from_number number (fields ∷ rest) =
    ap (rows_with (row_of fields) number) (from_number (number + 1) rest)
    ∙ given_more (row_of fields) number (rows_before rest) (length rest) (filter_map row_of rest)

-- record by record or as a whole, the samples are the same
as_a_whole : (records : List Fields) → rows_from 1 records ≡ rows_or_number records
as_a_whole records = from_number 1 records

nothing_behind : (all : Result (List Row) ℕ) → rows_behind [] all ≡ all
nothing_behind (Ok rows) = refl
nothing_behind (Err number) = refl

-- no rows so far
pub none_so_far : (rows : List Row) (records left : List Fields) → rows ≡ [] → left ≡ records
    → rows_behind rows (rows_from 1 left) ≡ rows_or_number records
none_so_far rows records left none all =
    rw (none, all) (nothing_behind (rows_from 1 records) ∙ as_a_whole records)

-- no line so far
pub lines_none : (body : List ℕ) (rows : List Row) → rows ≡ [] → IsLineStart body 0
    → HaveRead body 1 0 rows
lines_none body rows none start =
    let same = start.first refl in
    record {
      so_far = none_so_far rows (csv_records body) (csv_records (10 ∷ body)) none (sym same);
      start = start;
      few = (let few = csv_records-few body in
          let as_many = ap (λ (rs : List Fields). length rs) same in
          omega (arith, few, as_many));
    }

-- one more line, which is a row
pub lines_more : (body : List ℕ) (number at end : ℕ) (rows more : List Row) (fields : Fields)
    → HaveRead body number at rows
    → csv_records (10 ∷ drop at body) ≡ fields ∷ csv_records (10 ∷ drop end body)
    → IsLineStart body end → Adds true (row_of fields) rows more
    → HaveRead body (number + 1) end more
lines_more body number at end rows more fields read is start added = record {
  so_far = one_more rows more number (csv_records (10 ∷ drop at body)) fields
      (csv_records (10 ∷ drop end body)) (samples_of body) read.so_far is added;
  start = start;
  few = (let fewer = ap (λ (rs : List Fields). length rs) is in
      omega (arith, fewer, read.few));
}

-- the records of a text that are those behind the lines give what is left
pub lines_then : (body : List ℕ) (number at : ℕ) (rows : List Row) (rest : List ℕ)
    → HaveRead body number at rows → csv_records rest ≡ csv_records (10 ∷ drop at body)
    → rows_behind rows (rows_from number (csv_records rest)) ≡ samples_of body
lines_then body number at rows rest read is =
    ap (λ (records : List Fields). rows_behind rows (rows_from number records)) is ∙ read.so_far

-- no record is left
pub lines_all : (body : List ℕ) (number at : ℕ) (rows : List Row) → HaveRead body number at rows
    → csv_records (10 ∷ drop at body) ≡ [] → samples_of body ≡ Ok rows
lines_all body number at rows read none =
    sym read.so_far
    ∙ ap (λ (records : List Fields). rows_behind rows (rows_from number records)) none
    ∙ ap (λ (all : List Row). Ok all) (append-nil rows)

-- the same error of a call that gives something else
pub other_err : {A B E : Type 0} (x y : E) → ◌≡◌ {A = Result A E} (Err x) (Err y)
    → ◌≡◌ {A = Result B E} (Err x) (Err y)
other_err x y e = let same : x ≡ y = cc e in ap Err same
