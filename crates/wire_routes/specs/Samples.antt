-- The samples of a body: CSV without a header line, `sli,source,minute,revision,amount,total`.
use Rattle.std.specs.Prelude.{ℕ, ◌+◌, ◌==◌, cond, List, length, Option, Some, None, option_map}
use Rattle.std.specs.Prelude.{option_and_then, is_some, Result, Ok, Err}
use Rattle.std.specs.List.{filter_map, prefix_len}
use Rattle.csv_records.specs.Records.{Fields, csv_records}
use Rattle.csv_records.specs.Columns.{six_fields}
use Rattle.exact_fraction.specs.DecimalCuts.{decimal_of}
use Rattle.exact_fraction.specs.Digits.{number_within}
use Rattle.exact_fraction.specs.Label.{label_of}
use Rattle.sample_book.specs.declared.row.Row.{Row}
use Rattle.slice_method.specs.declared.amount.Amount.{Amount}
use Rattle.slice_method.specs.declared.amount.Amount.TheVariants.{Counts, Value, Withdrawn}
use Rattle.slo_limits.specs.declared.TheConstants.{MAX_MINUTE, MAX_REVISION}
use Rattle.wire_routes.specs.Cuts.{number32}

-- an amount without a total is a decimal; where it is empty too, the row is withdrawn
abbrev pub amount_alone : List ℕ → Option Amount
amount_alone amount =
    cond (length amount == 0) (Some Withdrawn) (option_map (λ n. Value n) (decimal_of amount))

-- where there is a total, both are digits
abbrev pub amount_of : List ℕ → List ℕ → Option Amount
amount_of amount total =
    cond (length total == 0) (amount_alone amount)
    (option_and_then (λ p. option_map (λ t. Counts p t) (number32 total)) (number32 amount))

-- revisions are counted from 1
abbrev pub unless_zero : ℕ → Option ℕ
unless_zero n = cond (n == 0) None (Some n)

abbrev pub revision_of : List ℕ → Option ℕ
revision_of text = option_and_then unless_zero (number_within MAX_REVISION text)

-- a row of the six fields, where each has its form
abbrev pub row_of_six : List ℕ × List ℕ × List ℕ × List ℕ × List ℕ × List ℕ → Option Row
row_of_six f =
    option_and_then (λ sli. option_and_then
    (λ source. option_and_then (λ minute. option_and_then (λ revision. option_map (λ amount.
    record { sli = sli; source = source; minute = minute; revision = revision; amount = amount })
    (amount_of f.4 f.5)) (revision_of f.3)) (number_within MAX_MINUTE f.2)) (label_of f.1))
    (label_of f.0)

abbrev pub row_of : Fields → Option Row
row_of fields = option_and_then row_of_six (six_fields fields)

-- how many records are rows, from the first on, before one that is none
abbrev pub rows_before : List Fields → ℕ
rows_before records = prefix_len (λ fields. is_some (row_of fields)) records

-- the rows, where all records are rows; else the number of the first that is none, counted from 1
abbrev pub rows_or_number : List Fields → Result (List Row) ℕ
rows_or_number records =
    cond (rows_before records == length records) (Ok (filter_map row_of records))
    (Err (rows_before records + 1))

-- the same of the records of a body
abbrev pub samples_of : List ℕ → Result (List Row) ℕ
samples_of body = rows_or_number (csv_records body)
