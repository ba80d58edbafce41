-- The lines of samples are the records of their batch, and are read back as these samples.
use Rattle.std.proofs.Common.{◌≡◌, ◌∙◌, ◌<◌, ◌≤◌, ◌+◌, ◌*◌, ◌^◌, ℕ, true, false, cond}
use Rattle.std.proofs.Common.{List, [], ◌∷◌, ◌++◌, length, map, Some, None, Ok}
use Rattle.std.proofs.Common.{decimal, option_and_then, option_map, refl, sym, ap, arith}
use Rattle.std.proofs.Common.{append_assoc, append-nil, length-append, ne_eqb}
use Rattle.std.specs.Prelude.{◌==◌}
use Rattle.std.specs.List.{AllByRecursion, flat_map, list_all, list_any}
use Rattle.std.proofs.lemmas.Bool.{and_parts, or_from}
use Rattle.csv.specs.Machine.{next_record}
use Rattle.csv.specs.Reading.{default_config, strip_bom}
use Rattle.csv.specs.Writing.{default_writer, field_text, fields_text, is_blank, needs_byte}
use Rattle.csv.specs.Writing.{row_text}
use Rattle.csv.specs.declared.parser.State.TheVariants as st
use Rattle.csv.proofs.RoundTrip.{read-write-many}
use Rattle.csv_records.specs.Left.{rest}
use Rattle.csv_records.specs.Records.{Fields, csv_records}
use Rattle.csv_records.proofs.Rest.{all_left, rest-none, rest-some}
use Rattle.httparse.proofs.GrammarLemmas.{cons-append}
use Rattle.slo_limits.specs.declared.TheConstants.{MAX_MINUTE, MAX_REVISION}
use Rattle.exact_fraction.specs.DecimalCuts.{decimal_of}
use Rattle.exact_fraction.specs.DecimalText.{decimal_text}
use Rattle.exact_fraction.specs.Digits.{number_within}
use Rattle.exact_fraction.specs.Label.{is_label, is_label_byte, label_of}
use Rattle.slice_method.specs.declared.Amount.{Amount}
use Rattle.slice_method.specs.declared.Amount.TheVariants.{Counts, Value, Withdrawn}
use Rattle.sample_book.specs.declared.Row.{Row}
use Rattle.record_form.specs.Ranges.{FitsAmount, FitsRow}
use Rattle.wire_routes.specs.RowByRow.{before_row, rows_behind, rows_from, rows_with}
use Rattle.wire_routes.specs.Samples.{amount_alone, amount_of, revision_of, row_of, rows_or_number}
use Rattle.wire_routes.specs.Samples.{samples_of, unless_zero}
use Rattle.wire_routes.proofs.RowLemmas.{none_so_far}
use Rattle.export_terms.specs.Texts.{amount_fields, row_line}
use Rattle.export_heard.proofs.Digits.{decimal_label, decimal_short, decimal_some}
use Rattle.export_heard.proofs.Digits.{decimal_text_label}
use Rattle.export_heard.proofs.Digits.{decimal_text_reads, decimal_text_size, decimal_within}
use Rattle.export_heard.proofs.Digits.{is_mark, label_bytes, label_name, label_read, not_empty}

-- FIELDS

-- the last two fields of a sample
abbrev last_two : Amount → List ℕ × List ℕ
last_two (Counts part total) = (decimal part, decimal total)
last_two (Value value) = (decimal_text value, [])
last_two Withdrawn = ([], [])

abbrev pub fields_of_row : Row → Fields
fields_of_row r = r.sli ∷ r.source ∷ decimal r.minute ∷ decimal r.revision
    ∷ (last_two r.amount).0 ∷ (last_two r.amount).1 ∷ []

-- six fields, a comma (44) between two, and a line feed (10)
abbrev line_of_six : List ℕ → List ℕ → List ℕ → List ℕ → List ℕ → List ℕ → List ℕ
line_of_six a b c d e f =
    a ++ 44 ∷ (b ++ 44 ∷ (c ++ 44 ∷ (d ++ 44 ∷ (e ++ 44 ∷ (f ++ 10 ∷ [])))))

amount_line : (amount : Amount) → amount_fields amount
    ≡ (last_two amount).0 ++ 44 ∷ ((last_two amount).1 ++ 10 ∷ [])
amount_line (Counts part total) = refl
amount_line (Value value) = refl
amount_line Withdrawn = refl

line_is : (r : Row) → row_line r ≡ line_of_six r.sli r.source (decimal r.minute)
    (decimal r.revision) (last_two r.amount).0 (last_two r.amount).1
line_is r = ap (λ (t : List ℕ). r.sli ++ (44 ∷ (r.source ++ (44 ∷ (decimal r.minute
    ++ (44 ∷ (decimal r.revision ++ (44 ∷ t)))))))) (amount_line r.amount)

-- what is known of each field: it has bytes of labels alone
abbrev IsPlainField : List ℕ → Type 0
IsPlainField field = list_all is_label_byte field ≡ true

record ArePlain (r : Row) : Type 0 where
  sli : IsPlainField r.sli
  source : IsPlainField r.source
  minute : IsPlainField (decimal r.minute)
  revision : IsPlainField (decimal r.revision)
  amount : IsPlainField (last_two r.amount).0
  total : IsPlainField (last_two r.amount).1

amount_plain : (amount : Amount) → FitsAmount amount
    → IsPlainField (last_two amount).0 × IsPlainField (last_two amount).1
amount_plain (Counts part total) fits =
    (decimal_label part (omega (arith, fits.0)), decimal_label total (omega (arith, fits.1)))
amount_plain (Value value) fits = (decimal_text_label value fits, refl)
amount_plain Withdrawn fits = (refl, refl)

minute_small : (r : Row) → FitsRow r → r.minute < 2 ^ 64
minute_small r fits = omega (arith, fits.range.minute)

revision_small : (r : Row) → FitsRow r → r.revision < 2 ^ 64
revision_small r fits = omega (arith, fits.range.last_revision)

are_plain : (r : Row) → FitsRow r → ArePlain r
are_plain r fits = record {
  sli = label_bytes r.sli fits.sli;
  source = label_bytes r.source fits.source;
  minute = decimal_label r.minute (minute_small r fits);
  revision = decimal_label r.revision (revision_small r fits);
  amount = (amount_plain r.amount fits.amount).0;
  total = (amount_plain r.amount fits.amount).1;
}

-- RECORDS

unquoted_byte : (b : ℕ) → is_label_byte b ≡ true → needs_byte default_writer b ≡ false
unquoted_byte b h = rw (
  is_mark 44 b refl h,
  is_mark 34 b refl h,
  is_mark 13 b refl h,
  is_mark 10 b refl h,
) refl

unquoted : (field : List ℕ) → IsPlainField field
    → list_any (needs_byte default_writer) field ≡ false
unquoted [] plain = refl
unquoted (b ∷ bs) plain =
    let both = and_parts (is_label_byte b) (list_all is_label_byte bs) plain in
    or_from (needs_byte default_writer b) (list_any (needs_byte default_writer) bs)
    (unquoted_byte b both.0) (unquoted bs both.1)

as_it_is : (field : List ℕ) → IsPlainField field → field_text default_writer field ≡ field
as_it_is field plain = rw (unquoted field plain) refl

joined : (a b c d e f : List ℕ)
    → (a ++ 44 ∷ (b ++ 44 ∷ (c ++ 44 ∷ (d ++ 44 ∷ (e ++ 44 ∷ (f ++ [])))))) ++ 10 ∷ []
    ≡ line_of_six a b c d e f
joined a b c d e f = simp (append_assoc, cons-append, append-nil)

text_is : (a b c d e f : List ℕ) → row_text default_writer (a ∷ b ∷ c ∷ d ∷ e ∷ f ∷ [])
    ≡ line_of_six (field_text default_writer a) (field_text default_writer b)
    (field_text default_writer c) (field_text default_writer d) (field_text default_writer e)
    (field_text default_writer f)
unfolding is_blank fields_text
text_is a b c d e f = joined (field_text default_writer a) (field_text default_writer b)
    (field_text default_writer c) (field_text default_writer d) (field_text default_writer e)
    (field_text default_writer f)

written : (r : Row) → ArePlain r → row_text default_writer (fields_of_row r) ≡ row_line r
written r plain =
    text_is r.sli r.source (decimal r.minute) (decimal r.revision) (last_two r.amount).0
    (last_two r.amount).1
    ∙ (λ i. line_of_six (as_it_is r.sli plain.sli i) (as_it_is r.source plain.source i)
    (as_it_is (decimal r.minute) plain.minute i) (as_it_is (decimal r.revision) plain.revision i)
    (as_it_is (last_two r.amount).0 plain.amount i) (as_it_is (last_two r.amount).1 plain.total i))
    ∙ sym (line_is r)

-- the first record of a line and what follows it
first_record : (r : Row) (more : List ℕ) → FitsRow r
    → next_record default_config st.StartRecord [] [] (row_line r ++ more)
    ≡ Some (fields_of_row r, st.StartRecord, more)
first_record r more fits =
    ap (λ (line : List ℕ). next_record default_config st.StartRecord [] [] (line ++ more))
    (sym (written r (are_plain r fits)))
    ∙ read-write-many r.sli r.source (decimal r.minute ∷ decimal r.revision
    ∷ (last_two r.amount).0 ∷ (last_two r.amount).1 ∷ []) more

none_left : next_record default_config st.StartRecord [] [] [] ≡ None
unfolding next_record
none_left = refl

all_records : (rows : List Row) → AllByRecursion FitsRow rows
    → rest default_config st.StartRecord (flat_map row_line rows) ≡ map fields_of_row rows
all_records [] fits = rest-none default_config st.StartRecord [] none_left
all_records (r ∷ rows) fits =
    (rest-some default_config st.StartRecord (row_line r ++ flat_map row_line rows)
    (fields_of_row r, st.StartRecord, flat_map row_line rows) refl
    (first_record r (flat_map row_line rows) fits.0)).1
    ∙ ap (λ (records : List Fields). fields_of_row r ∷ records) (all_records rows fits.1)

-- no sample begins with a byte order mark
no_mark : (b : ℕ) (bytes : List ℕ) → (b == 239) ≡ false → strip_bom (b ∷ bytes) ≡ b ∷ bytes
unfolding strip_bom
no_mark b [] other = refl
no_mark b (c ∷ []) other = refl
no_mark b (c ∷ d ∷ bytes) other = rw other refl

no_mark_behind : (name more : List ℕ) → is_label name ≡ true → strip_bom (name ++ more)
    ≡ name ++ more
no_mark_behind [] more label = absurd (cc label)
no_mark_behind (b ∷ bs) more label =
    no_mark b (bs ++ more) (is_mark 239 b refl
    (and_parts (is_label_byte b) (list_all is_label_byte bs) (label_bytes (b ∷ bs) label)).0)

unmarked : (rows : List Row) → AllByRecursion FitsRow rows
    → strip_bom (flat_map row_line rows) ≡ flat_map row_line rows
unfolding strip_bom
unmarked [] fits = refl
unmarked (r ∷ rows) fits =
    let tail : List ℕ = 44 ∷ (r.source ++ (44 ∷ (decimal r.minute ++ (44 ∷ (decimal r.revision
    ++ (44 ∷ amount_fields r.amount)))))) in
    let e : row_line r ++ flat_map row_line rows ≡ r.sli ++ (tail ++ flat_map row_line rows) =
    append_assoc r.sli tail (flat_map row_line rows) in
    ap strip_bom e ∙ no_mark_behind r.sli (tail ++ flat_map row_line rows) fits.0.sli ∙ sym e

-- SAMPLES

six_read : (a b c d e f sli source : List ℕ) (minute revision : ℕ) (amount : Amount)
    → label_of a ≡ Some sli → label_of b ≡ Some source → number_within MAX_MINUTE c ≡ Some minute
    → revision_of d ≡ Some revision → amount_of e f ≡ Some amount
    → row_of (a ∷ b ∷ c ∷ d ∷ e ∷ f ∷ []) ≡ Some (record {
      sli = sli;
      source = source;
      minute = minute;
      revision = revision;
      amount = amount;
    })
six_read a b c d e f sli source minute revision amount l m n r x = rw (l, m, n, r, x) refl

revision_read : (n : ℕ) → 1 ≤ n → n ≤ MAX_REVISION → revision_of (decimal n) ≡ Some n
revision_read n some few =
    ap (option_and_then unless_zero) (decimal_within MAX_REVISION n (omega arith) few)
    ∙ ap (λ b. cond b None (Some n)) (ne_eqb n 0 (λ z. omega arith))

amount_read : (amount : Amount) → FitsAmount amount
    → amount_of (last_two amount).0 (last_two amount).1 ≡ Some amount
amount_read (Counts part total) fits =
    let p : part < 2 ^ 64 = omega (arith, fits.0) in
    let t : total < 2 ^ 64 = omega (arith, fits.1) in
    let many = not_empty (decimal total) (decimal_some total t) in
    let a = decimal_within 4294967295 part p (omega (arith, fits.0)) in
    let b = decimal_within 4294967295 total t (omega (arith, fits.1)) in
    ap (λ e. cond e (amount_alone (decimal part))
    (option_and_then (λ x. option_map (λ y. Counts x y) (number_within 4294967295 (decimal total)))
    (number_within 4294967295 (decimal part)))) many
    ∙ ap (option_and_then (λ x. option_map (λ y. Counts x y)
    (number_within 4294967295 (decimal total)))) a
    ∙ ap (option_map (λ y. Counts part y)) b
amount_read (Value value) fits =
    ap (λ b. cond b (Some Withdrawn) (option_map (λ n. Value n) (decimal_of (decimal_text value))))
    (not_empty (decimal_text value) (decimal_text_size value fits).0)
    ∙ ap (option_map (λ n. Value n)) (decimal_text_reads value fits)
amount_read Withdrawn fits = refl

row_read : (r : Row) → FitsRow r → row_of (fields_of_row r) ≡ Some r
row_read r fits =
    six_read r.sli r.source (decimal r.minute) (decimal r.revision) (last_two r.amount).0
    (last_two r.amount).1 r.sli r.source r.minute r.revision r.amount
    (label_read r.sli fits.sli) (label_read r.source fits.source)
    (decimal_within MAX_MINUTE r.minute (minute_small r fits) fits.range.minute)
    (revision_read r.revision fits.range.first_revision fits.range.last_revision)
    (amount_read r.amount fits.amount)

rows_read : (number : ℕ) (rows : List Row) → AllByRecursion FitsRow rows
    → rows_from number (map fields_of_row rows) ≡ Ok rows
rows_read number [] fits = refl
rows_read number (r ∷ rows) fits =
    ap (λ o. rows_with o number (rows_from (number + 1) (map fields_of_row rows)))
    (row_read r fits.0)
    ∙ ap (before_row r) (rows_read (number + 1) rows fits.1)

-- The body of a batch is read back as its samples.
pub samples_read : (rows : List Row) → AllByRecursion FitsRow rows
    → samples_of (flat_map row_line rows) ≡ Ok rows
samples_read rows fits =
    let body = flat_map row_line rows in
    let records : csv_records body ≡ map fields_of_row rows =
    all_left default_config (strip_bom body)
    ∙ ap (rest default_config st.StartRecord) (unmarked rows fits) ∙ all_records rows fits in
    ap rows_or_number records
    ∙ sym (none_so_far [] (map fields_of_row rows) (map fields_of_row rows) refl refl)
    ∙ ap (rows_behind []) (rows_read 1 rows fits)

-- SIZES

amount_size : (amount : Amount) → FitsAmount amount
    → length (last_two amount).0 + length (last_two amount).1 ≤ 40
amount_size (Counts part total) fits =
    let a = decimal_short part (omega (arith, fits.0)) in
    let b = decimal_short total (omega (arith, fits.1)) in
    omega (arith, a, b)
amount_size (Value value) fits = (let a = (decimal_text_size value fits).1 in omega (arith, a))
amount_size Withdrawn fits = omega arith

six_size : (a b c d e f : List ℕ) → length (line_of_six a b c d e f)
    ≡ length a + length b + length c + length d + length e + length f + 6
six_size a b c d e f = omega (
  arith,
  length-append a
      (44 ∷ (b ++ 44 ∷ (c ++ 44 ∷ (d ++ 44 ∷ (e ++ 44 ∷ (f ++ 10 ∷ [])))))),
  length-append b
      (44 ∷ (c ++ 44 ∷ (d ++ 44 ∷ (e ++ 44 ∷ (f ++ 10 ∷ []))))),
  length-append c
      (44 ∷ (d ++ 44 ∷ (e ++ 44 ∷ (f ++ 10 ∷ [])))),
  length-append d
      (44 ∷ (e ++ 44 ∷ (f ++ 10 ∷ []))),
  length-append e (44 ∷ (f ++ 10 ∷ [])),
  length-append f (10 ∷ []),
)

line_size : (r : Row) → FitsRow r → length (row_line r) ≤ 212
line_size r fits =
    let a = ap length (line_is r) in
    let b = six_size r.sli r.source (decimal r.minute) (decimal r.revision)
    (last_two r.amount).0 (last_two r.amount).1 in
    let c = (label_name r.sli fits.sli).size.1 in
    let d = (label_name r.source fits.source).size.1 in
    let e = decimal_short r.minute (minute_small r fits) in
    let f = decimal_short r.revision (revision_small r fits) in
    let g = amount_size r.amount fits.amount in
    omega (arith, a, b, c, d, e, f, g)

-- a batch of so many rows has a short body
pub rows_size : (rows : List Row) → AllByRecursion FitsRow rows
    → length (flat_map row_line rows) ≤ 212 * length rows
rows_size [] fits = omega arith
rows_size (r ∷ rows) fits =
    let a = length-append (row_line r) (flat_map row_line rows) in
    let b = line_size r fits.0 in
    let c = rows_size rows fits.1 in
    omega (arith, a, b, c)
