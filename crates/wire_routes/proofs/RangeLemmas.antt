-- What was read is in range.
use Rattle.std.proofs.Common.{◌≡◌, ◌≤◌, ◌<◌, ◌+◌, ℕ, List, [], ◌∷◌, ◌++◌, length, take, slice_range}
use Rattle.std.proofs.Common.{Bool, true, false, cond, Option, Some, None, Ok, Err, sym, ap, ◌∙◌}
use Rattle.std.proofs.Common.{refl, subst, arith}
use Rattle.std.specs.Prelude.{◌==◌, nat_le}
use Rattle.std.specs.List.{AllByRecursion, cons_option, filter_map}
use Rattle.std.proofs.lemmas.Bool.Decides.{nat_tests}
use Rattle.std.proofs.lemmas.List.{append-nil, length-append, length-take-le, take-take}
use Rattle.std.proofs.Math.Seq.{take-append_seam}
use Rattle.csv_records.specs.Columns.{six_fields}
use Rattle.csv_records.specs.Records.{Fields, csv_records}
use Rattle.exact_fraction.specs.Digits.{at_most, digits_value, number_within}
use Rattle.exact_fraction.specs.Label.{label_of}
use Rattle.httparse.proofs.GrammarLemmas.{request_unique}
use Rattle.httparse.specs.Grammar.{ReadsRequest, RequestHead, print_request}
use Rattle.message_heads.specs.declared.message.Heard.TheVariants.{Whole}
use Rattle.message_heads.specs.declared.message.Message.{Message}
use Rattle.message_heads.specs.Fields.{counted_length, fields_of}
use Rattle.message_heads.specs.Hearing.{Hears, IsDecided, body_too_large, whole}
use Rattle.record_form.specs.declared.query.Query.{Query}
use Rattle.record_form.specs.Ranges.{IsRowInRange}
use Rattle.sample_book.specs.declared.row.Row.{Row}
use Rattle.sample_book.specs.declared.exclusions.Exclusion.{Exclusion}
use Rattle.slo_limits.specs.declared.TheConstants.{MAX_BODY_BYTES, MAX_MINUTE, MAX_REVISION}
use Rattle.wire_routes.specs.declared.method.Method.{Method}
use Rattle.wire_routes.specs.declared.method.Method.TheVariants.{Delete, Get, Post, Put, Other}
use Rattle.wire_routes.specs.declared.place.Place.{Place}
use Rattle.wire_routes.specs.declared.place.Place.TheVariants as place
use Rattle.wire_routes.specs.declared.routed.Routed.{Routed}
use Rattle.wire_routes.specs.declared.routed.Routed.TheVariants as routed
use Rattle.wire_routes.specs.Exclusions.{exclusion_of}
use Rattle.wire_routes.specs.Keys.{budgets_keys, burns_keys, entries_keys, stretch_keys}
use Rattle.wire_routes.specs.Keys.{sums_keys}
use Rattle.wire_routes.specs.Ranges.{IsRequestInRange, IsRoutedInRange}
use Rattle.wire_routes.specs.Requests.{Answer, IsRoutedAs, answer_at, exclusion_answer}
use Rattle.wire_routes.specs.Requests.{samples_answer}
use Rattle.wire_routes.specs.Requests.{with_keys, without_keys}
use Rattle.wire_routes.specs.Samples.{amount_of, revision_of, row_of, row_of_six, rows_before}
use Rattle.wire_routes.specs.Samples.{samples_of, unless_zero}
use Rattle.wire_routes.proofs.CutLemmas.{cond_back, map_back, then_back}

-- the numbers of a row

is_at_most : (a b : ℕ) → nat_le a b ≡ true → a ≤ b
is_at_most a b h = grind (arith, nat_tests)

within : (most : ℕ) (text : List ℕ) (n : ℕ) → number_within most text ≡ Some n → n ≤ most
within most text n h =
    let (value, is, more) = then_back (digits_value text) (at_most most) n h in
    let (test, same) = cond_back (nat_le value most) (Some value) n more in
    let e : value ≡ n = cc same in
    rw (← e) (is_at_most value most test)

above_zero : (r n : ℕ) → unless_zero r ≡ Some n → (1 ≤ n) × (r ≡ n)
above_zero r n h = by (r == 0) refl h
  where
    by : (b : Bool) → (r == 0) ≡ b → cond b None (Some r) ≡ Some n → (1 ≤ n) × (r ≡ n)
    by true e found = absurd (cc found)
    by false e found =
        let same : r ≡ n = cc found in
        let some : 1 ≤ r = grind (arith, nat_tests) in
        (rw (← same) some, same)

revisions : (text : List ℕ) (n : ℕ) → revision_of text ≡ Some n → (1 ≤ n) × (n ≤ MAX_REVISION)
revisions text n h =
    let (value, is, more) = then_back (number_within MAX_REVISION text) unless_zero n h in
    let (some, same) = above_zero value n more in
    (some, rw (← same) (within MAX_REVISION text value is))

row_in_range : (fields : Fields) (row : Row) → row_of fields ≡ Some row → IsRowInRange row
row_in_range fields row h =
    let (f, six, all) = then_back (six_fields fields) row_of_six row h in
    let (sli, a, rest) = then_back (label_of f.0) _ row all in
    let (source, b, last) = then_back (label_of f.1) _ row rest in
    let (minute, c, numbers) = then_back (number_within MAX_MINUTE f.2) _ row last in
    let (revision, d, made) = then_back (revision_of f.3) _ row numbers in
    let (amount, e, is) = map_back (amount_of f.4 f.5) _ row made in
    let (some, few) = revisions f.3 revision d in
    let now : minute ≤ MAX_MINUTE = within MAX_MINUTE f.2 minute c in
    subst IsRowInRange is (record { minute = now; first_revision = some; last_revision = few })

one_more : (read : Option Row) (rows : List Row)
    → ((row : Row) → read ≡ Some row → IsRowInRange row) → AllByRecursion IsRowInRange rows
    → AllByRecursion IsRowInRange (cons_option read rows)
one_more None rows here more = more
one_more (Some row) rows here more = (here row refl, more)

rows_in_range : (records : List Fields) → AllByRecursion IsRowInRange (filter_map row_of records)
rows_in_range [] = tt
rows_in_range (fields ∷ records) = one_more (row_of fields) (filter_map row_of records)
    (row_in_range fields) (rows_in_range records)

-- the answers of the routes

abbrev IsInRange : Answer → Type 0
IsInRange (Ok request) = IsRequestInRange request
IsInRange (Err reason) = Unit {0}

plain : (query : Option (List ℕ)) (answer : Answer) → IsInRange answer
    → IsInRange (without_keys query answer)
plain None answer is = is
plain (Some query) answer is = tt

keyed : {A : Type 0} (question : A → Query) (keys : Option A) → IsInRange (with_keys question keys)
keyed question None = tt
keyed question (Some keys) = tt

samples_in_range : (body : List ℕ) → IsInRange (samples_answer (samples_of body))
samples_in_range body = by (rows_before (csv_records body) == length (csv_records body))
  where
    by : (b : Bool) → IsInRange (samples_answer (cond b (Ok (filter_map row_of (csv_records body)))
        (Err (rows_before (csv_records body) + 1))))
    by true = rows_in_range (csv_records body)
    by false = tt

exclusion_in_range : (read : Option Exclusion) → IsInRange (exclusion_answer read)
exclusion_in_range None = tt
exclusion_in_range (Some exclusion) = tt

in_range : (p : Place) (m : Method) (query : Option (List ℕ)) (body : List ℕ)
    → length body ≤ MAX_BODY_BYTES → IsInRange (answer_at p m query body)
in_range place.Objects Delete query body few = tt
in_range place.Objects Get query body few = plain query _ tt
in_range place.Objects Post query body few = plain query _ few
in_range place.Objects Put query body few = tt
in_range place.Objects Other query body few = tt
in_range (place.Object k n) Delete query body few = plain query _ tt
in_range (place.Object k n) Get query body few = plain query _ tt
in_range (place.Object k n) Post query body few = tt
in_range (place.Object k n) Put query body few = tt
in_range (place.Object k n) Other query body few = tt
in_range (place.Zone n) Delete query body few = tt
in_range (place.Zone n) Get query body few = tt
in_range (place.Zone n) Post query body few = tt
in_range (place.Zone n) Put query body few = plain query _ few
in_range (place.Zone n) Other query body few = tt
in_range place.Samples Delete query body few = tt
in_range place.Samples Get query body few = tt
in_range place.Samples Post query body few = plain query _ (samples_in_range body)
in_range place.Samples Put query body few = tt
in_range place.Samples Other query body few = tt
in_range (place.Exclusion id) Delete query body few = plain query _ tt
in_range (place.Exclusion id) Get query body few = tt
in_range (place.Exclusion id) Post query body few = tt
in_range (place.Exclusion id) Put query body few =
    plain query _ (exclusion_in_range (exclusion_of id body))
in_range (place.Exclusion id) Other query body few = tt
in_range place.Tick Delete query body few = tt
in_range place.Tick Get query body few = tt
in_range place.Tick Post query body few = plain query _ tt
in_range place.Tick Put query body few = tt
in_range place.Tick Other query body few = tt
in_range place.Notices Delete query body few = tt
in_range place.Notices Get query body few = plain query _ tt
in_range place.Notices Post query body few = tt
in_range place.Notices Put query body few = tt
in_range place.Notices Other query body few = tt
in_range (place.Take n) Delete query body few = tt
in_range (place.Take n) Get query body few = tt
in_range (place.Take n) Post query body few = plain query _ tt
in_range (place.Take n) Put query body few = tt
in_range (place.Take n) Other query body few = tt
in_range place.Upgrade Delete query body few = tt
in_range place.Upgrade Get query body few = tt
in_range place.Upgrade Post query body few = plain query _ tt
in_range place.Upgrade Put query body few = tt
in_range place.Upgrade Other query body few = tt
in_range (place.Budgets s) Delete query body few = tt
in_range (place.Budgets s) Get query body few = keyed _ (budgets_keys query)
in_range (place.Budgets s) Post query body few = tt
in_range (place.Budgets s) Put query body few = tt
in_range (place.Budgets s) Other query body few = tt
in_range (place.Burns s n) Delete query body few = tt
in_range (place.Burns s n) Get query body few = keyed _ (burns_keys query)
in_range (place.Burns s n) Post query body few = tt
in_range (place.Burns s n) Put query body few = tt
in_range (place.Burns s n) Other query body few = tt
in_range (place.Alerts s n l) Delete query body few = tt
in_range (place.Alerts s n l) Get query body few = keyed _ (stretch_keys query)
in_range (place.Alerts s n l) Post query body few = tt
in_range (place.Alerts s n l) Put query body few = tt
in_range (place.Alerts s n l) Other query body few = tt
in_range place.Entries Delete query body few = tt
in_range place.Entries Get query body few = keyed _ (entries_keys query)
in_range place.Entries Post query body few = tt
in_range place.Entries Put query body few = tt
in_range place.Entries Other query body few = tt
in_range (place.Row s u n) Delete query body few = tt
in_range (place.Row s u n) Get query body few = plain query _ tt
in_range (place.Row s u n) Post query body few = tt
in_range (place.Row s u n) Put query body few = tt
in_range (place.Row s u n) Other query body few = tt
in_range place.Exclusions Delete query body few = tt
in_range place.Exclusions Get query body few = plain query _ tt
in_range place.Exclusions Post query body few = tt
in_range place.Exclusions Put query body few = tt
in_range place.Exclusions Other query body few = tt
in_range place.Zones Delete query body few = tt
in_range place.Zones Get query body few = plain query _ tt
in_range place.Zones Post query body few = tt
in_range place.Zones Put query body few = tt
in_range place.Zones Other query body few = tt
in_range place.Status Delete query body few = tt
in_range place.Status Get query body few = plain query _ tt
in_range place.Status Post query body few = tt
in_range place.Status Put query body few = tt
in_range place.Status Other query body few = tt
in_range (place.Sums s n) Delete query body few = tt
in_range (place.Sums s n) Get query body few = keyed _ (sums_keys query)
in_range (place.Sums s n) Post query body few = tt
in_range (place.Sums s n) Put query body few = tt
in_range (place.Sums s n) Other query body few = tt
in_range (place.Windows s) Delete query body few = tt
in_range (place.Windows s) Get query body few = keyed _ (stretch_keys query)
in_range (place.Windows s) Post query body few = tt
in_range (place.Windows s) Put query body few = tt
in_range (place.Windows s) Other query body few = tt

pub told : (p : Place) (m : Method) (query : Option (List ℕ)) (body : List ℕ) (r : Routed)
    → length body ≤ MAX_BODY_BYTES
    → IsRoutedAs (answer_at p m query body) r → IsRoutedInRange r
told p m query body (routed.Request request) few tells =
    subst IsInRange tells (in_range p m query body few)
told p m query body (routed.NoRequest reason) few tells = tt
told p m query body routed.NoMemory few tells = tt

-- the body of a whole message

no_more : (a b : ℕ) → (a < b → ⊥) → b ≤ a
no_more a b h = omega arith

head_alone : (bytes head body : List ℕ) (n : ℕ) → take n bytes ≡ head ++ body → length head ≤ n
    → take (length head) bytes ≡ head
head_alone bytes head body n is shorter =
    sym (take-take (length head) n bytes shorter) ∙ ap (take (length head)) is
    ∙ take-append_seam head body

-- a body that is too large is refused at the end of its head
not_large : (bytes : List ℕ) (n : ℕ) (h : RequestHead) (body : List ℕ) → IsDecided bytes n whole
    → ReadsRequest (take n bytes) h body
    → counted_length (fields_of h) ≡ Some (length body) → MAX_BODY_BYTES < length body → ⊥
not_large bytes n h body decided (is, printed) counted large =
    let within = decided.within in
    let a = ap length printed in
    let b = length-append (print_request h) body in
    let c = length-take-le n bytes within in
    let shorter : length (print_request h) < n = omega arith in
    let alone : take (length (print_request h)) bytes ≡ print_request h ++ [] =
    head_alone bytes (print_request h) body n printed (omega arith)
    ∙ sym (append-nil (print_request h)) in
    let passed = decided.earlier (length (print_request h)) shorter body_too_large (
      h,
      length body,
      (is, alone),
      counted,
      large,
    ) in
    absurd (cc passed.0)

decided_body : (bytes : List ℕ) (n : ℕ) (h : RequestHead) (body : List ℕ) → IsDecided bytes n whole
    → ReadsRequest (take n bytes) h body → length body ≤ MAX_BODY_BYTES
decided_body bytes n h body decided reads =
    let (g, found, also, counted) = decided.holds in
    let same = request_unique (take n bytes) g h found body also reads in
    no_more MAX_BODY_BYTES (length body)
    (λ large. not_large bytes n g found decided also counted (rw same.1 large))

pub heard_body : (bytes : List ℕ) (m : Message) (n : ℕ) → Hears bytes (Whole m n)
    → length (slice_range bytes m.body.0 m.body.1) ≤ MAX_BODY_BYTES
heard_body bytes m n (decided, (h, is)) =
    decided_body bytes n h (slice_range bytes m.body.0 m.body.1) decided is.reads
