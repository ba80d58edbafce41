-- What becomes of a batch of rows, judged row by row, each behind those before it.
use Rattle.std.specs.Prelude.{ℕ, ◌+◌, ◌*◌, ◌/◌, ◌||◌, ◌==◌, Bool, true, false, cond, not, nat_lt}
use Rattle.std.specs.Prelude.{nat_le}
use Rattle.std.specs.Prelude.{List, [], ◌∷◌, map, filter, length, sum_by, Option, Some, None}
use Rattle.slo_limits.specs.declared.TheConstants.{MAX_AMOUNT, MINUTES_A_DAY, WHOLE}
use Rattle.slice_method.specs.declared.Amount.{Amount}
use Rattle.slice_method.specs.declared.Amount.TheVariants as amounts
use Rattle.slice_method.specs.declared.Reading.{Reading}
use Rattle.slice_method.specs.declared.Reading.TheVariants.{Good, Bad, Threshold, RawSuccess}
use Rattle.slice_method.specs.declared.Reading.TheVariants.{RawFailure}
use Rattle.sample_book.specs.declared.Row.{Row}
use Rattle.sample_book.specs.declared.RowVerdict.{RowVerdict}
use Rattle.sample_book.specs.declared.RowVerdict.TheVariants.{Newer, Repeated, Superseded, Conflict}
use Rattle.sample_book.specs.Counting.{is_of}
use Rattle.sample_book.specs.Puts.{verdicts, is_new}
use Rattle.slo_terms.specs.Rows.{first_of_each}
use Rattle.object_terms.specs.declared.Object.{Object}
use Rattle.object_terms.specs.declared.Slo.{Slo}
use Rattle.object_terms.specs.Slo.{slo_in}
use Rattle.record_form.specs.declared.Refusal.{Refusal}
use Rattle.record_form.specs.declared.Refusal.TheVariants as refusals
use Rattle.record_form.specs.declared.Outcome.{Outcome}
use Rattle.record_form.specs.declared.Outcome.TheVariants.{Sampled}
use Rattle.office_history.specs.Lists.{first_some}
use Rattle.office_history.specs.Objectives.{reading_named}

-- one line of a table of refusals
abbrev pub when : Bool → Refusal → Option Refusal
when stands refusal = cond stands (Some refusal) None

-- what a part and a total of events break under a reading: it reads values, or they aren't those of
-- a part and a whole
abbrev pub events_fault : Reading → ℕ → ℕ → ℕ → Option Refusal
events_fault Good part total number =
    when (nat_lt total part || nat_lt MAX_AMOUNT total) (refusals.Counts number)
events_fault Bad part total number =
    when (nat_lt total part || nat_lt MAX_AMOUNT total) (refusals.Counts number)
events_fault _ part total number = Some (refusals.WrongKind number)

-- what a value breaks under a reading: it reads events, or the value is a ratio above 1
abbrev pub measured_fault : Reading → ℕ → ℕ → Option Refusal
measured_fault Threshold measured number = None
measured_fault RawSuccess measured number = when (nat_lt WHOLE measured) (refusals.Counts number)
measured_fault RawFailure measured number = when (nat_lt WHOLE measured) (refusals.Counts number)
measured_fault _ measured number = Some (refusals.WrongKind number)

-- what an amount breaks under a reading; a withdrawn one nothing
abbrev pub amount_fault : Reading → Amount → ℕ → Option Refusal
amount_fault reading (amounts.Counts part total) number = events_fault reading part total number
amount_fault reading (amounts.Value measured) number = measured_fault reading measured number
amount_fault reading amounts.Withdrawn number = None

-- an office takes withdrawn rows from its upgrade on
abbrev pub version_fault : Bool → Amount → ℕ → Option Refusal
version_fault upgraded amounts.Withdrawn number = when (not upgraded) (refusals.Version number)
version_fault upgraded _ number = None

-- what a row breaks by itself: its indicator isn't there, the office isn't upgraded for it, or its
-- amount isn't read there
abbrev pub form_fault : Bool → Option Reading → Row → ℕ → Option Refusal
form_fault upgraded None row number = Some (refusals.UnknownSli row.sli number)
form_fault upgraded (Some reading) row number = first_some (
    version_fault upgraded row.amount number ∷ amount_fault reading row.amount number ∷ [])

abbrev pub conflict_fault : RowVerdict → ℕ → Option Refusal
conflict_fault (Conflict kept) number = Some (refusals.RowConflict kept.amount kept.revision number)
conflict_fault _ number = None

-- The first rule that a row breaks, as the row of this number of its batch, at a moment.
abbrev pub row_fault : Bool → ℕ → ℕ → List Object → Row → RowVerdict → ℕ → Option Refusal
row_fault upgraded origin moment members row verdict number = first_some (
    form_fault upgraded (reading_named members row.sli) row number
    ∷ when (nat_lt row.minute origin) (refusals.Early row.minute origin number)
    ∷ when (nat_le moment row.minute) (refusals.OpenMinute row.minute moment number)
    ∷ conflict_fault verdict number
    ∷ [])

-- each row of a batch from this number on, with what becomes of it behind those before it
abbrev pub rows_faults : Bool → ℕ → ℕ → List Object → ℕ → List Row → List RowVerdict
    → List (Option Refusal)
rows_faults upgraded origin moment members number (row ∷ rows) (v ∷ vs) =
    row_fault upgraded origin moment members row v number
    ∷ rows_faults upgraded origin moment members (number + 1) rows vs
rows_faults upgraded origin moment members number _ _ = []

-- The first rule that a row of a batch breaks, each row judged behind those that came and
-- those before it.
abbrev pub batch_fault : Bool → ℕ → ℕ → List Object → List Row → List Row → Option Refusal
batch_fault upgraded origin moment members came rows =
    first_some (rows_faults upgraded origin moment members 1 rows (verdicts came rows))

abbrev pub is_newer : RowVerdict → Bool
is_newer (Newer kept) = true
is_newer _ = false

abbrev pub is_repeated : RowVerdict → Bool
is_repeated Repeated = true
is_repeated _ = false

abbrev pub is_superseded : RowVerdict → Bool
is_superseded (Superseded revision) = true
is_superseded _ = false

abbrev pub count : {A : Type 0} → (A → Bool) → List A → ℕ
count p xs = length (filter p xs)

-- the outcome of a batch: how many rows became what
abbrev pub batch_outcome : List RowVerdict → Option ℕ → Outcome
batch_outcome vs entry = Sampled entry (count is_new vs) (count is_newer vs) (count is_repeated vs)
    (count is_superseded vs)

-- the days that have a current row of an indicator
abbrev pub days_of : List Row → List ℕ → ℕ
days_of rows sli = length (first_of_each (λ a b. a == b)
    (map (λ (row : Row). row.minute / MINUTES_A_DAY) (filter (is_of sli) rows)))

abbrev pub days_of_slo : List Row → Option Slo → ℕ
days_of_slo rows None = 0
days_of_slo rows (Some slo) = length slo.objectives * days_of rows slo.indicator

-- how many pairs there are of an objective and a day that has a current row of its indicator
abbrev pub objective_days : List Object → List Row → ℕ
objective_days members rows = sum_by (λ (o : Object). days_of_slo rows (slo_in o.body)) members
