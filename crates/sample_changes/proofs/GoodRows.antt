-- What rows are that break no rule.
use Rattle.std.proofs.Common.{◌≡◌, ℕ, ◌+◌, ◌≤◌, ◌<◌, ◌||◌, List, [], ◌∷◌, Bool, true, false, nat_lt}
use Rattle.std.proofs.Common.{nat_le, refl, arith, length, Option, Some, None}
use Rattle.std.specs.List.{AllByRecursion}
use Rattle.std.proofs.lemmas.Bool.Decides.{nat_tests}
use Rattle.slo_limits.specs.declared.TheConstants.{WHOLE, MAX_AMOUNT}
use Rattle.slice_method.specs.declared.Amount.{Amount}
use Rattle.slice_method.specs.declared.Amount.TheVariants as amounts
use Rattle.slice_method.specs.declared.Reading.{Reading}
use Rattle.slice_method.specs.declared.Reading.TheVariants.{Good, Bad, Threshold, RawSuccess}
use Rattle.slice_method.specs.declared.Reading.TheVariants.{RawFailure}
use Rattle.slice_method.specs.Readings.{HasForm, IsSmall}
use Rattle.sample_book.specs.declared.Row.{Row}
use Rattle.sample_book.specs.declared.RowVerdict.{RowVerdict}
use Rattle.sample_book.specs.declared.RowVerdict.TheVariants.{New, Newer, Repeated, Superseded}
use Rattle.sample_book.specs.declared.RowVerdict.TheVariants.{Conflict}
use Rattle.sample_book.specs.Puts.{is_conflict}
use Rattle.object_terms.specs.declared.Object.{Object}
use Rattle.record_form.specs.declared.Refusal.{Refusal}
use Rattle.record_form.specs.declared.Refusal.TheVariants as refusals
use Rattle.office_history.specs.Lists.{first_some}
use Rattle.office_history.specs.Objectives.{reading_named}
use Rattle.office_history.specs.Batches.{when, amount_fault, form_fault, conflict_fault, row_fault}
use Rattle.office_history.specs.Batches.{rows_faults, version_fault}
use Rattle.office_derived.specs.Derived.{RowIsRead}

-- A row that breaks no rule of its own: it is read, and its minute is over and not
-- before the origin.
pub record IsGood (origin moment : ℕ) (members : List Object) (row : Row) : Type 0 where
  pub read : RowIsRead members row
  pub begun : origin ≤ row.minute
  pub over : row.minute < moment

no_fault : (b : Bool) (refusal : Refusal) → when b refusal ≡ None → b ≡ false
no_fault true refusal h = cc h
no_fault false refusal h = refl

pub record IsForm (reading : Reading) (amount : Amount) : Type 0 where
  pub form : HasForm reading amount
  pub small : IsSmall amount

counts_form : (part total : ℕ) → (nat_lt total part || nat_lt MAX_AMOUNT total) ≡ false
    → (part ≤ total) × (total ≤ WHOLE)
counts_form part total h = (grind (arith, nat_tests, h), grind (arith, nat_tests, h))

share_form : (measured : ℕ) → nat_lt WHOLE measured ≡ false → measured ≤ WHOLE
share_form measured h = grind (arith, nat_tests, h)

has_form : (reading : Reading) (amount : Amount) (number : ℕ)
    → amount_fault reading amount number ≡ None → IsForm reading amount
has_form Good (amounts.Counts part total) number h =
    let parts = counts_form part total
    (no_fault (nat_lt total part || nat_lt MAX_AMOUNT total) (refusals.Counts number) h) in
    record { form = parts.0; small = parts.1 }
has_form Bad (amounts.Counts part total) number h =
    let parts = counts_form part total
    (no_fault (nat_lt total part || nat_lt MAX_AMOUNT total) (refusals.Counts number) h) in
    record { form = parts.0; small = parts.1 }
has_form Threshold (amounts.Counts part total) number h = cc h
has_form RawSuccess (amounts.Counts part total) number h = cc h
has_form RawFailure (amounts.Counts part total) number h = cc h
has_form Good (amounts.Value measured) number h = cc h
has_form Bad (amounts.Value measured) number h = cc h
has_form Threshold (amounts.Value measured) number h = record { form = tt; small = tt }
has_form RawSuccess (amounts.Value measured) number h = record {
  form =
      share_form measured (no_fault (nat_lt WHOLE measured) (refusals.Counts number) h);
  small = tt;
}
has_form RawFailure (amounts.Value measured) number h = record {
  form =
      share_form measured (no_fault (nat_lt WHOLE measured) (refusals.Counts number) h);
  small = tt;
}
has_form Good amounts.Withdrawn number h = record { form = tt; small = tt }
has_form Bad amounts.Withdrawn number h = record { form = tt; small = tt }
has_form Threshold amounts.Withdrawn number h = record { form = tt; small = tt }
has_form RawSuccess amounts.Withdrawn number h = record { form = tt; small = tt }
has_form RawFailure amounts.Withdrawn number h = record { form = tt; small = tt }

pub first_parts : {A : Type 0} (x : Option A) (xs : List (Option A)) → first_some (x ∷ xs) ≡ None
    → (x ≡ None) × (first_some xs ≡ None)
first_parts None xs h = (refl, h)
first_parts (Some a) xs h = cc h

-- an office that is upgraded or not takes the amount, in whatever place of a batch
abbrev pub IsTaken : Bool → Amount → Type 0
IsTaken upgraded amount = (number : ℕ) → version_fault upgraded amount number ≡ None

is_taken : (upgraded : Bool) (amount : Amount) (number : ℕ)
    → version_fault upgraded amount number ≡ None → IsTaken upgraded amount
is_taken upgraded (amounts.Counts part total) number h = λ n. refl
is_taken upgraded (amounts.Value measured) number h = λ n. refl
is_taken true amounts.Withdrawn number h = λ n. refl
is_taken false amounts.Withdrawn number h = cc h

-- a row that breaks no rule of form
record IsFormed (upgraded : Bool) (members : List Object) (row : Row) : Type 0 where
  read : RowIsRead members row
  taken : IsTaken upgraded row.amount

is_formed : (upgraded : Bool) (members : List Object) (row : Row) (o : Option Reading) (number : ℕ)
    → reading_named members row.sli ≡ o → form_fault upgraded o row number ≡ None
    → IsFormed upgraded members row
is_formed upgraded members row None number e h = cc h
is_formed upgraded members row (Some reading) number e h =
    let amount = amount_fault reading row.amount number in
    let a = first_parts (version_fault upgraded row.amount number) (amount ∷ []) h in
    let f = has_form reading row.amount number (first_parts amount [] a.1).0 in
    record {
      read = (reading, e, f.form, f.small);
      taken = is_taken upgraded row.amount number a.0;
    }

no_conflict : (v : RowVerdict) (number : ℕ) → conflict_fault v number ≡ None → is_conflict v ≡ false
no_conflict New number h = refl
no_conflict (Newer kept) number h = refl
no_conflict Repeated number h = refl
no_conflict (Superseded revision) number h = refl
no_conflict (Conflict kept) number h = cc h

-- a row that breaks no rule, and its verdict
pub record IsClean (upgraded : Bool) (origin moment : ℕ) (members : List Object) (row : Row)
    (v : RowVerdict) : Type 0 where
  pub good : IsGood origin moment members row
  pub agrees : is_conflict v ≡ false
  pub taken : IsTaken upgraded row.amount

pub clean_row : (upgraded : Bool) (origin moment : ℕ) (members : List Object) (row : Row)
    (v : RowVerdict) (number : ℕ) → row_fault upgraded origin moment members row v number ≡ None
    → IsClean upgraded origin moment members row v
clean_row upgraded origin moment members row v number h =
    let early = when (nat_lt row.minute origin) (refusals.Early row.minute origin number) in
    let open_minute =
    when (nat_le moment row.minute) (refusals.OpenMinute row.minute moment number) in
    let a = first_parts (form_fault upgraded (reading_named members row.sli) row number)
    (early ∷ open_minute ∷ conflict_fault v number ∷ []) h in
    let b = first_parts early (open_minute ∷ conflict_fault v number ∷ []) a.1 in
    let c = first_parts open_minute (conflict_fault v number ∷ []) b.1 in
    let d = first_parts (conflict_fault v number) [] c.1 in
    let formed =
    is_formed upgraded members row (reading_named members row.sli) number refl a.0 in
    record {
      good = record {
        read = formed.read;
        begun = begun row.minute origin
            (no_fault (nat_lt row.minute origin) (refusals.Early row.minute origin number) b.0);
        over = over moment row.minute (no_fault (nat_le moment row.minute)
            (refusals.OpenMinute row.minute moment number) c.0);
      };
      agrees = no_conflict v number d.0;
      taken = formed.taken;
    }
  where
    begun : (m n : ℕ) → nat_lt m n ≡ false → n ≤ m
    begun m n h = grind (arith, nat_tests, h)

    over : (m n : ℕ) → nat_le m n ≡ false → n < m
    over m n h = grind (arith, nat_tests, h)

-- The rows of a batch that breaks no rule are good.
pub good_rows : (upgraded : Bool) (origin moment : ℕ) (members : List Object) (number : ℕ)
    (rows : List Row) (vs : List RowVerdict) → length vs ≡ length rows →
    first_some (rows_faults upgraded origin moment members number rows vs) ≡ None →
    AllByRecursion (IsGood origin moment members) rows
good_rows upgraded origin moment members number [] vs each h = tt
good_rows upgraded origin moment members number (row ∷ rows) [] each h = absurd
    (omega (arith, each))
good_rows upgraded origin moment members number (row ∷ rows) (v ∷ vs) each h =
    let parts = first_parts (row_fault upgraded origin moment members row v number)
    (rows_faults upgraded origin moment members (number + 1) rows vs) h in (
      (clean_row upgraded origin moment members row v number parts.0).good,
      good_rows upgraded origin moment members (number + 1) rows vs (omega (arith, each)) parts.1,
    )
