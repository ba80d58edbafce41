-- What is stored of rows: the numbers of each, and which amount it has.
use Rattle.std.specs.Prelude.{ℕ, suc, ◌≡◌, ◌≢◌, ◌+◌, ◌*◌, ◌/◌, ◌%◌, ◌≤◌, List, [], ◌∷◌, length}
use Rattle.std.specs.Prelude.{slice_index_or}
use Rattle.std.specs.List.{All}
use Rattle.slo_limits.specs.declared.TheConstants.{MAX_DECIMAL, WHOLE}
use Rattle.slice_method.specs.declared.Amount.{Amount}
use Rattle.slice_method.specs.declared.Amount.TheVariants as amounts
use Rattle.sample_book.specs.declared.stored.Form.{Form}
use Rattle.sample_book.specs.declared.stored.Form.TheVariants.{Events, Measured, Withdrawn}
use Rattle.sample_book.specs.declared.stored.Numbers.{Numbers}
use Rattle.sample_book.specs.declared.stored.Stored.{Stored}

-- the amount of a form with these numbers: a part and a total, or whole units and billionths
abbrev pub amount_of : Form → ℕ → ℕ → Amount
amount_of Events first second = amounts.Counts first second
amount_of Measured first second = amounts.Value (first * WHOLE + second)
amount_of Withdrawn first second = amounts.Withdrawn

-- the form of an amount
abbrev pub form_of : Amount → Form
form_of (amounts.Counts part total) = Events
form_of (amounts.Value value) = Measured
form_of amounts.Withdrawn = Withdrawn

-- the two numbers of an amount
abbrev pub pair_of : Amount → ℕ × ℕ
pair_of (amounts.Counts part total) = (part, total)
pair_of (amounts.Value value) = (value / WHOLE, value % WHOLE)
pair_of amounts.Withdrawn = (0, 0)

-- a measured value is a decimal
abbrev pub IsAmount : Amount → Type 0
IsAmount (amounts.Counts part total) = Unit {0}
IsAmount (amounts.Value value) = value ≤ MAX_DECIMAL
IsAmount amounts.Withdrawn = Unit {0}

-- so it is where a row is stored
abbrev pub HasAmount : Stored → Type 0
HasAmount stored = IsAmount stored.amount

-- the numbers of a row
abbrev pub numbers_of : Stored → Numbers
numbers_of stored = record {
  revision = stored.revision;
  first = (pair_of stored.amount).0;
  second = (pair_of stored.amount).1;
}

-- the row of a form with these numbers
abbrev pub stored_as : Form → Numbers → Stored
stored_as form numbers = record {
  revision = numbers.revision;
  amount = amount_of form numbers.first numbers.second;
}

-- the form at a place: rows behind the last form count events
abbrev pub form_at : List Form → ℕ → Form
form_at forms place = slice_index_or forms place Events

-- the rows with these numbers, of the form at each place
abbrev pub rows_of : List Numbers → (ℕ → Form) → List Stored
rows_of [] form = []
rows_of (n ∷ numbers) form = stored_as (form 0) n ∷ rows_of numbers (λ place. form (suc place))

-- the forms are the old ones but at one place
pub record IsSetAt (old new : ℕ → Form) (place : ℕ) (form : Form) : Type 0 where
  pub there : new place ≡ form
  pub others : (other : ℕ) → other ≢ place → new other ≡ old other

-- rows, and for how many there is room
pub record KeptRows : Type 0 where
  pub rows : List Stored
  pub capacity : ℕ

-- no form is behind the rows, there is room for one of each, and measured values are decimals
pub record AreStored (numbers : List Numbers) (forms : List Form) (room : ℕ) : Type 0 where
  pub short : length forms ≤ length numbers
  pub ready : length numbers ≤ room
  pub decimals : All HasAmount (rows_of numbers (form_at forms))
