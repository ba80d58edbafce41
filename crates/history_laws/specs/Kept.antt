-- What legal histories keep.
use Rattle.std.specs.Prelude.{ℕ, ◌≤◌, List}
use Rattle.std.specs.List.{AllByRecursion}
use Rattle.slo_limits.specs.declared.TheConstants.{MAX_DAYS}
use Rattle.record_form.specs.declared.Entry.{Entry}
use Rattle.office_history.specs.Batches.{objective_days}
use Rattle.office_history.specs.Catalog.{catalog_in}
use Rattle.office_history.specs.History.{rows_in, current_in}
use Rattle.office_history.specs.Legal.{IsLegal}
use Rattle.office_derived.specs.Derived.{RowIsRead}

-- each row of the batches is read: its indicator is in the catalog, and its amount has the form of
-- the indicator's reading
abbrev pub RowsAreRead : Type 0
RowsAreRead = (origin : ℕ) (h : List Entry) → IsLegal origin h →
    AllByRecursion (RowIsRead (catalog_in h)) (rows_in h)

-- so is each current row
abbrev pub CurrentRowsAreRead : Type 0
CurrentRowsAreRead = (origin : ℕ) (h : List Entry) → IsLegal origin h →
    AllByRecursion (RowIsRead (catalog_in h)) (current_in h)

-- the pairs of an objective and a day that has a current row of its indicator stay within their
-- limit
abbrev pub DaysAreFew : Type 0
DaysAreFew = (origin : ℕ) (h : List Entry) → IsLegal origin h →
    objective_days (catalog_in h) (current_in h) ≤ MAX_DAYS
