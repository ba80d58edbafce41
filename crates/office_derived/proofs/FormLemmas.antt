-- What is known of rows whose indicators a catalog has.
use Rattle.std.proofs.Common.{◌≡◌, Bool, false, true, List, [], ◌∷◌, Option, Some, ap, sym, subst}
use Rattle.std.proofs.Common.{◌∙◌}
use Rattle.std.specs.List.{AllByRecursion}
use Rattle.std.proofs.lemmas.List.Elements.{recursion_from_All}
use Rattle.std.proofs.lemmas.Slice.Eq.{bytes_eq-Decides}
use Rattle.slice_method.specs.declared.Reading.{Reading}
use Rattle.slice_method.specs.Readings.{HasForm}
use Rattle.sample_book.specs.declared.Row.{Row}
use Rattle.object_terms.specs.declared.Object.{Object}
use Rattle.kept_sums.specs.Sums.{RowFits}
use Rattle.kept_sums.specs.declared.ObjectiveSums.{ObjectiveSums}
use Rattle.kept_sums.specs.Objectives.{IsLike, IsObjective}
use Rattle.kept_sums.proofs.ObjectiveLemmas.{named}
use Rattle.kept_sums.proofs.SharedLemmas.{fit-alike}
use Rattle.office_history.specs.declared.Measure.{Measure}
use Rattle.office_history.specs.Objectives.{reading_named}
use Rattle.office_derived.specs.declared.derived.Derived.{Derived}
use Rattle.office_derived.specs.Derived.{IsSound, RowIsRead}

fits : (members : List Object) (m : Measure) (row : Row) → IsObjective members m →
    RowIsRead members row → RowFits m row
fits members m row is read own =
    let known = named members m.slo is.number m is.there in
    let same : row.sli ≡ m.sli = (bytes_eq-Decides row.sli m.sli).0 own in
    let both : ◌≡◌ {A = Option Reading} (Some read.0) (Some m.reading) =
    sym read.1 ∙ ap (reading_named members) same ∙ known.reading in
    let reading : read.0 ≡ m.reading = cc both in
    (subst (λ r. HasForm r row.amount) reading read.2, read.3)

-- each row that the catalog reads has the form that an objective wants
pub all_fit : (members : List Object) (m : Measure) (rows : List Row) → IsObjective members m →
    AllByRecursion (RowIsRead members) rows → AllByRecursion (RowFits m) rows
all_fit members m [] is read = tt
all_fit members m (row ∷ rows) is read =
    (fits members m row is read.0, all_fit members m rows is read.1)

-- and so for all sums that count as objectives do
pub all_forms : (members : List Object) (pool : Bool) (kept : List ObjectiveSums)
    (rows : List Row) →
    AllByRecursion (λ (k : ObjectiveSums). IsLike members pool k.measure) kept →
    AllByRecursion (RowIsRead members) rows →
    AllByRecursion (λ (k : ObjectiveSums). AllByRecursion (RowFits k.measure) rows) kept
all_forms members pool [] rows only read = tt
all_forms members pool (k ∷ kept) rows only read = (
  fit-alike pool only.0.other k.measure rows only.0.alike
      (all_fit members only.0.other rows only.0.is read),
  all_forms members pool kept rows only.1 read,
)

-- the rows of the book, where what is kept is sound
pub sound_forms : (d : Derived) → IsSound d →
    AllByRecursion (λ (k : ObjectiveSums). AllByRecursion (RowFits k.measure) d.book.rows)
    d.sums.own
sound_forms d s =
    all_forms d.catalog false d.sums.own d.book.rows s.sums.own_only
    (recursion_from_All (RowIsRead d.catalog) d.book.rows s.read)

pub sound_pooled_forms : (d : Derived) → IsSound d →
    AllByRecursion (λ (k : ObjectiveSums). AllByRecursion (RowFits k.measure) d.book.rows)
    d.sums.pooled
sound_pooled_forms d s =
    all_forms d.catalog true d.sums.pooled d.book.rows s.sums.pooled_only
    (recursion_from_All (RowIsRead d.catalog) d.book.rows s.read)

-- an objective of the catalog fits the rows of the book
pub objective_forms : (d : Derived) → IsSound d → (m : Measure) → IsObjective d.catalog m →
    AllByRecursion (RowFits m) d.book.rows
objective_forms d s m is =
    all_fit d.catalog m d.book.rows is
    (recursion_from_All (RowIsRead d.catalog) d.book.rows s.read)
