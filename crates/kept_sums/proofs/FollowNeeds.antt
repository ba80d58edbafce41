-- What the sums of an objective need to follow rows or an exclusion.
use Rattle.std.proofs.Common.{Bool, List, [], ◌∷◌}
use Rattle.std.specs.List.{AllByRecursion}
use Rattle.sample_book.specs.declared.Exclusion.{Exclusion}
use Rattle.sample_book.specs.declared.Row.{Row}
use Rattle.kept_sums.specs.Sums.{RowFits, HasItsDay, SumsAreKept}
use Rattle.kept_sums.specs.Objectives.{AreKept, HaveDays, HaveForms}
use Rattle.kept_sums.specs.declared.kept.ObjectiveSums.{ObjectiveSums}

-- the sums of an objective may follow these rows over those of the book
pub record MayFollow (made : List (Exclusion × Bool)) (before rows : List Row)
    (k : ObjectiveSums) : Type 0 where
  pub kept : SumsAreKept k.measure made before k.sums
  pub forms : AllByRecursion (RowFits k.measure) before
  pub fit : AllByRecursion (RowFits k.measure) rows
  pub days : AllByRecursion (HasItsDay k.measure k.sums) rows

pub all_may_follow : (made : List (Exclusion × Bool)) (before rows : List Row)
    (kept : List ObjectiveSums) → AreKept made before kept → HaveForms before kept →
    HaveForms rows kept → HaveDays rows kept → AllByRecursion (MayFollow made before rows) kept
all_may_follow made before rows [] sums forms fit days = tt
all_may_follow made before rows (k ∷ kept) sums forms fit days = (
  record { kept = sums.0; forms = forms.0; fit = fit.0; days = days.0 },
  all_may_follow made before rows kept sums.1 forms.1 fit.1 days.1,
)

-- the sums of an objective may follow an exclusion over the rows of the book
pub record MayTurn (made : List (Exclusion × Bool)) (rows : List Row) (k : ObjectiveSums) : Type
    0 where
  pub kept : SumsAreKept k.measure made rows k.sums
  pub forms : AllByRecursion (RowFits k.measure) rows

pub all_may_turn : (made : List (Exclusion × Bool)) (rows : List Row) (kept : List ObjectiveSums) →
    AreKept made rows kept → HaveForms rows kept → AllByRecursion (MayTurn made rows) kept
all_may_turn made rows [] sums forms = tt
all_may_turn made rows (k ∷ kept) sums forms =
    (record { kept = sums.0; forms = forms.0 }, all_may_turn made rows kept sums.1 forms.1)
