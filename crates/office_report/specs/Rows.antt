-- What is told of one SLO.
use Rattle.std.specs.Prelude.{◌≡◌, ℕ, List, Option, option_map}
use Rattle.burn_core.specs.declared.State.{State}
use Rattle.catalog_terms.specs.declared.Binding.{Binding}
use Rattle.record_form.specs.declared.BudgetRow.{BudgetRow}
use Rattle.office_history.specs.declared.Measure.{Measure}
use Rattle.office_history.specs.Answers.{budget_rows}
use Rattle.office_history.specs.Catalog.{catalog_in}
use Rattle.office_history.specs.History.{Office}
use Rattle.office_history.specs.Notices.{samples_in}
use Rattle.office_history.specs.Objectives.{measures_named, slo_named}
use Rattle.office_report.specs.Report.{BeginsFor, slo_lines}

-- the budgets of objectives at a minute, where their window begins; none where it has not begun
abbrev pub rows_from : Office → ℕ → List Measure → Option ℕ → Option (List BudgetRow)
rows_from o at measures start =
    option_map (λ from. budget_rows (samples_in o.history) from at 0 measures) start

-- the budgets of the objectives of an SLO
pub record AreRows (o : Office) (at : ℕ) (name : List ℕ) (rows : Option (List BudgetRow)) :
    Type 0 where
  pub start : Option ℕ
  pub begins : BeginsFor o at (slo_named (catalog_in o.history) name) start
  pub counted : rows ≡ rows_from o at (measures_named (catalog_in o.history) name) start

-- the lines of an SLO
pub record AreSloLines (states : List (Binding × State)) (o : Office) (at : ℕ) (name : List ℕ)
    (lines : List ℕ) : Type 0 where
  pub start : Option ℕ
  pub begins : BeginsFor o at (slo_named (catalog_in o.history) name) start
  pub told : lines ≡ slo_lines states o at (record { name = name; start = start })
