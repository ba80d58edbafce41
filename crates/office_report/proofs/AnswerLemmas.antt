-- What an office answers when it is asked for the budgets of an SLO at a minute of its range.
use Rattle.std.proofs.Common.{◌≡◌, ◌≤◌, ◌⊎◌, ℕ, inl, inr, Bool, true, false, cond, List, Option}
use Rattle.std.proofs.Common.{Some, None, refl, arith}
use Rattle.std.proofs.lemmas.Bool.Decides.{nat_tests}
use Rattle.object_terms.specs.declared.Slo.{Slo}
use Rattle.record_form.specs.declared.BudgetRow.{BudgetRow}
use Rattle.record_form.specs.declared.Outcome.{Outcome}
use Rattle.record_form.specs.declared.Outcome.TheVariants.{Budgets, NoMemory, Refused}
use Rattle.record_form.specs.declared.Query.TheVariants as queries
use Rattle.record_form.specs.declared.Refusal.{Refusal}
use Rattle.record_form.specs.declared.Refusal.TheVariants as refusals
use Rattle.office_history.specs.declared.Measure.{Measure}
use Rattle.office_history.specs.Answers.{Answers, AnswersBudgets, budgets_from, is_outside}
use Rattle.office_history.specs.Catalog.{catalog_in}
use Rattle.office_history.specs.History.{Office, end_of}
use Rattle.office_history.specs.Objectives.{measures_named, slo_named}
use Rattle.office_history.specs.Windows.{WindowBegins}
use Rattle.office_history.specs.Zones.{zones_in}
use Rattle.office_report.specs.Report.{BeginsFor}
use Rattle.office_report.specs.Rows.{AreRows}

-- the budgets are refused where no window begins
not_begun : (o : Office) (at : ℕ) (slo : Slo) (refusal : Refusal) (ms : List Measure)
    (start : Option ℕ) →
    WindowBegins (zones_in o.history) slo.time_window (end_of o.origin) at start →
    Refused refusal ≡ budgets_from o at ms start →
    WindowBegins (zones_in o.history) slo.time_window (end_of o.origin) at None
not_begun o at slo refusal ms None begins is = begins
not_begun o at slo refusal ms (Some from) begins is = cc is

not_begun_at : (o : Office) (moment at : ℕ) (name : List ℕ) (slo : Option Slo)
    (refusal : Refusal) → is_outside o moment at ≡ false →
    AnswersBudgets o moment name at slo (Refused refusal) → BeginsFor o at slo None
not_begun_at o moment at name None refusal inside is = refl
not_begun_at o moment at name (Some slo) refusal inside is =
    by (is_outside o moment at) inside is
  where
    ms : List Measure
    ms = measures_named (catalog_in o.history) name

    by : (outside : Bool) → outside ≡ false →
        cond outside (Refused refusal ≡ Refused refusals.Range)
        ((start : Option ℕ)
        × WindowBegins (zones_in o.history) slo.time_window (end_of o.origin) at start
        × (Refused refusal ≡ budgets_from o at ms start)) →
        WindowBegins (zones_in o.history) slo.time_window (end_of o.origin) at None
    by true inside is = cc inside
    by false inside is = not_begun o at slo refusal ms is.0 is.1 is.2

-- a refusal says that no window had begun: there are no budgets
pub refused_rows : (o : Office) (moment at : ℕ) (name : List ℕ) (refusal : Refusal) →
    o.origin ≤ at → at ≤ moment →
    Answers o moment (queries.Budgets name (Some at)) (Refused refusal)
    ⊎ (Refused refusal ≡ NoMemory) → AreRows o at name None
refused_rows o moment at name refusal begun past (inr memory) = cc memory
refused_rows o moment at name refusal begun past (inl is) =
    let inside : is_outside o moment at ≡ false = grind (arith, nat_tests, begun, past) in
    record {
      start = None;
      begins =
          not_begun_at o moment at name (slo_named (catalog_in o.history) name) refusal inside is;
      counted = refl;
    }

-- it answers with budgets or a refusal, unless memory ran out
pub nothing_else : (o : Office) (moment at : ℕ) (name : List ℕ) (outcome : Outcome) →
    Answers o moment (queries.Budgets name (Some at)) outcome ⊎ (outcome ≡ NoMemory) →
    ((at : ℕ) (rows : List BudgetRow) (entries : ℕ) → outcome ≡ Budgets at rows entries → ⊥) →
    ((refusal : Refusal) → outcome ≡ Refused refusal → ⊥) → (outcome ≡ NoMemory → ⊥) → ⊥
nothing_else o moment at name outcome (inr is) budgets refused memory = memory is
nothing_else o moment at name outcome (inl is) budgets refused memory =
    by (slo_named (catalog_in o.history) name) is
  where
    ms : List Measure
    ms = measures_named (catalog_in o.history) name

    by_start : (start : Option ℕ) → outcome ≡ budgets_from o at ms start → ⊥
    by_start None is = refused (refusals.NoWindow at) is
    by_start (Some begin) is = budgets at _ _ is

    within : (slo : Slo) (outside : Bool) → cond outside (outcome ≡ Refused refusals.Range)
        ((start : Option ℕ)
        × WindowBegins (zones_in o.history) slo.time_window (end_of o.origin) at start
        × (outcome ≡ budgets_from o at ms start)) → ⊥
    within slo true is = refused refusals.Range is
    within slo false is = by_start is.0 is.2

    by : (slo : Option Slo) → AnswersBudgets o moment name at slo outcome → ⊥
    by None is = refused refusals.NotFound is
    by (Some slo) is = within slo (is_outside o moment at) is
