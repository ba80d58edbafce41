-- The lines of SLOs, one after another.
use Rattle.std.proofs.Common.{◌≡◌, ◌∙◌, ◌<◌, ◌≤◌, ℕ, ◌+◌, suc, List, [], ◌∷◌, ◌++◌, length, get_or}
use Rattle.std.proofs.Common.{drop, Option, Some, None, Result, Ok, Err, IfOk, refl, ap, sym, subst}
use Rattle.std.proofs.Common.{flat_map, append_assoc, add-one}
use Rattle.std.proofs.Math.Seq.{drop-cons}
use Rattle.std.proofs.lemmas.List.{append-nil, drop_all}
use Rattle.std.specs.List.{enumerate_from}
use Rattle.burn_core.specs.declared.State.{State}
use Rattle.catalog_terms.specs.declared.Binding.{Binding}
use Rattle.record_form.specs.declared.BudgetRow.{BudgetRow}
use Rattle.office_history.specs.declared.Measure.{Measure}
use Rattle.office_history.specs.Answers.{budget_row, budget_rows}
use Rattle.office_history.specs.Catalog.{catalog_in}
use Rattle.office_history.specs.Counts.{Samples, sum_between}
use Rattle.office_history.specs.History.{Office}
use Rattle.office_history.specs.Notices.{samples_in}
use Rattle.office_history.specs.Objectives.{measures_named}
use Rattle.office_report.specs.Lines.{objective_lines, row_words}
use Rattle.office_report.specs.Report.{AreLines, budget_words, slo_lines}
use Rattle.office_report.specs.Rows.{AreRows, AreSloLines, rows_from}

abbrev pub row_lines : List (Binding × State) → List ℕ → BudgetRow → List ℕ
row_lines states name row = objective_lines states name row.objective (row_words row)

-- the budgets of objectives, told one after another
pub rows_tell : (states : List (Binding × State)) (s : Samples) (name : List ℕ)
    (from at number : ℕ) (ms : List Measure) →
    flat_map (row_lines states name) (budget_rows s from at number ms)
    ≡ flat_map (λ p. objective_lines states name p.0 (budget_words s at p.0 p.1 (Some from)))
    (enumerate_from number ms)
rows_tell states s name from at number [] = refl
rows_tell states s name from at number (m ∷ ms) =
    let row = budget_row from number m.target (sum_between s m from at) in
    ap (λ (rest : List ℕ). objective_lines states name number (row_words row) ++ rest)
    (rows_tell states s name from at (number + 1) ms)

counted_lines_of : (states : List (Binding × State)) (o : Office) (at : ℕ) (name : List ℕ)
    (rows : List BudgetRow) (start : Option ℕ) →
    Some rows ≡ rows_from o at (measures_named (catalog_in o.history) name) start →
    flat_map (row_lines states name) rows
    ≡ slo_lines states o at (record { name = name; start = start })
counted_lines_of states o at name rows None is = cc is
counted_lines_of states o at name rows (Some from) is =
    let ms = measures_named (catalog_in o.history) name in
    let same : rows ≡ budget_rows (samples_in o.history) from at 0 ms = cc is in
    ap (flat_map (row_lines states name)) same
    ∙ rows_tell states (samples_in o.history) name from at 0 ms

-- the lines of budgets that are counted are an SLO's
pub if_counted : {V E : Type 0} (items : V → List ℕ) (result : Result V E)
    (states : List (Binding × State)) (o : Office) (at : ℕ) (name : List ℕ)
    (rows : List BudgetRow) → AreRows o at name (Some rows) →
    IfOk result (λ v. items v ≡ flat_map (row_lines states name) rows) →
    IfOk result (λ v. AreSloLines states o at name (items v))
if_counted items (Ok v) states o at name rows k is = record {
  start = k.start;
  begins = k.begins;
  told = is ∙ counted_lines_of states o at name rows k.start k.counted;
}
if_counted items (Err e) states o at name rows k is = tt

-- no names have no lines
no_lines : (states : List (Binding × State)) (o : Office) (at : ℕ) → AreLines states o at [] []
no_lines states o at =
    record { windows = []; stand = record { all = refl; begun = tt }; told = refl }

-- the lines of one SLO before those of the others
with_lines : (states : List (Binding × State)) (o : Office) (at : ℕ) (name : List ℕ)
    (names : List (List ℕ)) (line lines : List ℕ) → AreSloLines states o at name line →
    AreLines states o at names lines → AreLines states o at (name ∷ names) (line ++ lines)
with_lines states o at name names line lines one more = record {
  windows = record { name = name; start = one.start } ∷ more.windows;
  stand = record {
    all = ap (λ (rest : List (List ℕ)). name ∷ rest) more.stand.all;
    begun = (one.begins, more.stand.begun);
  };
  told = λ i. one.told i ++ more.told i;
}

-- the lines so far, before those that are left
abbrev pub Leads : List (Binding × State) → Office → ℕ → List (List ℕ) → ℕ → List ℕ → Type 0
Leads states o at names i lines = (rest : List ℕ) → AreLines states o at (drop i names) rest →
    AreLines states o at names (lines ++ rest)

pub one_more : (states : List (Binding × State)) (o : Office) (at : ℕ) (names : List (List ℕ))
    (i : ℕ) (name lines line lines' : List ℕ) → i < length names → name ≡ get_or names i name →
    Leads states o at names i lines → AreSloLines states o at name line →
    lines' ≡ lines ++ line → Leads states o at names (i + 1) lines'
one_more states o at names i name lines line lines' below item before one is rest more =
    let others = drop (suc i) names in
    let ahead : drop i names ≡ name ∷ others =
    drop-cons names i name below ∙ ap (λ (x : List ℕ). x ∷ others) (sym item) in
    let later : AreLines states o at others rest = rw add-one at more in
    let both = with_lines states o at name others line rest one later in
    let told = before (line ++ rest)
    (subst (λ (ns : List (List ℕ)). AreLines states o at ns (line ++ rest)) (sym ahead) both) in
    subst (AreLines states o at names)
    (sym (ap (λ (ls : List ℕ). ls ++ rest) is ∙ append_assoc lines line rest)) told

pub all_told : (states : List (Binding × State)) (o : Office) (at : ℕ) (names : List (List ℕ))
    (i : ℕ) (lines : List ℕ) → length names ≤ i → Leads states o at names i lines →
    AreLines states o at names lines
all_told states o at names i lines past before =
    subst (AreLines states o at names) (append-nil lines)
    (before []
    (subst (λ (ns : List (List ℕ)). AreLines states o at ns []) (sym (drop_all i names past))
    (no_lines states o at)))
