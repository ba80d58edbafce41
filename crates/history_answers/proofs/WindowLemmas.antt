-- What is kept answers the windows of the history that it reflects.
use Rattle.std.proofs.Common.{◌≡◌, ◌∙◌, ◌+◌, ◌<◌, ◌≤◌, ℕ, Bool, true, false, cond, List}
use Rattle.std.proofs.Common.{[], ◌∷◌, ◌++◌, Option, Some, drop, get_or, length, sym}
use Rattle.std.proofs.Common.{ap, subst, append_assoc, append-nil, Result, Ok, Err, IfOk, arith}
use Rattle.std.proofs.lemmas.Bool.Decides.{nat_tests}
use Rattle.object_terms.specs.declared.Slo.{Slo}
use Rattle.record_form.specs.declared.BudgetRow.{BudgetRow}
use Rattle.record_form.specs.declared.Outcome.{Outcome}
use Rattle.record_form.specs.declared.Outcome.TheVariants.{Refused}
use Rattle.record_form.specs.declared.Refusal.TheVariants as refusals
use Rattle.record_form.specs.declared.WindowRow.{WindowRow}
use Rattle.office_history.specs.Answers.{AnswersWindows, end_before, is_stretch, window_rows}
use Rattle.office_history.specs.Answers.{windows_of}
use Rattle.office_history.specs.Catalog.{catalog_in}
use Rattle.office_history.specs.History.{Office, end_of}
use Rattle.office_history.specs.Objectives.{measures_named}
use Rattle.office_history.specs.Windows.{AreStartsIn, IsFirstFrom, IsStart}
use Rattle.office_history.specs.Zones.{zones_in}
use Rattle.office_derived.specs.declared.Derived.{Derived}
use Rattle.office_derived.specs.Derived.{Reflects}
use Rattle.office_derived.proofs.Lists.{all_past, from_index}
use Rattle.history_answers.specs.Starts.{AreBegun, AreOpen}

-- where the window ends that begins before a place
pub end_there : (starts : List ℕ) (place start d : ℕ) (next : Option ℕ) → place < length starts
    → start ≡ get_or starts place d → Some start ≡ end_before (drop place starts) next
end_there starts place start d next below there =
    ap (λ (ss : List ℕ). end_before ss next) (sym (from_index place starts start d below there))

pub end_past : (starts : List ℕ) (place : ℕ) (next : Option ℕ) → length starts ≤ place
    → next ≡ end_before (drop place starts) next
end_past starts place next past =
    ap (λ (ss : List ℕ). end_before ss next) (sym (all_past place starts past))

pub ruleset ends = (end_there, end_past)

-- the window that begins at a minute and ends at another
abbrev pub row_to : (ℕ → Option ℕ → List BudgetRow) → ℕ → Option ℕ → WindowRow
row_to budgets from to = record { budgets = budgets from to; from = from; to = to }

-- one row more
pub row_more : (budgets : ℕ → Option ℕ → List BudgetRow) (starts : List ℕ) (next : Option ℕ)
    (place start d : ℕ) (row : WindowRow) (old new : List WindowRow) → place < length starts
    → start ≡ get_or starts place d
    → row ≡ row_to budgets start (end_before (drop (place + 1) starts) next)
    → new ≡ old ++ row ∷ []
    → old ++ window_rows budgets (drop place starts) next ≡ window_rows budgets starts next
    → new ++ window_rows budgets (drop (place + 1) starts) next ≡ window_rows budgets starts next
row_more budgets starts next place start d row old new below there is gained h =
    let rest : List WindowRow = window_rows budgets (drop (place + 1) starts) next in
    let here : window_rows budgets (drop place starts) next ≡ row ∷ rest =
    ap (λ (ss : List ℕ). window_rows budgets ss next) (from_index place starts start d below there)
    ∙ ap (λ (r : WindowRow). r ∷ rest) (sym is) in
    ap (λ (rs : List WindowRow). rs ++ rest) gained ∙ append_assoc old (row ∷ []) rest
    ∙ ap (λ (rs : List WindowRow). old ++ rs) (sym here) ∙ h

-- all rows
pub rows_end : (budgets : ℕ → Option ℕ → List BudgetRow) (starts : List ℕ) (next : Option ℕ)
    (place : ℕ) (rows : List WindowRow) → length starts ≤ place
    → rows ++ window_rows budgets (drop place starts) next ≡ window_rows budgets starts next
    → rows ≡ window_rows budgets starts next
rows_end budgets starts next place rows past h =
    sym (append-nil rows)
    ∙ ap (λ (ss : List ℕ). rows ++ window_rows budgets ss next) (sym (all_past place starts past))
    ∙ h

-- the windows behind a place are open too
pub open_at : (moment : ℕ) (starts : List ℕ) (next : Option ℕ) (place start d : ℕ)
    → place < length starts → start ≡ get_or starts place d
    → AreOpen moment (drop place starts) next
    → AreOpen moment (start ∷ drop (place + 1) starts) next
open_at moment starts next place start d below there open_there =
    subst (λ (ss : List ℕ). AreOpen moment ss next) (from_index place starts start d below there)
    open_there

-- A REFUSAL, AND THE WINDOWS

pub in_order : (origin moment from to : ℕ) → is_stretch origin moment from to ≡ true → from ≤ to
in_order origin moment from to inside = grind (arith, nat_tests)

pub is_over : (origin moment from to : ℕ) → is_stretch origin moment from to ≡ true
    → to ≤ moment
is_over origin moment from to inside = grind (arith, nat_tests)

pub stretch_refused : (d : Derived) (o : Office) → Reflects d o → (moment from to : ℕ)
    (name : List ℕ) (slo : Slo) → is_stretch d.origin moment from to ≡ false
    → AnswersWindows o moment name from to (Some slo) (Refused refusals.Range)
stretch_refused d o r moment from to name slo outside =
    let test : is_stretch o.origin moment from to ≡ false =
    subst (λ (origin : ℕ). is_stretch origin moment from to ≡ false) r.origin outside in
    subst (λ (b : Bool). cond b
    ((starts : List ℕ) × (next : Option ℕ) × AreStartsIn
    (IsStart (zones_in o.history) slo.time_window (end_of o.origin)) from to starts
    × IsFirstFrom (IsStart (zones_in o.history) slo.time_window (end_of o.origin)) to next
    × (Refused refusals.Range
    ≡ windows_of o moment (measures_named (catalog_in o.history) name) starts next))
    (Refused refusals.Range ≡ Refused refusals.Range)) (sym test) (λ i. Refused refusals.Range)

answered_so : (d : Derived) (o : Office) → Reflects d o → (moment from to : ℕ) (name : List ℕ)
    (slo : Slo) (starts : List ℕ) (next : Option ℕ) (outcome : Outcome)
    → is_stretch d.origin moment from to ≡ true
    → AreBegun (IsStart d.zones.kept slo.time_window (end_of d.origin)) from to starts next
    → outcome ≡ windows_of o moment (measures_named (catalog_in o.history) name) starts next
    → AnswersWindows o moment name from to (Some slo) outcome
answered_so d o r moment from to name slo starts next outcome inside begun is =
    let test : is_stretch o.origin moment from to ≡ true =
    subst (λ (origin : ℕ). is_stretch origin moment from to ≡ true) r.origin inside in
    let there : AreBegun (IsStart (zones_in o.history) slo.time_window (end_of o.origin)) from to
    starts next =
    subst (λ (k : List (List ℕ × List ℕ) × ℕ).
    AreBegun (IsStart k.0 slo.time_window (end_of k.1)) from to starts next)
    (λ i. (r.zones i, r.origin i)) begun in
    subst (λ (b : Bool). cond b
    ((starts : List ℕ) × (next : Option ℕ) × AreStartsIn
    (IsStart (zones_in o.history) slo.time_window (end_of o.origin)) from to starts
    × IsFirstFrom (IsStart (zones_in o.history) slo.time_window (end_of o.origin)) to next
    × (outcome ≡ windows_of o moment (measures_named (catalog_in o.history) name) starts next))
    (outcome ≡ Refused refusals.Range)) (sym test)
    (starts, next, there.starts_are, there.next_is, is)

pub windows_answered : {E : Type 0} (d : Derived) (o : Office) → Reflects d o
    → (moment from to : ℕ) (name : List ℕ) (slo : Slo) (starts : List ℕ) (next : Option ℕ)
    (result : Result Outcome E) → is_stretch d.origin moment from to ≡ true
    → AreBegun (IsStart d.zones.kept slo.time_window (end_of d.origin)) from to starts next
    → IfOk result (λ outcome. outcome
    ≡ windows_of o moment (measures_named (catalog_in o.history) name) starts next)
    → IfOk result (AnswersWindows o moment name from to (Some slo))
windows_answered d o r moment from to name slo starts next (Ok outcome) inside begun is =
    answered_so d o r moment from to name slo starts next outcome inside begun is
windows_answered d o r moment from to name slo starts next (Err e) inside begun is = tt
