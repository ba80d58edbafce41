-- Two reports of one office at one minute are the same.
use Rattle.std.proofs.Common.{◌≡◌, ◌∙◌, ◌≤◌, ℕ, Bool, false, cond, List, [], ◌∷◌, ◌++◌, map, length}
use Rattle.std.proofs.Common.{Option, Some, None, refl, ap, sym, subst, flat_map, arith}
use Rattle.std.proofs.lemmas.Bool.Decides.{nat_tests}
use Rattle.std.specs.List.{AllByRecursion}
use Rattle.burn_core.specs.declared.State.{State}
use Rattle.object_terms.specs.declared.Slo.{Slo}
use Rattle.catalog_terms.specs.declared.Binding.{Binding}
use Rattle.record_form.specs.declared.Outcome.{Outcome}
use Rattle.record_form.specs.declared.Outcome.TheVariants.{Refused}
use Rattle.record_form.specs.declared.Query.TheVariants as queries
use Rattle.record_form.specs.declared.Refusal.TheVariants as refusals
use Rattle.office_history.specs.Answers.{Answers, AnswersBudgets, budget_rows, budgets_from}
use Rattle.office_history.specs.Answers.{is_outside}
use Rattle.office_history.specs.Catalog.{catalog_in}
use Rattle.office_history.specs.History.{Office, end_of}
use Rattle.office_history.specs.Notices.{notices_in, samples_in, states_over, waiting}
use Rattle.office_history.specs.Objectives.{measures_named, slo_named}
use Rattle.office_history.specs.Windows.{WindowBegins}
use Rattle.office_history.specs.Zones.{zones_in}
use Rattle.history_answers.specs.Laws.{EachQueryHasOneAnswer}
use Rattle.office_report.specs.Lines.{report_text}
use Rattle.office_report.specs.Report.{BeginsFor, IsReport, IsWindowAt, SloWindow, slo_lines}
use Rattle.office_report.specs.Report.{slo_names}
use Rattle.office_report.proofs.LineLemmas.{row_lines, rows_tell}

-- what is answered of budgets, whose window begins there
abbrev told_from : Office → ℕ → List ℕ → Option ℕ → Outcome
told_from o at name start = budgets_from o at (measures_named (catalog_in o.history) name) start

-- the lines of an SLO whose window begins there
abbrev lines_from : List (Binding × State) → Office → ℕ → List ℕ → Option ℕ → List ℕ
lines_from states o at name start = slo_lines states o at (record { name = name; start = start })

-- one answer is told in one way, wherever the window begins
same_lines : (states : List (Binding × State)) (o : Office) (at : ℕ) (name : List ℕ)
    (s t : Option ℕ) → told_from o at name s ≡ told_from o at name t →
    lines_from states o at name s ≡ lines_from states o at name t
same_lines states o at name None None is = refl
same_lines states o at name None (Some t) is = cc is
same_lines states o at name (Some s) None is = cc is
same_lines states o at name (Some s) (Some t) is =
    let ms = measures_named (catalog_in o.history) name in
    let samples = samples_in o.history in
    let rows : budget_rows samples s at 0 ms ≡ budget_rows samples t at 0 ms = cc is in
    sym (rows_tell states samples name s at 0 ms)
    ∙ ap (flat_map (row_lines states name)) rows
    ∙ rows_tell states samples name t at 0 ms

-- a minute from the origin on is not outside, where it is the moment
inside : (o : Office) (at : ℕ) → o.origin ≤ at → is_outside o at at ≡ false
inside o at begun = grind (arith, nat_tests)

abbrev Begins : Office → ℕ → List ℕ → Slo → Outcome → Type 0
Begins o at name slo outcome =
    (start : Option ℕ)
    × WindowBegins (zones_in o.history) slo.time_window (end_of o.origin) at start
    × (outcome ≡ told_from o at name start)

answer : (o : Office) (at : ℕ) → o.origin ≤ at → (name : List ℕ) (slo : Slo) →
    slo_named (catalog_in o.history) name ≡ Some slo → (start : Option ℕ) →
    WindowBegins (zones_in o.history) slo.time_window (end_of o.origin) at start →
    Answers o at (queries.Budgets name (Some at)) (told_from o at name start)
answer o at begun name slo is start begins =
    let outcome : Outcome = told_from o at name start in
    subst (λ (found : Option Slo). AnswersBudgets o at name at found outcome) (sym is)
    (subst
    (λ (b : Bool). cond b (outcome ≡ Refused refusals.Range) (Begins o at name slo outcome))
    (sym (inside o at begun)) (start, begins, refl))

-- wherever the window of an SLO begins, its lines are the same
one_slo : EachQueryHasOneAnswer → (states : List (Binding × State)) (o : Office) (at : ℕ) →
    o.origin ≤ at → (name : List ℕ) (slo : Option Slo) →
    slo_named (catalog_in o.history) name ≡ slo → (s t : Option ℕ) → BeginsFor o at slo s →
    BeginsFor o at slo t → lines_from states o at name s ≡ lines_from states o at name t
one_slo law states o at begun name None is s t of_s of_t =
    ap (lines_from states o at name) (of_s ∙ sym of_t)
one_slo law states o at begun name (Some slo) is s t of_s of_t =
    let first = answer o at begun name slo is s of_s in
    let other = answer o at begun name slo is t of_t in
    same_lines states o at name s t (law o at (queries.Budgets name (Some at)) _ _ first other)

-- the windows of the same SLOs are told in the same lines
one_text : EachQueryHasOneAnswer → (states : List (Binding × State)) (o : Office) (at : ℕ) →
    o.origin ≤ at → (ws vs : List SloWindow) → map (λ w. w.name) ws ≡ map (λ w. w.name) vs →
    AllByRecursion (IsWindowAt o at) ws → AllByRecursion (IsWindowAt o at) vs →
    flat_map (slo_lines states o at) ws ≡ flat_map (slo_lines states o at) vs
one_text law states o at begun [] [] same of_ws of_vs = refl
one_text law states o at begun [] (v ∷ vs) same of_ws of_vs = cc same
one_text law states o at begun (w ∷ ws) [] same of_ws of_vs = cc same
one_text law states o at begun (w ∷ ws) (v ∷ vs) same of_ws of_vs =
    let name : v.name ≡ w.name = cc same in
    let others : map (λ w. w.name) ws ≡ map (λ w. w.name) vs = cc same in
    let found = slo_named (catalog_in o.history) w.name in
    let begins =
    subst (λ (n : List ℕ). BeginsFor o at (slo_named (catalog_in o.history) n) v.start) name
    of_vs.0 in
    let first : slo_lines states o at w ≡ slo_lines states o at v =
    one_slo law states o at begun w.name found refl w.start v.start of_ws.0 begins
    ∙ ap (λ (n : List ℕ). lines_from states o at n v.start) (sym name) in
    let rest = one_text law states o at begun ws vs others of_ws.1 of_vs.1 in
    λ i. first i ++ rest i

pub one_report : EachQueryHasOneAnswer → (o : Office) (at : ℕ) (a b : List ℕ) → o.origin ≤ at →
    IsReport o at a → IsReport o at b → a ≡ b
one_report law o at a b begun of_a of_b =
    let slos = length (slo_names (catalog_in o.history)) in
    let same =
    one_text law (states_over o at) o at begun of_a.slos.windows of_b.slos.windows
    (of_a.slos.stand.all ∙ sym of_b.slos.stand.all) of_a.slos.stand.begun
    of_b.slos.stand.begun in
    of_a.exact
    ∙ ap (λ (ls : List ℕ). report_text at (length o.history) ls slos (waiting (notices_in o)))
    (of_a.slos.told ∙ same ∙ sym of_b.slos.told)
    ∙ sym of_b.exact
