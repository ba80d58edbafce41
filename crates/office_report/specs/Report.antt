-- The report of an office at a minute.
use Rattle.std.specs.Prelude.{◌≡◌, ℕ, Bool, true, false, List, map, filter, length, Option, Some}
use Rattle.std.specs.Prelude.{None}
use Rattle.std.specs.List.{AllByRecursion, enumerate_from, flat_map}
use Rattle.burn_core.specs.declared.State.{State}
use Rattle.object_terms.specs.declared.Kind.{Kind}
use Rattle.object_terms.specs.declared.Kind.TheVariants as kinds
use Rattle.object_terms.specs.declared.Object.{Object}
use Rattle.object_terms.specs.declared.Slo.{Slo}
use Rattle.catalog_terms.specs.declared.Binding.{Binding}
use Rattle.office_history.specs.declared.Measure.{Measure}
use Rattle.office_history.specs.Answers.{budget_row}
use Rattle.office_history.specs.Catalog.{catalog_in}
use Rattle.office_history.specs.Counts.{Samples, sum_between}
use Rattle.office_history.specs.History.{Office, end_of}
use Rattle.office_history.specs.Notices.{notices_in, samples_in, states_over, waiting}
use Rattle.office_history.specs.Objectives.{measures_named, slo_named}
use Rattle.office_history.specs.Windows.{WindowBegins}
use Rattle.office_history.specs.Zones.{zones_in}
use Rattle.office_report.specs.Lines.{objective_lines, report_text, row_words, unbegun_words}

abbrev pub is_slo : Kind → Bool
is_slo kinds.Slo = true
is_slo _ = false

-- the names of a catalog's SLOs, in its order: by their bytes
abbrev pub slo_names : List Object → List (List ℕ)
slo_names members = map (λ o. o.name) (filter (λ (o : Object). is_slo o.kind) members)

-- An SLO, and where its window at a minute begins; none where no window of its calendar had begun.
pub record SloWindow : Type 0 where
  pub name : List ℕ
  pub start : Option ℕ

-- where the window of an SLO at a minute begins
abbrev pub BeginsFor : Office → ℕ → Option Slo → Option ℕ → Type 0
BeginsFor o at None start = start ≡ None
BeginsFor o at (Some slo) start =
    WindowBegins (zones_in o.history) slo.time_window (end_of o.origin) at start

abbrev pub IsWindowAt : Office → ℕ → SloWindow → Type 0
IsWindowAt o at w = BeginsFor o at (slo_named (catalog_in o.history) w.name) w.start

-- the windows at a minute of the SLOs of these names, in their order
pub record AreWindows (o : Office) (at : ℕ) (names : List (List ℕ)) (windows : List SloWindow) :
    Type 0 where
  pub all : map (λ w. w.name) windows ≡ names
  pub begun : AllByRecursion (IsWindowAt o at) windows

-- what is said of the budget of an objective whose window begins there
abbrev pub budget_words : Samples → ℕ → ℕ → Measure → Option ℕ → List ℕ
budget_words s at number m None = unbegun_words
budget_words s at number m (Some from) =
    row_words (budget_row from number m.target (sum_between s m from at))

-- the lines of the objectives of an SLO, numbered from 0
abbrev pub slo_lines : List (Binding × State) → Office → ℕ → SloWindow → List ℕ
slo_lines states o at w =
    flat_map
    (λ p.
    objective_lines states w.name p.0
    (budget_words (samples_in o.history) at p.0 p.1 w.start))
    (enumerate_from 0 (measures_named (catalog_in o.history) w.name))

-- the lines of the SLOs of these names
pub record AreLines (states : List (Binding × State)) (o : Office) (at : ℕ)
    (names : List (List ℕ)) (lines : List ℕ) : Type 0 where
  pub windows : List SloWindow
  pub stand : AreWindows o at names windows
  pub told : lines ≡ flat_map (slo_lines states o at) windows

-- The report at a minute: the minute, and how many entries there are; for each SLO by name and each
-- of its objectives the sum over the window and what is left of the budget, and under it the states
-- of its bindings; how many SLOs there are, and how many notices wait.
pub record IsReport (o : Office) (at : ℕ) (text : List ℕ) : Type 0 where
  pub lines : List ℕ
  pub slos : AreLines (states_over o at) o at (slo_names (catalog_in o.history)) lines
  pub exact :
      text ≡ report_text at (length o.history) lines (length (slo_names (catalog_in o.history)))
      (waiting (notices_in o))
