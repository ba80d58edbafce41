-- The lines of a report. Each ends with a line feed (byte 10), and a space is byte 32.
use Rattle.std.specs.Prelude.{ℕ, ◌&&◌, ◌==◌, Bool, List, [], ◌∷◌, ◌++◌, filter, Option, Some, None}
use Rattle.std.specs.Prelude.{codes}
use Rattle.std.specs.Fmt.{decimal}
use Rattle.std.specs.List.{flat_map}
use Rattle.std.specs.Str.{bytes_eq}
use Rattle.exact_fraction.specs.DecimalText.{percent_text}
use Rattle.exact_fraction.specs.Ratio.{Ratio}
use Rattle.burn_core.specs.declared.State.{State}
use Rattle.burn_core.specs.Alert.{state_word}
use Rattle.catalog_terms.specs.declared.Binding.{Binding}
use Rattle.record_form.specs.declared.BudgetRow.{BudgetRow}

-- what was good, of what was counted, and what is left of the budget, in percent (byte 37)
abbrev pub counted_words : ℕ → ℕ → Option Ratio → List ℕ
counted_words num den None = codes "no data"
counted_words num den (Some remaining) =
    decimal num ++ 32 ∷ (decimal den ++ 32 ∷ (percent_text remaining ++ 37 ∷ []))

-- what is said of a budget that is counted
abbrev pub row_words : BudgetRow → List ℕ
row_words row = counted_words row.num row.den row.remaining

-- what is said where no window of a calendar had begun
abbrev pub unbegun_words : List ℕ
unbegun_words = codes "no window"

-- the line of a binding: its policy, and how the alert stands
abbrev pub state_line : Binding × State → List ℕ
state_line bound = codes "  " ++ (bound.0.policy ++ 32 ∷ (state_word bound.1 ++ 10 ∷ []))

-- whether a binding is of the objective of this number of this SLO
abbrev pub is_of : List ℕ → ℕ → Binding → Bool
is_of name number binding = bytes_eq binding.slo name && (binding.objective == number)

-- the lines of an objective's bindings
abbrev pub state_lines : List (Binding × State) → List ℕ → ℕ → List ℕ
state_lines states name number =
    flat_map state_line (filter (λ bound. is_of name number bound.0) states)

-- the line of an objective, and those of its bindings
abbrev pub objective_lines : List (Binding × State) → List ℕ → ℕ → List ℕ → List ℕ
objective_lines states name number words =
    name ++ 32 ∷ (decimal number ++ 32 ∷ (words ++ 10 ∷ state_lines states name number))

-- the whole report: the lines of the SLOs between the first line and the last
abbrev pub report_text : ℕ → ℕ → List ℕ → ℕ → ℕ → List ℕ
report_text at entries lines slos notices =
    codes "report at " ++ (decimal at ++ (codes ", entries " ++ (decimal entries ++ 10 ∷
    (lines
    ++ (codes "slos " ++ (decimal slos ++ (codes ", notices " ++ (decimal notices ++ 10 ∷ []))))))))
