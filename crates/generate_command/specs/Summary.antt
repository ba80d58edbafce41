-- The summary of a session.
use Rattle.std.specs.Prelude.{◌≡◌, ℕ, List, ◌++◌, Some, codes}
use Rattle.std.specs.Fmt.{decimal}
use Rattle.exact_fraction.specs.Ratio.{Ratio, fraction_text}
use Rattle.record_form.specs.declared.BudgetRow.{BudgetRow}
use Rattle.generate_command.specs.declared.tally.SessionTally.{SessionTally}

-- what was good, of what was counted; the burn rate, and what remains
abbrev pub budget_lines : BudgetRow → Ratio → Ratio → List ℕ
budget_lines row burn remaining =
    codes "num " ++ (decimal row.num ++ (codes "\nden " ++ (decimal row.den
    ++ (codes "\nburn " ++ (fraction_text burn ++ (codes "\nremaining "
    ++ (fraction_text remaining ++ codes "\n")))))))

-- How many requests there were, and how many answers of status 200; the entries and the current
-- rows of the office; and the lines of the budget.
abbrev pub summary_text : SessionTally → ℕ → ℕ → List ℕ → List ℕ
summary_text tally entries cells budget =
    codes "requests " ++ (decimal tally.requests ++ (codes "\nok " ++ (decimal tally.ok
    ++ (codes "\nentries " ++ (decimal entries ++ (codes "\ncells " ++ (decimal cells
    ++ (codes "\n" ++ budget))))))))

-- the lines of a budget that has a burn rate
pub record AreBudgetLines (row : BudgetRow) (text : List ℕ) : Type 0 where
  pub burn : Ratio
  pub remaining : Ratio
  pub burns : row.burn ≡ Some burn
  pub remains : row.remaining ≡ Some remaining
  pub exact : text ≡ budget_lines row burn remaining

-- The summary, with the budget that was told last.
pub record IsSummary (tally : SessionTally) (entries cells : ℕ) (text : List ℕ) : Type 0 where
  pub row : BudgetRow
  pub budget : List ℕ
  pub told : tally.budget ≡ Some row
  pub lines : AreBudgetLines row budget
  pub exact : text ≡ summary_text tally entries cells budget
