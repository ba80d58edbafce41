-- The judging of a batch over what is kept: the current rows, and how many rows were accepted.
use Rattle.std.specs.Prelude.{ℕ, ◌+◌, Bool, cond, nat_lt, List, [], ◌∷◌, ◌++◌, length, Option, None}
use Rattle.std.specs.List.{list_any}
use Rattle.slo_limits.specs.declared.TheConstants as most
use Rattle.sample_book.specs.declared.Row.{Row}
use Rattle.sample_book.specs.declared.RowVerdict.{RowVerdict}
use Rattle.sample_book.specs.History.{is_put}
use Rattle.sample_book.specs.Puts.{verdicts}
use Rattle.sample_book.specs.Rows.{current_rows}
use Rattle.object_terms.specs.declared.Object.{Object}
use Rattle.record_form.specs.declared.Refusal.{Refusal}
use Rattle.record_form.specs.declared.Refusal.TheVariants as refusals
use Rattle.record_form.specs.declared.LimitName.TheVariants as limits
use Rattle.office_history.specs.declared.Judgement.{Judgement}
use Rattle.office_history.specs.declared.Judgement.TheVariants.{Same}
use Rattle.office_history.specs.Lists.{first_some}
use Rattle.office_history.specs.Batches.{when, batch_fault, count, batch_outcome, objective_days}
use Rattle.office_history.specs.Verdicts.{unless_refused, accepted}
use Rattle.office_history.specs.Versions.{most_cells, most_rows}

-- the first rule that rows break behind the limit of their number
abbrev pub rows_fault : Bool → ℕ → ℕ → List Object → List Row → ℕ → List Row → Option Refusal
rows_fault upgraded origin moment members kept taken rows = first_some (
    batch_fault upgraded origin moment members kept rows
    ∷ when (nat_lt (most_cells upgraded) (length (current_rows (kept ++ rows))))
    (refusals.Limit limits.Cells)
    ∷ when (nat_lt (most_rows upgraded) (taken + count is_put (verdicts kept rows)))
    (refusals.Limit limits.Accepted)
    ∷ when (nat_lt most.MAX_DAYS (objective_days members (current_rows (kept ++ rows))))
    (refusals.Limit limits.Days)
    ∷ [])

-- what becomes of rows that break no rule
abbrev pub faultless_verdict : List RowVerdict → ℕ → Judgement
faultless_verdict vs entries =
    cond (list_any is_put vs) (accepted entries) (Same (batch_outcome vs None))

-- what becomes of rows that come over current rows, of which there aren't too many
abbrev pub rows_verdict : Bool → ℕ → ℕ → List Object → List Row → ℕ → ℕ → List Row → Judgement
rows_verdict upgraded origin moment members kept taken entries rows =
    unless_refused (rows_fault upgraded origin moment members kept taken rows)
    (faultless_verdict (verdicts kept rows) entries)
