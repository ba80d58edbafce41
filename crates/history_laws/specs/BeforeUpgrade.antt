-- What was legal, and what became of requests, before offices could be upgraded: the definitions
-- that changed, as they were. Types are those of today.
use Rattle.std.specs.Prelude.{◌≡◌, ℕ, ◌+◌, ◌<◌, ◌≤◌, Bool, true, false, cond, nat_lt, nat_le, List}
use Rattle.std.specs.Prelude.{[], ◌∷◌, ◌++◌, length, Option, Some, None}
use Rattle.std.specs.List.{list_any, AllByRecursion}
use Rattle.slo_limits.specs.declared.TheConstants as most
use Rattle.slice_method.specs.declared.Amount.{Amount}
use Rattle.slice_method.specs.declared.Amount.TheVariants.{Withdrawn}
use Rattle.slice_method.specs.declared.Reading.{Reading}
use Rattle.sample_book.specs.declared.Row.{Row}
use Rattle.sample_book.specs.declared.RowVerdict.{RowVerdict}
use Rattle.sample_book.specs.History.{is_put}
use Rattle.sample_book.specs.Puts.{verdicts}
use Rattle.sample_book.specs.Rows.{current_rows}
use Rattle.object_terms.specs.declared.Object.{Object}
use Rattle.record_form.specs.declared.Command.{Command}
use Rattle.record_form.specs.declared.Command.TheVariants.{Samples, Upgrade}
use Rattle.record_form.specs.declared.Entry.{Entry}
use Rattle.record_form.specs.declared.LimitName.TheVariants as limits
use Rattle.record_form.specs.declared.Outcome.{Outcome}
use Rattle.record_form.specs.declared.Outcome.TheVariants.{ClockRange}
use Rattle.record_form.specs.declared.Refusal.{Refusal}
use Rattle.record_form.specs.declared.Refusal.TheVariants as refusals
use Rattle.record_form.specs.declared.Request.{Request}
use Rattle.record_form.specs.declared.Request.TheVariants.{Change, Ask}
use Rattle.office_history.specs.declared.Judgement.{Judgement}
use Rattle.office_history.specs.declared.Judgement.TheVariants.{Accepted, Same}
use Rattle.office_history.specs.Answers.{Answers}
use Rattle.office_history.specs.Batches.{amount_fault, batch_outcome, conflict_fault}
use Rattle.office_history.specs.Batches.{objective_days, when}
use Rattle.office_history.specs.Catalog.{catalog_in}
use Rattle.office_history.specs.History.{Office, accepted_rows, end_of, moment_of, present, rows_in}
use Rattle.office_history.specs.Judges.{Judges}
use Rattle.office_history.specs.Legal.{IsLegal, office}
use Rattle.office_history.specs.Lists.{first_some}
use Rattle.office_history.specs.Objectives.{reading_named}
use Rattle.office_history.specs.Outcomes.{IsOutcome, outcome_by}
use Rattle.office_history.specs.Verdicts.{accepted, unless_refused}

-- THE COMMANDS

-- whether an amount is withdrawn
abbrev pub is_withdrawn : Amount → Bool
is_withdrawn Withdrawn = true
is_withdrawn _ = false

-- a command from before: no upgrade, and no batch with a withdrawn row
abbrev pub IsOldCommand : Command → Type 0
IsOldCommand (Samples rows) =
    AllByRecursion (λ (row : Row). is_withdrawn row.amount ≡ false) rows
IsOldCommand Upgrade = ⊥
IsOldCommand _ = Unit {0}

-- and a request: a query, or such a command
abbrev pub IsOldRequest : Request → Type 0
IsOldRequest (Change command) = IsOldCommand command
IsOldRequest (Ask query) = Unit {0}

-- WHAT CHANGED

-- what a row broke by itself
abbrev pub old_form_fault : Option Reading → Row → ℕ → Option Refusal
old_form_fault None row number = Some (refusals.UnknownSli row.sli number)
old_form_fault (Some reading) row number = amount_fault reading row.amount number

-- the first rule that it broke
abbrev pub old_row_fault : ℕ → ℕ → List Object → Row → RowVerdict → ℕ → Option Refusal
old_row_fault origin moment members row verdict number = first_some (
    old_form_fault (reading_named members row.sli) row number
    ∷ when (nat_lt row.minute origin) (refusals.Early row.minute origin number)
    ∷ when (nat_le moment row.minute) (refusals.OpenMinute row.minute moment number)
    ∷ conflict_fault verdict number
    ∷ [])

abbrev pub old_rows_faults : ℕ → ℕ → List Object → ℕ → List Row → List RowVerdict
    → List (Option Refusal)
old_rows_faults origin moment members number (row ∷ rows) (v ∷ vs) =
    old_row_fault origin moment members row v number
    ∷ old_rows_faults origin moment members (number + 1) rows vs
old_rows_faults origin moment members number _ _ = []

-- the first rule that a batch broke
abbrev pub old_samples_fault : ℕ → ℕ → List Object → List Row → List Row → Option Refusal
old_samples_fault origin moment members came rows = first_some (
    when (nat_lt most.MAX_BATCH_ROWS (length rows)) (refusals.Limit limits.Rows)
    ∷ first_some (old_rows_faults origin moment members 1 rows (verdicts came rows))
    ∷ when (nat_lt most.MAX_CELLS (length (current_rows (came ++ rows))))
    (refusals.Limit limits.Cells)
    ∷ when (nat_lt most.MAX_ACCEPTED_ROWS (accepted_rows (came ++ rows)))
    (refusals.Limit limits.Accepted)
    ∷ when (nat_lt most.MAX_DAYS (objective_days members (current_rows (came ++ rows))))
    (refusals.Limit limits.Days)
    ∷ [])

-- what became of a batch
abbrev pub old_samples_verdict : ℕ → ℕ → List Object → List Row → ℕ → List Row → Judgement
old_samples_verdict origin moment members came entries rows =
    unless_refused (old_samples_fault origin moment members came rows)
    (cond (list_any is_put (verdicts came rows)) (accepted entries)
    (Same (batch_outcome (verdicts came rows) None)))

-- what became of a command
abbrev pub OldJudges : Office → ℕ → Command → Judgement → Type 0
OldJudges o moment (Samples rows) j = j ≡ old_samples_verdict o.origin moment (catalog_in o.history)
    (rows_in o.history) (length o.history) rows
OldJudges o moment Upgrade j = ⊥
OldJudges o moment command j = Judges o moment command j

-- LEGAL HISTORIES AND OUTCOMES

-- an entry might follow a history
pub record MightFollow (o : Office) (e : Entry) : Type 0 where
  pub in_range : e.moment < end_of o.origin
  pub later : present o ≤ e.moment
  pub old : IsOldCommand e.command
  pub accepted : OldJudges o e.moment e.command Accepted

pub data WasLegal (origin : ℕ) : List Entry → Type 0 where
  was_empty : WasLegal origin []
  was_followed : {h : List Entry} (e : Entry) → WasLegal origin h
      → MightFollow (office origin h) e → WasLegal origin (h ++ e ∷ [])

abbrev pub WasOutcomeAt : Office → ℕ → Request → Outcome → Type 0
WasOutcomeAt o moment (Ask query) outcome = Answers o moment query outcome
WasOutcomeAt o moment (Change command) outcome =
    (j : Judgement) × OldJudges o moment command j
    × (outcome ≡ outcome_by o (record { moment = moment; command = command }) j)

-- the outcome of a request that was read at a reading of the clock
abbrev pub WasOutcome : Office → ℕ → Request → Outcome → Type 0
WasOutcome o reading request outcome =
    cond (nat_lt (moment_of o reading) (end_of o.origin))
    (WasOutcomeAt o (moment_of o reading) request outcome)
    (outcome ≡ ClockRange (end_of o.origin) (moment_of o reading))

-- THE LAWS

-- each history that was legal is legal
abbrev pub OldHistoriesStayLegal : Type 0
OldHistoriesStayLegal = (origin : ℕ) (h : List Entry) → WasLegal origin h → IsLegal origin h

-- a request from before has the outcomes over it that it had, and no others
pub record HasOldOutcomes (o : Office) (reading : ℕ) (request : Request) : Type 0 where
  pub still : (outcome : Outcome) → WasOutcome o reading request outcome
      → IsOutcome o reading request outcome
  pub no_other : (outcome : Outcome) → IsOutcome o reading request outcome
      → WasOutcome o reading request outcome

abbrev pub OldRequestsKeepTheirOutcomes : Type 0
OldRequestsKeepTheirOutcomes = (origin : ℕ) (h : List Entry) (reading : ℕ) (request : Request) →
    WasLegal origin h → IsOldRequest request → HasOldOutcomes (office origin h) reading request
