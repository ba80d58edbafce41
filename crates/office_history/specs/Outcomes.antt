-- What an accepted command answers, and what a request answers whatever becomes of it.
use Rattle.std.specs.Prelude.{◌≡◌, ℕ, ◌+◌, cond, nat_lt, length, Some}
use Rattle.slo_limits.specs.declared.TheConstants.{MAX_JOURNAL_BYTES}
use Rattle.record_form.specs.Records.{record_of}
use Rattle.record_form.specs.declared.Command.{Command}
use Rattle.record_form.specs.declared.Command.TheVariants.{Define, Remove, PutZone, Samples}
use Rattle.record_form.specs.declared.Command.TheVariants.{Exclude, Lift, Tick, Take, Upgrade}
use Rattle.record_form.specs.declared.Entry.{Entry}
use Rattle.record_form.specs.declared.Outcome.{Outcome}
use Rattle.record_form.specs.declared.Outcome.TheVariants.{Defined, Changed, Ticked, Refused}
use Rattle.record_form.specs.declared.Outcome.TheVariants.{ClockRange, JournalFull}
use Rattle.record_form.specs.declared.Request.{Request}
use Rattle.record_form.specs.declared.Request.TheVariants.{Change, Ask}
use Rattle.office_history.specs.declared.judgement.Judgement.{Judgement}
use Rattle.office_history.specs.declared.judgement.Judgement.TheVariants as judgements
use Rattle.office_history.specs.History.{Office, moment_of, end_of, rows_in, tail_of}
use Rattle.office_history.specs.Catalog.{text_objects}
use Rattle.office_history.specs.Notices.{told_at}
use Rattle.sample_book.specs.Puts.{verdicts}
use Rattle.office_history.specs.Batches.{batch_outcome}
use Rattle.office_history.specs.Answers.{Answers}
use Rattle.office_history.specs.Judges.{Judges}

-- the outcome of an accepted command, which names its entry's position
abbrev pub outcome_of : Office → ℕ → Command → Outcome
outcome_of o moment (Define text) = Defined (length (text_objects text)) (Some (length o.history))
outcome_of o moment (Remove kind name) = Changed (Some (length o.history))
outcome_of o moment (PutZone name bytes) = Changed (Some (length o.history))
outcome_of o moment (Samples rows) =
    batch_outcome (verdicts (rows_in o.history) rows) (Some (length o.history))
outcome_of o moment (Exclude value) = Changed (Some (length o.history))
outcome_of o moment (Lift id) = Changed (Some (length o.history))
outcome_of o moment Tick =
    Ticked (length o.history) (length (told_at o (record { moment = moment; command = Tick })))
outcome_of o moment (Take number) = Changed (Some (length o.history))
outcome_of o moment Upgrade = Changed (Some (length o.history))

-- what is answered where there is room in the journal for one entry more
abbrev pub if_it_fits : ℕ → ℕ → Outcome → Outcome
if_it_fits tail needed outcome =
    cond (nat_lt MAX_JOURNAL_BYTES needed) (JournalFull needed tail) outcome

abbrev pub outcome_by : Office → Entry → Judgement → Outcome
outcome_by o e (judgements.Refused refusal) = Refused refusal
outcome_by o e (judgements.Same outcome) = outcome
outcome_by o e judgements.Accepted =
    if_it_fits (tail_of o.history) (tail_of o.history + (length (record_of e) + 6))
    (outcome_of o e.moment e.command)

abbrev pub IsOutcomeAt : Office → ℕ → Request → Outcome → Type 0
IsOutcomeAt o moment (Ask query) outcome = Answers o moment query outcome
IsOutcomeAt o moment (Change command) outcome =
    (j : Judgement) × Judges o moment command j
    × (outcome ≡ outcome_by o (record { moment = moment; command = command }) j)

-- The outcome of a request that is read at a reading of the clock.
abbrev pub IsOutcome : Office → ℕ → Request → Outcome → Type 0
IsOutcome o reading request outcome =
    cond (nat_lt (moment_of o reading) (end_of o.origin))
    (IsOutcomeAt o (moment_of o reading) request outcome)
    (outcome ≡ ClockRange (end_of o.origin) (moment_of o reading))
