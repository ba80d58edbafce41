-- Over a history from before, and for commands from before, the definitions are what they were.
use Rattle.std.proofs.Common.{◌≡◌, ℕ, ◌+◌, ◌||◌, ◌∙◌, List, [], ◌∷◌, ◌++◌, Bool, true, false, cond}
use Rattle.std.proofs.Common.{nat_lt, nat_le, refl, ap, sym, length, Option, Some, None}
use Rattle.std.specs.List.{list_any, AllByRecursion}
use Rattle.slo_limits.specs.declared.TheConstants as most
use Rattle.slice_method.specs.declared.Amount.{Amount}
use Rattle.slice_method.specs.declared.Amount.TheVariants.{Counts, Value, Withdrawn}
use Rattle.slice_method.specs.declared.Reading.{Reading}
use Rattle.sample_book.specs.declared.Row.{Row}
use Rattle.sample_book.specs.declared.RowVerdict.{RowVerdict}
use Rattle.sample_book.specs.History.{is_put}
use Rattle.sample_book.specs.Puts.{verdicts}
use Rattle.sample_book.specs.Rows.{current_rows}
use Rattle.object_terms.specs.declared.Object.{Object}
use Rattle.record_form.specs.declared.Command.{Command}
use Rattle.record_form.specs.declared.Command.TheVariants.{Define, Remove, PutZone, Samples}
use Rattle.record_form.specs.declared.Command.TheVariants.{Exclude, Lift, Tick, Take, Upgrade}
use Rattle.record_form.specs.declared.Entry.{Entry}
use Rattle.record_form.specs.declared.LimitName.TheVariants as limits
use Rattle.record_form.specs.declared.Outcome.{Outcome}
use Rattle.record_form.specs.declared.Outcome.TheVariants.{ClockRange}
use Rattle.record_form.specs.declared.Refusal.{Refusal}
use Rattle.record_form.specs.declared.Refusal.TheVariants as refusals
use Rattle.record_form.specs.declared.Request.{Request}
use Rattle.record_form.specs.declared.Request.TheVariants.{Change, Ask}
use Rattle.office_history.specs.declared.Judgement.{Judgement}
use Rattle.office_history.specs.declared.Judgement.TheVariants.{Accepted, Same}
use Rattle.office_history.specs.Batches.{amount_fault, batch_outcome, conflict_fault, form_fault}
use Rattle.office_history.specs.Batches.{objective_days, row_fault, rows_faults, version_fault}
use Rattle.office_history.specs.Batches.{when}
use Rattle.office_history.specs.Catalog.{catalog_in}
use Rattle.office_history.specs.History.{Office, accepted_rows, end_of, moment_of, rows_in}
use Rattle.office_history.specs.Judges.{Judges}
use Rattle.office_history.specs.Legal.{IsLegal, empty, followed, office}
use Rattle.office_history.specs.Lists.{first_some}
use Rattle.office_history.specs.Objectives.{reading_named}
use Rattle.office_history.specs.Outcomes.{IsOutcome, IsOutcomeAt, outcome_by}
use Rattle.office_history.specs.Verdicts.{accepted, samples_verdict, unless_refused}
use Rattle.office_history.specs.Versions.{is_upgrade, is_upgraded}
use Rattle.office_derived.proofs.More.{upgraded_more}
use Rattle.history_laws.specs.BeforeUpgrade.{HasOldOutcomes, IsOldCommand, IsOldRequest}
use Rattle.history_laws.specs.BeforeUpgrade.{OldHistoriesStayLegal, OldJudges}
use Rattle.history_laws.specs.BeforeUpgrade.{OldRequestsKeepTheirOutcomes, WasLegal, WasOutcome}
use Rattle.history_laws.specs.BeforeUpgrade.{WasOutcomeAt, is_withdrawn, old_form_fault}
use Rattle.history_laws.specs.BeforeUpgrade.{old_row_fault, old_rows_faults, old_samples_verdict}
use Rattle.history_laws.specs.BeforeUpgrade.{was_empty, was_followed}

-- BATCHES

first_alone : (fault : Option Refusal) → first_some (fault ∷ []) ≡ fault
first_alone None = refl
first_alone (Some refusal) = refl

taken : (amount : Amount) (number : ℕ) → is_withdrawn amount ≡ false
    → version_fault false amount number ≡ None
taken (Counts part total) number h = refl
taken (Value measured) number h = refl
taken Withdrawn number h = cc h

same_form : (reading : Option Reading) (row : Row) (number : ℕ) → is_withdrawn row.amount ≡ false
    → form_fault false reading row number ≡ old_form_fault reading row number
same_form None row number h = refl
same_form (Some reading) row number h =
    ap (λ fault. first_some (fault ∷ amount_fault reading row.amount number ∷ []))
    (taken row.amount number h)
    ∙ first_alone (amount_fault reading row.amount number)

same_row : (origin m : ℕ) (members : List Object) (row : Row) (v : RowVerdict) (number : ℕ)
    → is_withdrawn row.amount ≡ false
    → row_fault false origin m members row v number ≡ old_row_fault origin m members row v number
same_row origin m members row v number h =
    ap (λ fault. first_some (
    fault
    ∷ when (nat_lt row.minute origin) (refusals.Early row.minute origin number)
    ∷ when (nat_le m row.minute) (refusals.OpenMinute row.minute m number)
    ∷ conflict_fault v number
    ∷ [])) (same_form (reading_named members row.sli) row number h)

same_rows : (origin m : ℕ) (members : List Object) (number : ℕ) (rows : List Row)
    (vs : List RowVerdict) → AllByRecursion (λ (row : Row). is_withdrawn row.amount ≡ false) rows →
    rows_faults false origin m members number rows vs
    ≡ old_rows_faults origin m members number rows vs
same_rows origin m members number [] vs h = refl
same_rows origin m members number (row ∷ rows) [] h = refl
same_rows origin m members number (row ∷ rows) (v ∷ vs) h =
    λ i. same_row origin m members row v number h.0 i
    ∷ same_rows origin m members (number + 1) rows vs h.1 i

same_batch : (origin m : ℕ) (members : List Object) (came : List Row) (entries : ℕ)
    (rows : List Row) → AllByRecursion (λ (row : Row). is_withdrawn row.amount ≡ false) rows →
    samples_verdict false origin m members came entries rows
    ≡ old_samples_verdict origin m members came entries rows
same_batch origin m members came entries rows h =
    ap (λ faults. unless_refused (first_some (
    when (nat_lt most.MAX_BATCH_ROWS (length rows)) (refusals.Limit limits.Rows)
    ∷ first_some faults
    ∷ when (nat_lt most.MAX_CELLS (length (current_rows (came ++ rows))))
    (refusals.Limit limits.Cells)
    ∷ when (nat_lt most.MAX_ACCEPTED_ROWS (accepted_rows (came ++ rows)))
    (refusals.Limit limits.Accepted)
    ∷ when (nat_lt most.MAX_DAYS (objective_days members (current_rows (came ++ rows))))
    (refusals.Limit limits.Days)
    ∷ []))
    (cond (list_any is_put (verdicts came rows)) (accepted entries)
    (Same (batch_outcome (verdicts came rows) None))))
    (same_rows origin m members 1 rows (verdicts came rows) h)

-- COMMANDS

-- a batch from before, over a history that isn't upgraded
same_samples : (o : Office) (m : ℕ) (rows : List Row) → is_upgraded o.history ≡ false →
    AllByRecursion (λ (row : Row). is_withdrawn row.amount ≡ false) rows →
    samples_verdict (is_upgraded o.history) o.origin m (catalog_in o.history) (rows_in o.history)
    (length o.history) rows
    ≡ old_samples_verdict o.origin m (catalog_in o.history) (rows_in o.history)
    (length o.history) rows
same_samples o m rows before old =
    ap (λ u. samples_verdict u o.origin m (catalog_in o.history) (rows_in o.history)
    (length o.history) rows) before
    ∙ same_batch o.origin m (catalog_in o.history) (rows_in o.history) (length o.history) rows old

still_judged : (o : Office) (m : ℕ) (c : Command) (j : Judgement) → is_upgraded o.history ≡ false →
    IsOldCommand c → OldJudges o m c j → Judges o m c j
still_judged o m (Samples rows) j before old v = v ∙ sym (same_samples o m rows before old)
still_judged o m Upgrade j before old v = absurd old
still_judged o m (Define text) j before old v = v
still_judged o m (Remove kind name) j before old v = v
still_judged o m (PutZone name bytes) j before old v = v
still_judged o m (Exclude value) j before old v = v
still_judged o m (Lift id) j before old v = v
still_judged o m Tick j before old v = v
still_judged o m (Take number) j before old v = v

was_judged : (o : Office) (m : ℕ) (c : Command) (j : Judgement) → is_upgraded o.history ≡ false →
    IsOldCommand c → Judges o m c j → OldJudges o m c j
was_judged o m (Samples rows) j before old v = v ∙ same_samples o m rows before old
was_judged o m Upgrade j before old v = absurd old
was_judged o m (Define text) j before old v = v
was_judged o m (Remove kind name) j before old v = v
was_judged o m (PutZone name bytes) j before old v = v
was_judged o m (Exclude value) j before old v = v
was_judged o m (Lift id) j before old v = v
was_judged o m Tick j before old v = v
was_judged o m (Take number) j before old v = v

-- HISTORIES

no_upgrade : (c : Command) → IsOldCommand c → is_upgrade c ≡ false
no_upgrade (Samples rows) old = refl
no_upgrade Upgrade old = absurd old
no_upgrade (Define text) old = refl
no_upgrade (Remove kind name) old = refl
no_upgrade (PutZone name bytes) old = refl
no_upgrade (Exclude value) old = refl
no_upgrade (Lift id) old = refl
no_upgrade Tick old = refl
no_upgrade (Take number) old = refl

-- no history from before is upgraded
not_upgraded : (origin : ℕ) (h : List Entry) → WasLegal origin h → is_upgraded h ≡ false
not_upgraded origin _ was_empty = refl
not_upgraded origin _ (was_followed {h = h} e was might) =
    upgraded_more h e
    ∙ (λ i. no_upgrade e.command might.old i || not_upgraded origin h was i)

pub old_histories_stay_legal : OldHistoriesStayLegal
old_histories_stay_legal origin _ was_empty = empty
old_histories_stay_legal origin _ (was_followed {h = h} e was might) =
    followed e (old_histories_stay_legal origin h was) (record {
      in_range = might.in_range;
      later = might.later;
      accepted = still_judged (office origin h) e.moment e.command Accepted
          (not_upgraded origin h was) might.old might.accepted;
    })

-- REQUESTS

still_at : (o : Office) (m : ℕ) (request : Request) (outcome : Outcome) →
    is_upgraded o.history ≡ false → IsOldRequest request → WasOutcomeAt o m request outcome →
    IsOutcomeAt o m request outcome
still_at o m (Ask query) outcome before old is = is
still_at o m (Change command) outcome before old (j, judged, is) =
    (j, still_judged o m command j before old judged, is)

was_at : (o : Office) (m : ℕ) (request : Request) (outcome : Outcome) →
    is_upgraded o.history ≡ false → IsOldRequest request → IsOutcomeAt o m request outcome →
    WasOutcomeAt o m request outcome
was_at o m (Ask query) outcome before old is = is
was_at o m (Change command) outcome before old (j, judged, is) =
    (j, was_judged o m command j before old judged, is)

either : (b : Bool) (X Y Z : Type 0) → (X → Y) → cond b X Z → cond b Y Z
either true X Y Z f x = f x
either false X Y Z f z = z

pub old_requests_keep_their_outcomes : OldRequestsKeepTheirOutcomes
old_requests_keep_their_outcomes origin h reading request was old =
    let o = office origin h in
    let m = moment_of o reading in
    let before = not_upgraded origin h was in
    record {
      still = λ outcome. either (nat_lt m (end_of o.origin)) (WasOutcomeAt o m request outcome)
          (IsOutcomeAt o m request outcome) (outcome ≡ ClockRange (end_of o.origin) m)
          (still_at o m request outcome before old);
      no_other = λ outcome. either (nat_lt m (end_of o.origin)) (IsOutcomeAt o m request outcome)
          (WasOutcomeAt o m request outcome) (outcome ≡ ClockRange (end_of o.origin) m)
          (was_at o m request outcome before old);
    }
