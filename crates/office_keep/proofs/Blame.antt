-- Neither a judgement nor an answer blames the disk.
use Rattle.std.proofs.Common.{◌≡◌, ℕ, ◌+◌, ◌-◌, ◌||◌, ◌==◌, Bool, true, false, cond, nat_lt, List}
use Rattle.std.proofs.Common.{[], ◌∷◌, length, Option, Some, None, Result, Ok, Err, refl, sym, ap}
use Rattle.std.proofs.Common.{◌∙◌, drop, map}
use Rattle.std.specs.List.{list_any}
use Rattle.std.specs.Str.{bytes_eq}
use Rattle.entry_records.specs.Feeds.{feed_of}
use Rattle.slo_limits.specs.declared.TheConstants as most
use Rattle.burn_core.specs.declared.State.{State}
use Rattle.burn_core.specs.Timeline.{AreSpansOf}
use Rattle.sample_book.specs.declared.Exclusion.{Exclusion}
use Rattle.sample_book.specs.declared.Row.{Row}
use Rattle.sample_book.specs.declared.RowVerdict.{RowVerdict}
use Rattle.sample_book.specs.Exclusions.{exclusion_of}
use Rattle.sample_book.specs.History.{is_put}
use Rattle.sample_book.specs.Puts.{verdicts}
use Rattle.object_terms.specs.declared.Kind.TheVariants as kinds
use Rattle.object_terms.specs.declared.Object.{Object}
use Rattle.object_terms.specs.declared.Slo.{Slo}
use Rattle.catalog_terms.specs.declared.RemoveFault.{RemoveFault}
use Rattle.catalog_terms.specs.Keys.{member_of}
use Rattle.catalog_terms.specs.Remove.{remaining_members}
use Rattle.office_history.specs.Definitions.{Known}
use Rattle.record_form.specs.declared.Command.{Command}
use Rattle.record_form.specs.declared.Command.TheVariants.{Define, Remove, PutZone, Samples}
use Rattle.record_form.specs.declared.Command.TheVariants.{Exclude, Lift, Tick, Take, Upgrade}
use Rattle.record_form.specs.Records.{record_of}
use Rattle.record_form.specs.declared.LimitName.TheVariants as limits
use Rattle.record_form.specs.declared.Outcome.{Outcome}
use Rattle.record_form.specs.declared.Outcome.TheVariants as outcomes
use Rattle.record_form.specs.declared.Outcome.TheVariants.{Changed, Defined, DiskFault, Timeline}
use Rattle.record_form.specs.declared.Query.{Query}
use Rattle.record_form.specs.declared.Query.TheVariants as queries
use Rattle.record_form.specs.declared.Refusal.{Refusal}
use Rattle.record_form.specs.declared.Refusal.TheVariants as refusals
use Rattle.office_history.specs.declared.Judgement.{Judgement}
use Rattle.office_history.specs.declared.Judgement.TheVariants.{Accepted, Refused, Same}
use Rattle.office_history.specs.declared.Measure.{Measure}
use Rattle.office_history.specs.Alerts.{Watch, is_watch_active, state_at, watched}
use Rattle.office_history.specs.Answers.{Answers, AnswersBudgets, AnswersTimeline, AnswersWindows}
use Rattle.office_history.specs.Answers.{asked_at, budget_rows, counted_until, is_stretch}
use Rattle.office_history.specs.Answers.{budgets_from, burn_answer, burn_fault, burn_over}
use Rattle.office_history.specs.Answers.{is_outside, is_timeline, object_answer, refused_or}
use Rattle.office_history.specs.Answers.{are_asked, row_answer, sums_answer, window_rows}
use Rattle.office_history.specs.Answers.{windows_of}
use Rattle.office_history.specs.declared.questions.TheConstants.{MAX_WINDOWS}
use Rattle.office_history.specs.Batches.{objective_days, batch_outcome, when}
use Rattle.office_history.specs.Catalog.{catalog_in}
use Rattle.office_history.specs.Counts.{sum_between}
use Rattle.office_history.specs.History.{Office, current_in, end_of, exclusions_in, rows_in}
use Rattle.office_history.specs.Judges.{Judges, JudgesText, defined, known_of, refused}
use Rattle.office_history.specs.Lists.{first_some}
use Rattle.office_history.specs.Notices.{notices_in, samples_in, told_at, waiting}
use Rattle.office_history.specs.Objectives.{measure_at, measures_named, slo_named}
use Rattle.office_history.specs.Outcomes.{outcome_of}
use Rattle.office_history.specs.Stretches.{sums_over}
use Rattle.office_history.specs.Verdicts.{accepted, exclude_verdict_beside, first_row_of}
use Rattle.office_history.specs.Verdicts.{is_waiting, lift_verdict_of, new_exclusion_fault}
use Rattle.office_history.specs.Verdicts.{new_zone_fault, same_content, samples_fault}
use Rattle.office_history.specs.Verdicts.{unless_refused, unless_removal, unless_sampled}
use Rattle.office_history.specs.Verdicts.{upgrade_verdict, zone_verdict_beside}
use Rattle.office_history.specs.Versions.{is_upgraded}
use Rattle.office_history.specs.Windows.{AreStartsIn, IsFirstFrom, IsStart, WindowBegins}
use Rattle.slo_duration.specs.Minutes.{minutes_of}
use Rattle.office_history.specs.Zones.{bytes_named, utc, zones_in}

-- the outcome is a fault of the disk
abbrev blames : Outcome → Bool
blames DiskFault = true
blames _ = false

abbrev judged_so : Judgement → Bool
judged_so (Same outcome) = blames outcome
judged_so _ = false

by_cond : (b : Bool) (x y : Judgement) → judged_so x ≡ false → judged_so y ≡ false →
    judged_so (cond b x y) ≡ false
by_cond true x y e f = e
by_cond false x y e f = f

by_refusal : (r : Option Refusal) (j : Judgement) → judged_so j ≡ false →
    judged_so (unless_refused r j) ≡ false
by_refusal None j e = e
by_refusal (Some r) j e = refl

by_accepted : (entries : ℕ) → judged_so (accepted entries) ≡ false
by_accepted entries =
    by_cond (nat_lt entries most.MAX_ENTRIES) Accepted (Refused (refusals.Limit limits.Entries))
    refl refl

by_removal : (r : Result (List Object) RemoveFault) (j : Judgement) → judged_so j ≡ false →
    judged_so (unless_removal r j) ≡ false
by_removal (Ok members) j e = e
by_removal (Err fault) j e = refl

by_sample : (row : Option Row) (j : Judgement) → judged_so j ≡ false →
    judged_so (unless_sampled row j) ≡ false
by_sample None j e = e
by_sample (Some row) j e = refl

by_zone : (old : Option (List ℕ)) (kept entries : ℕ) (name bytes : List ℕ) →
    judged_so (zone_verdict_beside old kept entries name bytes) ≡ false
by_zone None kept entries name bytes =
    by_refusal (new_zone_fault kept name bytes) (accepted entries) (by_accepted entries)
by_zone (Some old) kept entries name bytes =
    by_cond (bytes_eq old bytes) (Same (Changed None)) (Refused (refusals.ZoneDiffers name))
    refl refl

by_exclusion : (old : Option (Exclusion × Bool)) (origin : ℕ) (members : List Object)
    (made entries : ℕ) (value : Exclusion) →
    judged_so (exclude_verdict_beside old origin members made entries value) ≡ false
by_exclusion None origin members made entries value =
    by_refusal (new_exclusion_fault origin members made value) (accepted entries)
    (by_accepted entries)
by_exclusion (Some kept) origin members made entries value =
    let conflict = Refused (refusals.ExclusionConflict kept.0.from kept.0.slo kept.0.to) in
    by_cond kept.1 (cond (same_content kept.0 value) (Same (Changed None)) conflict)
    (Refused (refusals.Withdrawn value.id))
    (by_cond (same_content kept.0 value) (Same (Changed None)) conflict refl refl) refl

by_lift : (old : Option (Exclusion × Bool)) (entries : ℕ) →
    judged_so (lift_verdict_of old entries) ≡ false
by_lift None entries = refl
by_lift (Some kept) entries =
    by_cond kept.1 (accepted entries) (Same (Changed None)) (by_accepted entries) refl

by_take : (b made : Bool) (entries : ℕ) (refusal : Refusal) →
    judged_so (cond b (Refused refusal)
    (cond made (accepted entries) (Same (Changed None)))) ≡ false
by_take b made entries refusal =
    by_cond b (Refused refusal) (cond made (accepted entries) (Same (Changed None))) refl
    (by_cond made (accepted entries) (Same (Changed None)) (by_accepted entries) refl)

by_upgrade : (upgraded : Bool) (entries : ℕ) → judged_so (upgrade_verdict upgraded entries) ≡ false
by_upgrade true entries = refl
by_upgrade false entries = by_accepted entries

by_batch : (fault : Option Refusal) (puts : Bool) (entries : ℕ) (vs : List RowVerdict) →
    judged_so (unless_refused fault
    (cond puts (accepted entries) (Same (batch_outcome vs None)))) ≡ false
by_batch fault puts entries vs =
    by_refusal fault (cond puts (accepted entries) (Same (batch_outcome vs None)))
    (by_cond puts (accepted entries) (Same (batch_outcome vs None)) (by_accepted entries) refl)

by_definition : (fault : Option Refusal) (same : Bool) (objects entries : ℕ) →
    judged_so (unless_refused fault (cond same (Same (Defined objects None)) (accepted entries)))
    ≡ false
by_definition fault same objects entries =
    by_refusal fault (cond same (Same (Defined objects None)) (accepted entries))
    (by_cond same (Same (Defined objects None)) (accepted entries) refl (by_accepted entries))

by_text : (known : Known) (entries : ℕ) (text : List ℕ) (j : Judgement) →
    JudgesText known entries text j → judged_so j ≡ false
by_text known entries text j (refused is) = refl
by_text known entries text j (defined {made = made} is) =
    by_definition
    (when (nat_lt most.MAX_DAYS (objective_days made.catalog known.rows))
    (refusals.Limit limits.Days))
    made.same made.objects entries

judges_so : (o : Office) (moment : ℕ) (command : Command) (j : Judgement) →
    Judges o moment command j → judged_so j ≡ false
judges_so o moment (Define text) j is = by_text (known_of o) (length o.history) text j is
judges_so o moment (Remove kind name) j is =
    let rows = current_in o.history in
    ap judged_so is
    ∙ by_removal (remaining_members (catalog_in o.history) kind name)
    (unless_sampled (first_row_of rows kind name) (accepted (length o.history)))
    (by_sample (first_row_of rows kind name) (accepted (length o.history))
    (by_accepted (length o.history)))
judges_so o moment (PutZone name bytes) j is =
    let zones = zones_in o.history in
    let where_it_is =
    zone_verdict_beside (bytes_named zones name) (length zones) (length o.history) name bytes in
    ap judged_so is
    ∙ by_refusal
    (first_some (when (bytes_eq name utc) (refusals.ReservedZone name)
    ∷ when (nat_lt most.MAX_ZONE_BYTES (length bytes)) (refusals.Limit limits.ZoneBytes)
    ∷ []))
    where_it_is (by_zone (bytes_named zones name) (length zones) (length o.history) name bytes)
judges_so o moment (Samples rows) j is =
    ap judged_so is
    ∙ by_batch (samples_fault (is_upgraded o.history) o.origin moment (catalog_in o.history)
    (rows_in o.history) rows)
    (list_any is_put (verdicts (rows_in o.history) rows)) (length o.history)
    (verdicts (rows_in o.history) rows)
judges_so o moment (Exclude value) j is =
    let made = exclusions_in o.history in
    ap judged_so is
    ∙ by_exclusion (exclusion_of made value.id) o.origin (catalog_in o.history) (length made)
    (length o.history) value
judges_so o moment (Lift id) j is =
    ap judged_so is ∙ by_lift (exclusion_of (exclusions_in o.history) id) (length o.history)
judges_so o moment Tick j is =
    ap judged_so is
    ∙ by_refusal
    (when (nat_lt most.MAX_NOTICES
    (waiting (notices_in o) + length (told_at o (record { moment = moment; command = Tick }))))
    (refusals.Limit limits.Notices))
    (accepted (length o.history)) (by_accepted (length o.history))
judges_so o moment (Take number) j is =
    let made = notices_in o in
    ap judged_so is
    ∙ by_take (number == 0 || nat_lt (length made) number) (is_waiting made number)
    (length o.history) (refusals.UnknownNotice (length made) number)
judges_so o moment Upgrade j is =
    ap judged_so is ∙ by_upgrade (is_upgraded o.history) (length o.history)

-- what stays as it is blames no disk
pub same_no_fault : (o : Office) (moment : ℕ) (command : Command) (outcome : Outcome) →
    Judges o moment command (Same outcome) → outcome ≡ DiskFault → ⊥
same_no_fault o moment command outcome judged is =
    absurd (cc (sym (judges_so o moment command (Same outcome) judged) ∙ ap blames is))

-- nor does what is accepted
pub no_disk_fault : (o : Office) (moment : ℕ) (command : Command) →
    outcome_of o moment command ≡ DiskFault → ⊥
no_disk_fault o moment (Define text) e = cc e
no_disk_fault o moment (Remove kind name) e = cc e
no_disk_fault o moment (PutZone name bytes) e = cc e
no_disk_fault o moment (Samples rows) e = cc e
no_disk_fault o moment (Exclude value) e = cc e
no_disk_fault o moment (Lift id) e = cc e
no_disk_fault o moment Tick e = cc e
no_disk_fault o moment (Take number) e = cc e
no_disk_fault o moment Upgrade e = cc e

pick : (b : Bool) (X Y P : Type 0) → (X → P) → (Y → P) → cond b X Y → P
pick true X Y P f g x = f x
pick false X Y P f g y = g y

by_object : (found : Option Object) → blames (object_answer found) ≡ false
by_object None = refl
by_object (Some o) = refl

by_start : (o : Office) (at : ℕ) (measures : List Measure) (start : Option ℕ) →
    blames (budgets_from o at measures start) ≡ false
by_start o at measures None = refl
by_start o at measures (Some from) = refl

by_told : (o : Office) (at : ℕ) (measures : List Measure) (outcome : Outcome)
    (begins : Option ℕ → Type 0) →
    ((start : Option ℕ) × begins start × (outcome ≡ budgets_from o at measures start)) →
    blames outcome ≡ false
by_told o at measures outcome begins told = ap blames told.2 ∙ by_start o at measures told.0

by_budgets : (o : Office) (moment : ℕ) (name : List ℕ) (at : ℕ) (found : Option Slo)
    (outcome : Outcome) → AnswersBudgets o moment name at found outcome → blames outcome ≡ false
by_budgets o moment name at None outcome is = ap blames is
by_budgets o moment name at (Some slo) outcome is =
    pick (is_outside o moment at) (outcome ≡ outcomes.Refused refusals.Range)
    ((start : Option ℕ)
    × WindowBegins (zones_in o.history) slo.time_window (end_of o.origin) at start
    × (outcome ≡ budgets_from o at (measures_named (catalog_in o.history) name) start))
    (blames outcome ≡ false)
    (λ range. ap blames range)
    (by_told o at (measures_named (catalog_in o.history) name) outcome
    (WindowBegins (zones_in o.history) slo.time_window (end_of o.origin) at))
    is

by_fault : (r : Option Refusal) (outcome : Outcome) → blames outcome ≡ false →
    blames (refused_or r outcome) ≡ false
by_fault None outcome e = e
by_fault (Some r) outcome e = refl

by_burn : (o : Office) (moment at lookback : ℕ) (found : Option Measure) →
    blames (burn_answer o moment at lookback found) ≡ false
by_burn o moment at lookback None = refl
by_burn o moment at lookback (Some m) =
    by_fault (burn_fault o moment at lookback)
    (burn_over at (length o.history) m.target
    (sum_between (samples_in o.history) m (at - lookback) at)) refl

by_spans : (entries : ℕ) (state : State) (outcome : Outcome) (are : List (ℕ × ℕ) → Type 0) →
    ((spans : List (ℕ × ℕ)) × are spans × (outcome ≡ Timeline entries spans state)) →
    blames outcome ≡ false
by_spans entries state outcome are told = ap blames told.2

by_timeline : (o : Office) (moment from to : ℕ) (found : Option Watch) (outcome : Outcome) →
    AnswersTimeline o moment from to found outcome → blames outcome ≡ false
by_timeline o moment from to None outcome is = ap blames is
by_timeline o moment from to (Some w) outcome is =
    pick (is_timeline o moment from to)
    ((spans : List (ℕ × ℕ))
    × AreSpansOf
    (λ minute. is_watch_active o.origin (samples_in o.history) w minute ≡ true) from to spans
    × (outcome ≡ Timeline (length o.history) spans
    (state_at o.origin (samples_in o.history) w moment)))
    (outcome ≡ outcomes.Refused refusals.Range) (blames outcome ≡ false)
    (by_spans (length o.history) (state_at o.origin (samples_in o.history) w moment) outcome
    (AreSpansOf
    (λ minute. is_watch_active o.origin (samples_in o.history) w minute ≡ true) from to))
    (λ range. ap blames range)
    is

by_feed : (o : Office) (from : ℕ) (past : Bool)
    → blames (cond past (outcomes.Refused refusals.Range)
    (outcomes.Feed (feed_of o.origin from (map record_of (drop from o.history))))) ≡ false
by_feed o from true = refl
by_feed o from false = refl

by_row : (o : Office) (sli source : List ℕ) (minute : ℕ) (found : Option Object) →
    blames (row_answer o sli source minute found) ≡ false
by_row o sli source minute None = refl
by_row o sli source minute (Some member) = refl

by_sums : (o : Office) (moment from to step : ℕ) (found : Option Measure) →
    blames (sums_answer o moment from to step found) ≡ false
by_sums o moment from to step None = refl
by_sums o moment from to step (Some m) = by (are_asked o.origin moment from to step)
  where
    by : (b : Bool) → blames (cond b (outcomes.Sums moment (length o.history)
        (sums_over (samples_in o.history) m from to step))
        (outcomes.Refused refusals.Range)) ≡ false
    by true = refl
    by false = refl

by_rows : (o : Office) (moment : ℕ) (measures : List Measure) (starts : List ℕ)
    (next : Option ℕ) → blames (windows_of o moment measures starts next) ≡ false
by_rows o moment measures starts next = by (nat_lt MAX_WINDOWS (length starts))
  where
    by : (b : Bool) → blames (cond b (outcomes.Refused refusals.Range)
        (outcomes.Windows moment (length o.history) (window_rows (λ from to. budget_rows
        (samples_in o.history) from (counted_until moment to) 0 measures) starts next))) ≡ false
    by true = refl
    by false = refl

by_begun : (o : Office) (moment : ℕ) (measures : List Measure) (outcome : Outcome)
    (are : List ℕ → Type 0) (is : Option ℕ → Type 0) →
    ((starts : List ℕ) × (next : Option ℕ) × are starts × is next
    × (outcome ≡ windows_of o moment measures starts next)) → blames outcome ≡ false
by_begun o moment measures outcome are is told =
    ap blames told.4 ∙ by_rows o moment measures told.0 told.1

by_windows : (o : Office) (moment : ℕ) (name : List ℕ) (from to : ℕ) (found : Option Slo)
    (outcome : Outcome) → AnswersWindows o moment name from to found outcome
    → blames outcome ≡ false
by_windows o moment name from to None outcome is = ap blames is
by_windows o moment name from to (Some slo) outcome is =
    pick (is_stretch o.origin moment from to)
    ((starts : List ℕ) × (next : Option ℕ) × AreStartsIn
    (IsStart (zones_in o.history) slo.time_window (end_of o.origin)) from to starts
    × IsFirstFrom (IsStart (zones_in o.history) slo.time_window (end_of o.origin)) to next
    × (outcome ≡ windows_of o moment (measures_named (catalog_in o.history) name) starts next))
    (outcome ≡ outcomes.Refused refusals.Range) (blames outcome ≡ false)
    (by_begun o moment (measures_named (catalog_in o.history) name) outcome
    (AreStartsIn (IsStart (zones_in o.history) slo.time_window (end_of o.origin)) from to)
    (IsFirstFrom (IsStart (zones_in o.history) slo.time_window (end_of o.origin)) to))
    (λ range. ap blames range)
    is

answers_so : (o : Office) (moment : ℕ) (query : Query) (outcome : Outcome) →
    Answers o moment query outcome → blames outcome ≡ false
answers_so o moment queries.Objects outcome is = ap blames is
answers_so o moment (queries.Object kind name) outcome is =
    ap blames is ∙ by_object (member_of (catalog_in o.history) kind name)
answers_so o moment (queries.Budgets slo at) outcome is =
    by_budgets o moment slo (asked_at moment at) (slo_named (catalog_in o.history) slo) outcome is
answers_so o moment (queries.Burn slo objective lookback at) outcome is =
    ap blames is
    ∙ by_burn o moment (asked_at moment at) (minutes_of lookback)
    (measure_at (catalog_in o.history) slo objective)
answers_so o moment (queries.Timeline slo objective policy from to) outcome is =
    by_timeline o moment from to
    (watched (catalog_in o.history) (record { slo = slo; objective = objective; policy = policy }))
    outcome is
answers_so o moment queries.Notices outcome is = ap blames is
answers_so o moment (queries.Entries from) outcome is =
    ap blames is ∙ by_feed o from (nat_lt (length o.history) from)
answers_so o moment (queries.Row sli source minute) outcome is =
    ap blames is ∙ by_row o sli source minute (member_of (catalog_in o.history) kinds.Sli sli)
answers_so o moment queries.Exclusions outcome is = ap blames is
answers_so o moment queries.Zones outcome is = ap blames is
answers_so o moment queries.Status outcome is = ap blames is
answers_so o moment (queries.Sums slo objective from to step) outcome is =
    ap blames is
    ∙ by_sums o moment from to step (measure_at (catalog_in o.history) slo objective)
answers_so o moment (queries.Windows slo from to) outcome is =
    by_windows o moment slo from to (slo_named (catalog_in o.history) slo) outcome is

-- nor does an answer
pub answer_no_fault : (o : Office) (moment : ℕ) (query : Query) (outcome : Outcome) →
    Answers o moment query outcome → outcome ≡ DiskFault → ⊥
answer_no_fault o moment query outcome answer is =
    absurd (cc (sym (answers_so o moment query outcome answer) ∙ ap blames is))
