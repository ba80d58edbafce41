-- What a query answers over a history.
use Rattle.std.specs.Prelude.{◌≡◌, ℕ, ◌+◌, ◌-◌, ◌||◌, ◌==◌, Bool, cond, nat_lt, nat_le, List, []}
use Rattle.std.specs.Prelude.{◌∷◌, map, filter, take, drop, length, min, Option, Some, None, ◌&&◌}
use Rattle.std.specs.Prelude.{true}
use Rattle.slo_limits.specs.declared.TheConstants.{MAX_LOOKBACK, MAX_NOTICES_IN_ANSWER}
use Rattle.slo_limits.specs.declared.TheConstants.{MAX_TIMELINE}
use Rattle.exact_fraction.specs.declared.Leaf.{Leaf}
use Rattle.slo_terms.specs.Budget.{burn_of, error_rate_of, remaining_of}
use Rattle.yaml_terms.specs.Spelling.{writing}
use Rattle.object_terms.specs.Document.{written}
use Rattle.object_terms.specs.declared.kind.Kind.TheVariants as kinds
use Rattle.object_terms.specs.declared.Object.{Object}
use Rattle.object_terms.specs.declared.Slo.{Slo}
use Rattle.catalog_terms.specs.Keys.{member_of}
use Rattle.burn_core.specs.Timeline.{AreSpansOf}
use Rattle.notice_box.specs.declared.Notice.{Notice}
use Rattle.sample_book.specs.Rows.{row_of_cell}
use Rattle.entry_records.specs.Feeds.{feed_of}
use Rattle.record_form.specs.declared.BudgetRow.{BudgetRow}
use Rattle.record_form.specs.declared.Outcome.{Outcome}
use Rattle.record_form.specs.declared.Outcome.TheVariants.{ObjectList, ObjectText, Budgets, Burn}
use Rattle.record_form.specs.declared.Outcome.TheVariants.{Timeline, Notices, Feed, Row, Exclusions}
use Rattle.record_form.specs.declared.Outcome.TheVariants.{Zones, Status, Sums, Windows}
use Rattle.record_form.specs.declared.Outcome.TheVariants.{Refused}
use Rattle.record_form.specs.declared.WindowRow.{WindowRow}
use Rattle.record_form.specs.declared.Query.{Query}
use Rattle.record_form.specs.declared.Query.TheVariants as queries
use Rattle.record_form.specs.Records.{record_of}
use Rattle.record_form.specs.declared.Refusal.{Refusal}
use Rattle.record_form.specs.declared.Refusal.TheVariants as refusals
use Rattle.office_history.specs.declared.measure.Measure.{Measure}
use Rattle.office_history.specs.declared.questions.TheConstants.{MAX_SUMS, MAX_SUMS_MINUTES}
use Rattle.office_history.specs.declared.questions.TheConstants.{MAX_WINDOWS}
use Rattle.office_history.specs.History.{Office, current_in, end_of, exclusions_in}
use Rattle.office_history.specs.Catalog.{catalog_in}
use Rattle.office_history.specs.Names.{names_in_order}
use Rattle.office_history.specs.Status.{status_at}
use Rattle.office_history.specs.Stretches.{stretches_between, sums_over}
use Rattle.office_history.specs.Zones.{zones_in}
use Rattle.office_history.specs.Counts.{Samples, sum_between}
use Rattle.office_history.specs.Objectives.{slo_named, measures_named, measure_at}
use Rattle.slo_duration.specs.Minutes.{minutes_of}
use Rattle.office_history.specs.Windows.{AreStartsIn, IsFirstFrom, IsStart, WindowBegins}
use Rattle.office_history.specs.Alerts.{Watch, watched, state_at, is_watch_active}
use Rattle.office_history.specs.Notices.{samples_in, notices_in}
use Rattle.office_history.specs.Batches.{when}

-- an omitted minute is the moment
abbrev pub asked_at : ℕ → Option ℕ → ℕ
asked_at moment None = moment
asked_at moment (Some at) = at

abbrev pub refused_or : Option Refusal → Outcome → Outcome
refused_or None outcome = outcome
refused_or (Some refusal) outcome = Refused refusal

-- a minute that isn't between the origin and the moment
abbrev pub is_outside : Office → ℕ → ℕ → Bool
is_outside o moment at = nat_lt at o.origin || nat_lt moment at

abbrev pub object_answer : Option Object → Outcome
object_answer None = Refused refusals.NotFound
object_answer (Some o) = ObjectText (writing 0 (written o))

-- the budget of an objective over its window
abbrev pub budget_row : ℕ → ℕ → ℕ → Leaf → BudgetRow
budget_row from number target sum = record {
  burn = burn_of sum target;
  den = sum.den;
  error = error_rate_of sum;
  from = from;
  num = sum.num;
  objective = number;
  remaining = remaining_of sum target;
}

abbrev pub budget_rows : Samples → ℕ → ℕ → ℕ → List Measure → List BudgetRow
budget_rows s from at number [] = []
budget_rows s from at number (m ∷ ms) = budget_row from number m.target (sum_between s m from at)
    ∷ budget_rows s from at (number + 1) ms

abbrev pub budgets_from : Office → ℕ → List Measure → Option ℕ → Outcome
budgets_from o at measures None = Refused (refusals.NoWindow at)
budgets_from o at measures (Some from) =
    Budgets at (budget_rows (samples_in o.history) from at 0 measures) (length o.history)

-- the budgets of an SLO at a minute
abbrev pub AnswersBudgets : Office → ℕ → List ℕ → ℕ → Option Slo → Outcome → Type 0
AnswersBudgets o moment name at None outcome = outcome ≡ Refused refusals.NotFound
AnswersBudgets o moment name at (Some slo) outcome =
    cond (is_outside o moment at) (outcome ≡ Refused refusals.Range)
    ((start : Option ℕ) × WindowBegins (zones_in o.history) slo.time_window
    (end_of o.origin) at start
    × (outcome ≡ budgets_from o at (measures_named (catalog_in o.history) name) start))

abbrev pub burn_over : ℕ → ℕ → ℕ → Leaf → Outcome
burn_over at entries target sum = Burn at (burn_of sum target) sum.den entries sum.num

abbrev pub burn_fault : Office → ℕ → ℕ → ℕ → Option Refusal
burn_fault o moment at lookback =
    when (is_outside o moment at || (lookback == 0 || nat_lt MAX_LOOKBACK lookback)) refusals.Range

-- the burn rate of an objective over the lookback that ends at a minute
abbrev pub burn_answer : Office → ℕ → ℕ → ℕ → Option Measure → Outcome
burn_answer o moment at lookback None = Refused refusals.NotFound
burn_answer o moment at lookback (Some m) =
    refused_or (burn_fault o moment at lookback)
    (burn_over at (length o.history) m.target
    (sum_between (samples_in o.history) m (at - lookback) at))

abbrev pub is_timeline : Office → ℕ → ℕ → ℕ → Bool
is_timeline o moment from to =
    nat_le o.origin from && nat_le from to && nat_le to moment && nat_le (to - from) MAX_TIMELINE

-- the stretches of [from, to) in which a binding's alert is active, and its state at the moment
abbrev pub AnswersTimeline : Office → ℕ → ℕ → ℕ → Option Watch → Outcome → Type 0
AnswersTimeline o moment from to None outcome = outcome ≡ Refused refusals.NotFound
AnswersTimeline o moment from to (Some w) outcome =
    cond (is_timeline o moment from to)
    ((spans : List (ℕ × ℕ)) × AreSpansOf
    (λ minute. is_watch_active o.origin (samples_in o.history) w minute ≡ true) from to spans
    × (outcome ≡ Timeline (length o.history) spans
    (state_at o.origin (samples_in o.history) w moment)))
    (outcome ≡ Refused refusals.Range)

-- the first of the notices that wait, as many as an answer has at most
abbrev pub first_waiting : List (Notice × Bool) → List Notice
first_waiting made =
    take MAX_NOTICES_IN_ANSWER (map (λ kept. kept.0) (filter (λ kept. kept.1) made))

-- the feed of the entries from a position on, which isn't behind the end of the history
abbrev pub feed_answer : Office → ℕ → Outcome
feed_answer o from = cond (nat_lt (length o.history) from) (Refused refusals.Range)
    (Feed (feed_of o.origin from (map record_of (drop from o.history))))

-- sums are given of [from, to) between the origin and the moment, of 400 days at most, in stretches
-- of some minutes, of which there aren't too many
abbrev pub are_asked : ℕ → ℕ → ℕ → ℕ → ℕ → Bool
are_asked origin moment from to step =
    nat_le origin from && nat_le from to && nat_le to moment && nat_lt 0 step
    && nat_le (to - from) MAX_SUMS_MINUTES && nat_le (stretches_between from to step) MAX_SUMS

-- the sums of an objective over stretches of minutes, one behind another
abbrev pub sums_answer : Office → ℕ → ℕ → ℕ → ℕ → Option Measure → Outcome
sums_answer o moment from to step None = Refused refusals.NotFound
sums_answer o moment from to step (Some m) =
    cond (are_asked o.origin moment from to step)
    (Sums moment (length o.history) (sums_over (samples_in o.history) m from to step))
    (Refused refusals.Range)

abbrev pub is_stretch : ℕ → ℕ → ℕ → ℕ → Bool
is_stretch origin moment from to = nat_le origin from && nat_le from to && nat_le to moment

-- up to where a window is counted: its end, or the moment where that is earlier or it has no end
abbrev pub counted_until : ℕ → Option ℕ → ℕ
counted_until moment None = moment
counted_until moment (Some end) = min end moment

-- where a window ends: where the next one begins, the last one at `next`
abbrev pub end_before : List ℕ → Option ℕ → Option ℕ
end_before [] next = next
end_before (start ∷ starts) next = Some start

-- the windows that begin at these minutes, each with its budgets
abbrev pub window_rows : (ℕ → Option ℕ → List BudgetRow) → List ℕ → Option ℕ → List WindowRow
window_rows budgets [] next = []
window_rows budgets (start ∷ starts) next = record {
  budgets = budgets start (end_before starts next);
  from = start;
  to = end_before starts next;
} ∷ window_rows budgets starts next

-- the windows of these starts, where there aren't too many
abbrev pub windows_of : Office → ℕ → List Measure → List ℕ → Option ℕ → Outcome
windows_of o moment measures starts next =
    cond (nat_lt MAX_WINDOWS (length starts)) (Refused refusals.Range)
    (Windows moment (length o.history) (window_rows (λ from to.
    budget_rows (samples_in o.history) from (counted_until moment to) 0 measures) starts next))

-- the windows of an SLO's calendar that begin in [from, to), between the origin and the moment; the
-- last one ends at the first start from `to` on
abbrev pub AnswersWindows : Office → ℕ → List ℕ → ℕ → ℕ → Option Slo → Outcome → Type 0
AnswersWindows o moment name from to None outcome = outcome ≡ Refused refusals.NotFound
AnswersWindows o moment name from to (Some slo) outcome =
    cond (is_stretch o.origin moment from to)
    ((starts : List ℕ) × (next : Option ℕ) × AreStartsIn
    (IsStart (zones_in o.history) slo.time_window (end_of o.origin)) from to starts
    × IsFirstFrom (IsStart (zones_in o.history) slo.time_window (end_of o.origin)) to next
    × (outcome ≡ windows_of o moment (measures_named (catalog_in o.history) name) starts next))
    (outcome ≡ Refused refusals.Range)

-- the current row of a cell, where the catalog has its indicator
abbrev pub row_answer : Office → List ℕ → List ℕ → ℕ → Option Object → Outcome
row_answer o sli source minute None = Refused refusals.NotFound
row_answer o sli source minute (Some member) = Row (length o.history)
    (row_of_cell (current_in o.history) (record { sli = sli; source = source; minute = minute }))

-- the exclusions in the order in which they were made, lifted ones too
abbrev pub exclusions_answer : Office → Outcome
exclusions_answer o = Exclusions (length o.history) (exclusions_in o.history)

-- the names of the zones that were put, by their bytes
abbrev pub zones_answer : Office → Outcome
zones_answer o =
    Zones (length o.history) (names_in_order (map (λ kept. kept.0) (zones_in o.history)))

-- how full the office is
abbrev pub status_answer : Office → ℕ → Outcome
status_answer o moment = Status (status_at o moment)

-- the answer to a query at a moment
abbrev pub Answers : Office → ℕ → Query → Outcome → Type 0
Answers o moment queries.Objects outcome =
    outcome ≡ ObjectList (length o.history)
    (map (λ (object : Object). (object.kind, object.name)) (catalog_in o.history))
Answers o moment (queries.Object kind name) outcome =
    outcome ≡ object_answer (member_of (catalog_in o.history) kind name)
Answers o moment (queries.Budgets slo at) outcome =
    AnswersBudgets o moment slo (asked_at moment at) (slo_named (catalog_in o.history) slo) outcome
Answers o moment (queries.Burn slo objective lookback at) outcome =
    outcome ≡ burn_answer o moment (asked_at moment at) (minutes_of lookback)
    (measure_at (catalog_in o.history) slo objective)
Answers o moment (queries.Timeline slo objective policy from to) outcome =
    AnswersTimeline o moment from to (watched (catalog_in o.history)
    (record { slo = slo; objective = objective; policy = policy })) outcome
Answers o moment queries.Notices outcome =
    outcome ≡ Notices (length o.history) (first_waiting (notices_in o))
Answers o moment (queries.Entries from) outcome = outcome ≡ feed_answer o from
Answers o moment (queries.Row sli source minute) outcome =
    outcome ≡ row_answer o sli source minute (member_of (catalog_in o.history) kinds.Sli sli)
Answers o moment queries.Exclusions outcome = outcome ≡ exclusions_answer o
Answers o moment queries.Zones outcome = outcome ≡ zones_answer o
Answers o moment queries.Status outcome = outcome ≡ status_answer o moment
Answers o moment (queries.Sums slo objective from to step) outcome =
    outcome ≡ sums_answer o moment from to step (measure_at (catalog_in o.history) slo objective)
Answers o moment (queries.Windows slo from to) outcome =
    AnswersWindows o moment slo from to (slo_named (catalog_in o.history) slo) outcome
