-- Offices that say the same of the SLOs of their catalog answer alike.
use Rattle.std.proofs.Common.{◌≡◌, ◌∙◌, ℕ, zero, suc, ◌+◌, ◌-◌, ◌*◌, min, ◌==◌, ◌||◌, ◌&&◌, Bool}
use Rattle.std.proofs.Common.{true, false, cond}
use Rattle.std.proofs.Common.{List, [], ◌∷◌, map, refl, sym, ap, subst, length, Option, Some, None}
use Rattle.std.proofs.Common.{is_some, option_and_then, bytes_eq, nat_lt, nat_le}
use Rattle.std.specs.Prelude.{slice_get}
use Rattle.std.specs.List.{AllByRecursion, list_any, range_with_len}
use Rattle.slo_limits.specs.declared.TheConstants.{MAX_LOOKBACK, MAX_TIMELINE}
use Rattle.slo_duration.specs.Minutes.{minutes_of}
use Rattle.zone_calendar.specs.Zone.{ZoneText, utc_text}
use Rattle.zone_calendar.specs.ZoneBytes.{zone_of}
use Rattle.object_terms.specs.declared.Calendar.{Calendar}
use Rattle.object_terms.specs.declared.Kind.TheVariants as kinds
use Rattle.object_terms.specs.declared.Object.{Object}
use Rattle.object_terms.specs.declared.Objective.{Objective}
use Rattle.object_terms.specs.declared.Slo.{Slo}
use Rattle.object_terms.specs.declared.TimeWindow.{TimeWindow}
use Rattle.catalog_terms.specs.declared.Binding.{Binding}
use Rattle.catalog_terms.specs.Bindings.{bindings}
use Rattle.catalog_terms.specs.Keys.{member_of}
use Rattle.sample_book.specs.Rows.{row_of_cell}
use Rattle.slice_method.specs.declared.Reading.{Reading}
use Rattle.burn_core.specs.declared.AlertRule.{AlertRule}
use Rattle.burn_core.specs.Timeline.{AreSpansOf}
use Rattle.record_form.specs.declared.BudgetRow.{BudgetRow}
use Rattle.record_form.specs.declared.Outcome.{Outcome}
use Rattle.record_form.specs.declared.Outcome.TheVariants as outcomes
use Rattle.record_form.specs.declared.Outcome.TheVariants.{ObjectList, Budgets, Timeline}
use Rattle.record_form.specs.declared.Query.{Query}
use Rattle.record_form.specs.declared.Query.TheVariants as queries
use Rattle.record_form.specs.declared.Refusal.{Refusal}
use Rattle.record_form.specs.declared.Refusal.TheVariants as refusals
use Rattle.record_form.specs.declared.WindowRow.{WindowRow}
use Rattle.office_history.specs.declared.Measure.{Measure}
use Rattle.office_history.specs.Alerts.{Watch, is_watch_active, rule_named, same_binding, state_at}
use Rattle.office_history.specs.Alerts.{watch_with, watched}
use Rattle.office_history.specs.declared.questions.TheConstants.{MAX_WINDOWS}
use Rattle.office_history.specs.Answers.{Answers, AnswersBudgets, AnswersTimeline, AnswersWindows}
use Rattle.office_history.specs.Answers.{are_asked, asked_at, budget_row, budget_rows}
use Rattle.office_history.specs.Answers.{budgets_from, burn_answer, burn_fault, burn_over}
use Rattle.office_history.specs.Answers.{counted_until, is_outside, is_stretch, is_timeline}
use Rattle.office_history.specs.Answers.{object_answer, refused_or, row_answer, sums_answer}
use Rattle.office_history.specs.Answers.{window_rows, windows_of}
use Rattle.office_history.specs.Batches.{when}
use Rattle.office_history.specs.Catalog.{catalog_in}
use Rattle.office_history.specs.Counts.{sum_between}
use Rattle.office_history.specs.History.{Office, current_in, end_of}
use Rattle.office_history.specs.Names.{names_in_order}
use Rattle.office_history.specs.Notices.{samples_in}
use Rattle.office_history.specs.Objectives.{measure_at, measure_of, measures_named, measures_of}
use Rattle.office_history.specs.Objectives.{measures_with, reading_named, slo_named}
use Rattle.office_history.specs.Stretches.{stretches_between, sums_over}
use Rattle.office_history.specs.Windows.{AreStartsIn, BeginsBy, BeginsIn, IsFirstFrom, IsStart}
use Rattle.office_history.specs.Windows.{IsStartBy, IsStartIn, WindowBegins}
use Rattle.office_history.specs.Zones.{bytes_named, utc, zone_named, zones_in}
use Rattle.export_terms.specs.Zones.{zones_by_name}
use Rattle.export_terms.proofs.NameLemmas.{names_by_name}
use Rattle.export_laws.specs.Alike.{AsksWhatIsSent, SameAnswers, with_entries}
use Rattle.export_laws.specs.Replay.{IsEqualOffice}
use Rattle.export_laws.proofs.Again.{again_by_name, are_by_name, same_alerts, same_states}
use Rattle.export_laws.proofs.Again.{same_sums}

abbrev IsThere : List Object → Measure → Type 0
IsThere members m = is_some (slo_named members m.slo) ≡ true

-- two offices say the same of what their catalog names
pub record AreAlike (a b : Office) : Type 0 where
  pub origin : b.origin ≡ a.origin
  pub catalog : catalog_in b.history ≡ catalog_in a.history
  pub bytes : (name : List ℕ)
      → bytes_named (zones_in b.history) name ≡ bytes_named (zones_in a.history) name
  pub sums : (m : Measure) (from to : ℕ) → IsThere (catalog_in a.history) m
      → sum_between (samples_in b.history) m from to ≡ sum_between (samples_in a.history) m from to
  pub alerts : (w : Watch) (minute : ℕ) → IsThere (catalog_in a.history) w.measure
      → is_watch_active b.origin (samples_in b.history) w minute
      ≡ is_watch_active a.origin (samples_in a.history) w minute
  pub states : (w : Watch) (minute : ℕ) → IsThere (catalog_in a.history) w.measure
      → state_at b.origin (samples_in b.history) w minute
      ≡ state_at a.origin (samples_in a.history) w minute
  pub rows : current_in b.history ≡ current_in a.history
  pub names : names_in_order (map (λ kept. kept.0) (zones_in b.history))
      ≡ names_in_order (map (λ kept. kept.0) (zones_in a.history))

-- zones by name have the same names in their order
same_names : (zs : List (List ℕ × List ℕ))
    → names_in_order (map (λ (y : List ℕ × List ℕ). y.0) (zones_by_name zs))
    ≡ names_in_order (map (λ (y : List ℕ × List ℕ). y.0) zs)
same_names zs =
    sym (names_by_name (zones_by_name zs))
    ∙ ap (map (λ (y : List ℕ × List ℕ). y.0)) (again_by_name (zones_by_name zs) (are_by_name zs))
    ∙ names_by_name zs

alike : (old new : Office) → IsEqualOffice old new → AreAlike old new
alike old new e = record {
  origin = e.origin;
  catalog = e.catalog;
  bytes = e.bytes;
  sums = λ m from to there. same_sums old new m from to e there;
  alerts = λ w minute there. same_alerts old new w minute e there;
  states = λ w minute there. same_states old new w minute e there;
  rows = e.rows;
  names = ap (λ (zs : List (List ℕ × List ℕ)). names_in_order (map (λ kept. kept.0) zs)) e.zones
      ∙ same_names (zones_in old.history);
}

-- it is so both ways
other_way : (a b : Office) → AreAlike a b → AreAlike b a
other_way a b e = record {
  origin = sym e.origin;
  catalog = sym e.catalog;
  bytes = λ name. sym (e.bytes name);
  sums = λ m from to there. sym (e.sums m from to (here m there));
  alerts = λ w minute there. sym (e.alerts w minute (here w.measure there));
  states = λ w minute there. sym (e.states w minute (here w.measure there));
  rows = sym e.rows;
  names = sym e.names;
}
  where
    here : (m : Measure) → IsThere (catalog_in b.history) m → IsThere (catalog_in a.history) m
    here m there = subst (λ (members : List Object). IsThere members m) e.catalog there

-- WHAT THE CATALOG NAMES

measures_there : (members : List Object) (name : List ℕ)
    → AllByRecursion (IsThere members) (measures_named members name)
measures_there members name = by (slo_named members name) refl
  where
    each : (slo : Slo) (reading : Reading) → is_some (slo_named members name) ≡ true
        → (os : List Objective)
        → AllByRecursion (IsThere members) (map (measure_of name slo reading) os)
    each slo reading e [] = tt
    each slo reading e (o ∷ os) = (e, each slo reading e os)

    with_reading : (slo : Slo) → is_some (slo_named members name) ≡ true → (r : Option Reading)
        → AllByRecursion (IsThere members) (measures_with name slo r)
    with_reading slo e None = tt
    with_reading slo e (Some reading) = each slo reading e slo.objectives

    by : (s : Option Slo) → slo_named members name ≡ s
        → AllByRecursion (IsThere members) (measures_of members name s)
    by None e = tt
    by (Some slo) e = with_reading slo (ap is_some e) (reading_named members slo.indicator)

all_at : {A : Type 0} (P : A → Type 0) (xs : List A) (n : ℕ) (x : A) → AllByRecursion P xs
    → slice_get xs n ≡ Some x → P x
all_at P [] n x h e = cc e
all_at P (y ∷ xs) zero x h e = let same : y ≡ x = cc e in subst P same h.0
all_at P (y ∷ xs) (suc n) x h e = all_at P xs n x h.1 e

measure_there : (members : List Object) (slo : List ℕ) (objective : ℕ) (m : Measure)
    → measure_at members slo objective ≡ Some m → IsThere members m
measure_there members slo objective m e =
    all_at (IsThere members) (measures_named members slo) objective m (measures_there members slo) e

watch_there : (members : List Object) (binding : Binding) (w : Watch)
    → watched members binding ≡ Some w → IsThere members w.measure
watch_there members binding w e = by (list_any (same_binding binding) (bindings members))
    (measure_at members binding.slo binding.objective) (rule_named members binding.policy) refl e
  where
    by : (c : Bool) (o : Option Measure) (r : Option AlertRule)
        → measure_at members binding.slo binding.objective ≡ o
        → cond c (watch_with o r) None ≡ Some w → IsThere members w.measure
    by false o r f g = cc g
    by true None r f g = cc g
    by true (Some m) None f g = cc g
    by true (Some m) (Some rule) f g =
        let same : m ≡ w.measure = measure_of_watch (record { measure = m; rule = rule }) w g in
        subst (IsThere members) same (measure_there members binding.slo binding.objective m f)
      where
        measure_of_watch : (v w : Watch) → Some v ≡ Some w → v.measure ≡ w.measure
        measure_of_watch v w h = let same : v ≡ w = cc h in ap (λ (x : Watch). x.measure) same

-- one of two facts for one of two others
either_way : (c : Bool) (A B C D : Type 0) → (A → C) → (B → D) → cond c A B → cond c C D
either_way true A B C D f g h = f h
either_way false A B C D f g h = g h

module _ (a b : Office) (e : AreAlike a b) where
  abbrev entries : ℕ
  entries = length b.history

  abbrev here : List Object
  here = catalog_in a.history

  -- BUDGETS

  rows_alike : (from at number : ℕ) (ms : List Measure) → AllByRecursion (IsThere here) ms
      → budget_rows (samples_in a.history) from at number ms
      ≡ budget_rows (samples_in b.history) from at number ms
  rows_alike from at number [] h = refl
  rows_alike from at number (m ∷ ms) h = λ i.
      budget_row from number m.target (sym (e.sums m from at h.0) i)
      ∷ rows_alike from at (number + 1) ms h.1 i

  window_alike : (window : TimeWindow) (minute : ℕ) (start : Option ℕ)
      → WindowBegins (zones_in a.history) window (end_of a.origin) minute start
      → WindowBegins (zones_in b.history) window (end_of b.origin) minute start
  window_alike window minute start h =
      subst (λ n. WindowBegins (zones_in b.history) window (end_of n) minute start) (sym e.origin)
      (by window.calendar h)
    where
      zone : (name : List ℕ)
          → zone_named (zones_in a.history) name ≡ zone_named (zones_in b.history) name
      zone name = ap (λ o. cond (bytes_eq name utc) (Some utc_text) (option_and_then zone_of o))
          (sym (e.bytes name))

      by : (c : Option Calendar)
          → BeginsBy (zones_in a.history) window.duration.span (end_of a.origin) minute c start
          → BeginsBy (zones_in b.history) window.duration.span (end_of a.origin) minute c start
      by None k = k
      by (Some calendar) k = subst (λ (z : Option ZoneText). BeginsIn z calendar
          window.duration.span (end_of a.origin) minute start) (zone calendar.time_zone) k

  from_alike : (name : List ℕ) (minute : ℕ) (start : Option ℕ)
      → with_entries entries (budgets_from a minute (measures_named here name) start)
      ≡ budgets_from b minute (measures_named (catalog_in b.history) name) start
  from_alike name minute None = refl
  from_alike name minute (Some from) =
      (λ i. Budgets minute (rows_alike from minute 0 (measures_named here name)
      (measures_there here name) i) entries)
      ∙ (λ i. Budgets minute (budget_rows (samples_in b.history) from minute 0
      (measures_named (sym e.catalog i) name)) entries)

  outside_alike : (moment minute : ℕ) → is_outside a moment minute ≡ is_outside b moment minute
  outside_alike moment minute = λ i. nat_lt minute (sym e.origin i) || nat_lt moment minute

  budgets_alike : (moment : ℕ) (name : List ℕ) (minute : ℕ) (s : Option Slo) (outcome : Outcome)
      → AnswersBudgets a moment name minute s outcome
      → AnswersBudgets b moment name minute s (with_entries entries outcome)
  budgets_alike moment name minute None outcome h = ap (with_entries entries) h
  budgets_alike moment name minute (Some slo) outcome h =
      subst (λ (c : Bool). cond c (with_entries entries outcome ≡ refused)
      ((start : Option ℕ) × WindowBegins (zones_in b.history) slo.time_window
      (end_of b.origin) minute start
      × (with_entries entries outcome
      ≡ budgets_from b minute (measures_named (catalog_in b.history) name) start)))
      (outside_alike moment minute)
      (either_way (is_outside a moment minute) _ _ _ _ (λ r. ap (with_entries entries) r)
      (λ p. (
        p.0,
        window_alike slo.time_window minute p.0 p.1,
        ap (with_entries entries) p.2 ∙ from_alike name minute p.0,
      )) h)
    where
      refused : Outcome
      refused = outcomes.Refused refusals.Range

  -- BURN RATES

  burn_alike : (moment minute lookback : ℕ) (o : Option Measure)
      → ((m : Measure) → o ≡ Some m → IsThere here m)
      → with_entries entries (burn_answer a moment minute lookback o)
      ≡ burn_answer b moment minute lookback o
  burn_alike moment minute lookback None there = refl
  burn_alike moment minute lookback (Some m) there =
      by (burn_fault a moment minute lookback)
      ∙ (λ i. refused_or (fault i) (burn_over minute entries m.target
      (sym (e.sums m (minute - lookback) minute (there m refl)) i)))
    where
      fault : burn_fault a moment minute lookback ≡ burn_fault b moment minute lookback
      fault = ap (λ (out : Bool). when (out || (lookback == 0 || nat_lt MAX_LOOKBACK lookback))
          refusals.Range) (outside_alike moment minute)

      by : (f : Option Refusal)
          → with_entries entries (refused_or f (burn_over minute (length a.history) m.target
          (sum_between (samples_in a.history) m (minute - lookback) minute)))
          ≡ refused_or f (burn_over minute entries m.target
          (sum_between (samples_in a.history) m (minute - lookback) minute))
      by None = refl
      by (Some refusal) = refl

  -- TIMELINES

  timeline_alike : (moment from to : ℕ) (o : Option Watch) (outcome : Outcome)
      → ((w : Watch) → o ≡ Some w → IsThere here w.measure)
      → AnswersTimeline a moment from to o outcome
      → AnswersTimeline b moment from to o (with_entries entries outcome)
  timeline_alike moment from to None outcome there h = ap (with_entries entries) h
  timeline_alike moment from to (Some w) outcome there h =
      subst (λ (c : Bool). cond c
      ((spans : List (ℕ × ℕ)) × AreSpansOf
      (λ minute. is_watch_active b.origin (samples_in b.history) w minute ≡ true) from to spans
      × (with_entries entries outcome ≡ Timeline (length b.history) spans
      (state_at b.origin (samples_in b.history) w moment)))
      (with_entries entries outcome ≡ outcomes.Refused refusals.Range))
      timeline
      (either_way (is_timeline a moment from to) _ _ _ _
      (λ p. (
        p.0,
        subst (λ (f : ℕ → Bool). AreSpansOf (λ minute. f minute ≡ true) from to p.0)
            (λ i minute. sym (e.alerts w minute (there w refl)) i) p.1,
        ap (with_entries entries) p.2
            ∙ ap (Timeline entries p.0) (sym (e.states w moment (there w refl))),
      ))
      (λ r. ap (with_entries entries) r) h)
    where
      timeline : is_timeline a moment from to ≡ is_timeline b moment from to
      timeline = ap (λ n. nat_le n from && nat_le from to && nat_le to moment
          && nat_le (to - from) MAX_TIMELINE) (sym e.origin)

  -- OBJECTS, ROWS AND SUMS

  object_plain : (o : Option Object)
      → with_entries entries (object_answer o) ≡ object_answer o
  object_plain None = refl
  object_plain (Some o) = refl

  row_alike : (sli source : List ℕ) (minute : ℕ) (found : Option Object)
      → with_entries entries (row_answer a sli source minute found)
      ≡ row_answer b sli source minute found
  row_alike sli source minute None = refl
  row_alike sli source minute (Some member) =
      λ i. outcomes.Row entries (row_of_cell (sym e.rows i)
      (record { sli = sli; source = source; minute = minute }))

  sums_alike : (moment from to step : ℕ) (o : Option Measure)
      → ((m : Measure) → o ≡ Some m → IsThere here m)
      → with_entries entries (sums_answer a moment from to step o)
      ≡ sums_answer b moment from to step o
  sums_alike moment from to step None there = refl
  sums_alike moment from to step (Some m) there =
      by (are_asked a.origin moment from to step)
      ∙ (λ i. cond (are_asked (sym e.origin i) moment from to step)
      (outcomes.Sums moment entries (map (λ k. sym (e.sums m (from + k * step)
      (min (from + k * step + step) to) (there m refl)) i)
      (range_with_len 0 (stretches_between from to step)))) (outcomes.Refused refusals.Range))
    where
      by : (c : Bool) → with_entries entries (cond c (outcomes.Sums moment (length a.history)
          (sums_over (samples_in a.history) m from to step)) (outcomes.Refused refusals.Range))
          ≡ cond c (outcomes.Sums moment entries (sums_over (samples_in a.history) m from to step))
          (outcomes.Refused refusals.Range)
      by true = refl
      by false = refl

  -- WINDOWS

  rows_of_windows : (moment : ℕ) (ms : List Measure) → AllByRecursion (IsThere here) ms
      → (starts : List ℕ) (next : Option ℕ)
      → window_rows (λ from to. budget_rows (samples_in a.history) from (counted_until moment to) 0
      ms) starts next
      ≡ window_rows (λ from to. budget_rows (samples_in b.history) from (counted_until moment to) 0
      ms) starts next
  rows_of_windows moment ms h starts next = ap
      (λ (budgets : ℕ → Option ℕ → List BudgetRow). window_rows budgets starts next)
      (λ i from to. rows_alike from (counted_until moment to) 0 ms h i)

  windows_plain : (moment : ℕ) (name : List ℕ) (starts : List ℕ) (next : Option ℕ)
      → with_entries entries (windows_of a moment (measures_named here name) starts next)
      ≡ windows_of b moment (measures_named (catalog_in b.history) name) starts next
  windows_plain moment name starts next =
      by (nat_lt MAX_WINDOWS (length starts))
      ∙ (λ i. cond (nat_lt MAX_WINDOWS (length starts)) (outcomes.Refused refusals.Range)
      (outcomes.Windows moment entries
      (rows_of_windows moment (measures_named here name) (measures_there here name) starts next i)))
      ∙ (λ i. windows_of b moment (measures_named (sym e.catalog i) name) starts next)
    where
      rows : List WindowRow
      rows = window_rows (λ from to. budget_rows (samples_in a.history) from
          (counted_until moment to) 0 (measures_named here name)) starts next

      by : (c : Bool) → with_entries entries (cond c (outcomes.Refused refusals.Range)
          (outcomes.Windows moment (length a.history) rows))
          ≡ cond c (outcomes.Refused refusals.Range) (outcomes.Windows moment entries rows)
      by true = refl
      by false = refl

  starts_alike : (window : TimeWindow)
      → IsStart (zones_in a.history) window (end_of a.origin)
      ≡ IsStart (zones_in b.history) window (end_of b.origin)
  starts_alike window =
      by window.calendar ∙ (λ i. IsStart (zones_in b.history) window (end_of (sym e.origin i)))
    where
      zone : (name : List ℕ)
          → zone_named (zones_in a.history) name ≡ zone_named (zones_in b.history) name
      zone name = ap (λ o. cond (bytes_eq name utc) (Some utc_text) (option_and_then zone_of o))
          (sym (e.bytes name))

      by : (c : Option Calendar)
          → IsStartBy (zones_in a.history) window.duration.span (end_of a.origin) c
          ≡ IsStartBy (zones_in b.history) window.duration.span (end_of a.origin) c
      by None = refl
      by (Some calendar) = λ i. IsStartIn (zone calendar.time_zone i) calendar
          window.duration.span (end_of a.origin)

  windows_alike : (moment : ℕ) (name : List ℕ) (from to : ℕ) (s : Option Slo) (outcome : Outcome)
      → AnswersWindows a moment name from to s outcome
      → AnswersWindows b moment name from to s (with_entries entries outcome)
  windows_alike moment name from to None outcome h = ap (with_entries entries) h
  windows_alike moment name from to (Some slo) outcome h =
      subst (λ (c : Bool). cond c
      ((starts : List ℕ) × (next : Option ℕ) × AreStartsIn
      (IsStart (zones_in b.history) slo.time_window (end_of b.origin)) from to starts
      × IsFirstFrom (IsStart (zones_in b.history) slo.time_window (end_of b.origin)) to next
      × (with_entries entries outcome
      ≡ windows_of b moment (measures_named (catalog_in b.history) name) starts next))
      (with_entries entries outcome ≡ outcomes.Refused refusals.Range))
      (λ i. is_stretch (sym e.origin i) moment from to)
      (either_way (is_stretch a.origin moment from to) _ _ _ _
      (λ p. (
        p.0,
        p.1,
        subst (λ (Starts : ℕ → Type 0). AreStartsIn Starts from to p.0)
            (starts_alike slo.time_window) p.2,
        subst (λ (Starts : ℕ → Type 0). IsFirstFrom Starts to p.1)
            (starts_alike slo.time_window) p.3,
        ap (with_entries entries) p.4 ∙ windows_plain moment name p.0 p.1,
      ))
      (λ r. ap (with_entries entries) r) h)

  -- ALL OF THEM

  pub answers_alike : (moment : ℕ) (query : Query) (outcome : Outcome) → AsksWhatIsSent query
      → Answers a moment query outcome → Answers b moment query (with_entries entries outcome)
  answers_alike moment queries.Objects outcome asks h =
      ap (with_entries entries) h
      ∙ (λ i. ObjectList entries
      (map (λ (object : Object). (object.kind, object.name)) (sym e.catalog i)))
  answers_alike moment (queries.Object kind name) outcome asks h =
      ap (with_entries entries) h ∙ object_plain (member_of here kind name)
      ∙ (λ i. object_answer (member_of (sym e.catalog i) kind name))
  answers_alike moment (queries.Budgets slo at) outcome asks h =
      subst (λ (members : List Object). AnswersBudgets b moment slo (asked_at moment at)
      (slo_named members slo) (with_entries entries outcome)) (sym e.catalog)
      (budgets_alike moment slo (asked_at moment at) (slo_named here slo) outcome h)
  answers_alike moment (queries.Burn slo objective lookback at) outcome asks h =
      ap (with_entries entries) h
      ∙ burn_alike moment (asked_at moment at) (minutes_of lookback)
      (measure_at here slo objective) (measure_there here slo objective)
      ∙ (λ i. burn_answer b moment (asked_at moment at) (minutes_of lookback)
      (measure_at (sym e.catalog i) slo objective))
  answers_alike moment (queries.Timeline slo objective policy from to) outcome asks h =
      let binding : Binding = record { slo = slo; objective = objective; policy = policy } in
      subst (λ (members : List Object). AnswersTimeline b moment from to (watched members binding)
      (with_entries entries outcome)) (sym e.catalog)
      (timeline_alike moment from to (watched here binding) outcome (watch_there here binding) h)
  answers_alike moment queries.Notices outcome asks h = absurd asks
  answers_alike moment (queries.Entries from) outcome asks h = absurd asks
  answers_alike moment (queries.Row sli source minute) outcome asks h =
      ap (with_entries entries) h
      ∙ row_alike sli source minute (member_of here kinds.Sli sli)
      ∙ (λ i. row_answer b sli source minute (member_of (sym e.catalog i) kinds.Sli sli))
  answers_alike moment queries.Exclusions outcome asks h = absurd asks
  answers_alike moment queries.Zones outcome asks h =
      ap (with_entries entries) h ∙ ap (outcomes.Zones entries) (sym e.names)
  answers_alike moment queries.Status outcome asks h = absurd asks
  answers_alike moment (queries.Sums slo objective from to step) outcome asks h =
      ap (with_entries entries) h
      ∙ sums_alike moment from to step (measure_at here slo objective)
      (measure_there here slo objective)
      ∙ (λ i. sums_answer b moment from to step (measure_at (sym e.catalog i) slo objective))
  answers_alike moment (queries.Windows slo from to) outcome asks h =
      subst (λ (members : List Object). AnswersWindows b moment slo from to
      (slo_named members slo) (with_entries entries outcome)) (sym e.catalog)
      (windows_alike moment slo from to (slo_named here slo) outcome h)

pub same_answers : SameAnswers
same_answers old new moment query outcome e asks = (
  answers_alike old new (alike old new e) moment query outcome asks,
  answers_alike new old (other_way old new (alike old new e)) moment query outcome asks,
)
