-- Two outcomes that answer one query over one office are the same.
use Rattle.std.proofs.Common.{◌≡◌, ◌+◌, ℕ, Bool, true, false, cond, length, List, [], ◌∷◌, Option}
use Rattle.std.proofs.Common.{Some, None, refl, sym, ap, subst, arith, ◌∙◌}
use Rattle.slo_duration.specs.declared.duration.Duration.{Duration}
use Rattle.zone_calendar.specs.Starts.{is_counted, start_at}
use Rattle.zone_calendar.specs.Zone.{ZoneText}
use Rattle.zone_calendar.proofs.LastLemmas.{one_last}
use Rattle.object_terms.specs.declared.window.Calendar.{Calendar}
use Rattle.object_terms.specs.declared.Slo.{Slo}
use Rattle.record_form.specs.declared.Outcome.{Outcome}
use Rattle.record_form.specs.declared.Outcome.TheVariants.{Timeline, Refused}
use Rattle.record_form.specs.declared.Refusal.TheVariants as refusals
use Rattle.record_form.specs.declared.Query.{Query}
use Rattle.record_form.specs.declared.Query.TheVariants as queries
use Rattle.burn_core.specs.Timeline.{AreSpansOf}
use Rattle.office_history.specs.History.{Office, end_of}
use Rattle.office_history.specs.Catalog.{catalog_in}
use Rattle.office_history.specs.Zones.{zones_in}
use Rattle.office_history.specs.Objectives.{slo_named, measures_named}
use Rattle.office_history.specs.Windows.{AreStartsIn, BeginsIn, BeginsBy, IsFirstFrom, IsStart}
use Rattle.office_history.specs.Windows.{WindowBegins}
use Rattle.office_history.specs.Alerts.{Watch, watched, state_at, is_watch_active}
use Rattle.office_history.specs.Notices.{samples_in}
use Rattle.office_history.specs.Answers.{Answers, AnswersBudgets, AnswersTimeline, AnswersWindows}
use Rattle.office_history.specs.Answers.{asked_at, budgets_from, is_outside, is_stretch}
use Rattle.office_history.specs.Answers.{is_timeline, windows_of}
use Rattle.history_answers.proofs.SpanLemmas.{spans_are_one}

both : (x a b : Outcome) → a ≡ x → b ≡ x → a ≡ b
both x a b of_a of_b = of_a ∙ sym of_b

-- one of two facts, each of which one outcome alone has
choice : (t : Bool) (P Q : Outcome → Type 0) → ((a b : Outcome) → P a → P b → a ≡ b) →
    ((a b : Outcome) → Q a → Q b → a ≡ b) →
    (a b : Outcome) → cond t (P a) (Q a) → cond t (P b) (Q b) → a ≡ b
choice true P Q one_p one_q a b of_a of_b = one_p a b of_a of_b
choice false P Q one_p one_q a b of_a of_b = one_q a b of_a of_b

one_start : (zone : Option ZoneText) (calendar : Calendar) (step : Duration) (horizon minute : ℕ)
    (s t : Option ℕ) →
    BeginsIn zone calendar step horizon minute s →
    BeginsIn zone calendar step horizon minute t → s ≡ t
one_start None calendar step horizon minute s t of_s of_t = of_s ∙ sym of_t
one_start (Some zone) calendar step horizon minute s t of_s of_t =
    one_last (λ k. is_counted calendar.start_time step horizon k ≡ true)
    (start_at zone calendar.start_time step) minute s t of_s of_t

-- a window begins at one minute
one_begin : (zones : List (List ℕ × List ℕ)) (duration : Duration) (horizon minute : ℕ)
    (calendar : Option Calendar) (s t : Option ℕ) →
    BeginsBy zones duration horizon minute calendar s →
    BeginsBy zones duration horizon minute calendar t → s ≡ t
one_begin zones duration horizon minute None s t of_s of_t = of_s ∙ sym of_t
one_begin zones duration horizon minute (Some calendar) s t of_s of_t =
    one_start _ calendar duration horizon minute s t of_s of_t

one_budgets : (o : Office) (moment : ℕ) (name : List ℕ) (at : ℕ) (slo : Option Slo)
    (a b : Outcome) →
    AnswersBudgets o moment name at slo a → AnswersBudgets o moment name at slo b → a ≡ b
one_budgets o moment name at None a b of_a of_b = both _ a b of_a of_b
one_budgets o moment name at (Some slo) a b of_a of_b =
    choice (is_outside o moment at) (λ x. x ≡ Refused refusals.Range)
    (λ x. (start : Option ℕ)
    × WindowBegins (zones_in o.history) slo.time_window (end_of o.origin) at start
    × (x ≡ budgets_from o at (measures_named (catalog_in o.history) name) start))
    (both (Refused refusals.Range))
    (λ x y of_x of_y.
    let start = one_begin (zones_in o.history) slo.time_window.duration.span (end_of o.origin) at
    slo.time_window.calendar of_x.0 of_y.0 of_x.1 of_y.1 in
    of_x.2 ∙ ap (budgets_from o at (measures_named (catalog_in o.history) name)) start ∙ sym of_y.2)
    a b of_a of_b

one_timeline : (o : Office) (moment from to : ℕ) (w : Option Watch) (a b : Outcome) →
    AnswersTimeline o moment from to w a → AnswersTimeline o moment from to w b → a ≡ b
one_timeline o moment from to None a b of_a of_b = both _ a b of_a of_b
one_timeline o moment from to (Some w) a b of_a of_b =
    choice (is_timeline o moment from to)
    (λ x. (spans : List (ℕ × ℕ)) × AreSpansOf
    (λ minute. is_watch_active o.origin (samples_in o.history) w minute ≡ true) from to spans
    × (x ≡ Timeline (length o.history) spans (state_at o.origin (samples_in o.history) w moment)))
    (λ x. x ≡ Refused refusals.Range)
    (λ x y of_x of_y.
    let spans =
    spans_are_one (λ minute. is_watch_active o.origin (samples_in o.history) w minute ≡ true)
    from to of_x.0 of_y.0 of_x.1 of_y.1 in
    of_x.2 ∙ ap (λ spans. Timeline (length o.history) spans
    (state_at o.origin (samples_in o.history) w moment)) spans ∙ sym of_y.2)
    (both (Refused refusals.Range))
    a b of_a of_b

the_least : (Starts : ℕ → Type 0) (from a b : ℕ) → IsFirstFrom Starts from (Some a)
    → IsFirstFrom Starts from (Some b) → a ≡ b
the_least Starts from a b of_a of_b =
    omega (arith, of_a.2 b of_b.0 of_b.1, of_b.2 a of_a.0 of_a.1)

-- there is one first start from a minute on, or none
one_first : (Starts : ℕ → Type 0) (from : ℕ) (a b : Option ℕ) → IsFirstFrom Starts from a
    → IsFirstFrom Starts from b → a ≡ b
one_first Starts from None None of_a of_b = refl
one_first Starts from None (Some b) of_a of_b = absurd (omega (arith, of_a b of_b.0, of_b.1))
one_first Starts from (Some a) None of_a of_b = absurd (omega (arith, of_b a of_a.0, of_a.1))
one_first Starts from (Some a) (Some b) of_a of_b =
    ap Some (the_least Starts from a b of_a of_b)

-- and one list of starts in a stretch
one_list : (Starts : ℕ → Type 0) (from to : ℕ) (xs ys : List ℕ) → AreStartsIn Starts from to xs
    → AreStartsIn Starts from to ys → xs ≡ ys
one_list Starts from to [] [] of_x of_y = refl
one_list Starts from to [] (y ∷ ys) of_x of_y =
    absurd (omega (arith, of_x y of_y.0.0 of_y.0.1, of_y.1))
one_list Starts from to (x ∷ xs) [] of_x of_y =
    absurd (omega (arith, of_y x of_x.0.0 of_x.0.1, of_x.1))
one_list Starts from to (x ∷ xs) (y ∷ ys) of_x of_y =
    let same = the_least Starts from x y of_x.0 of_y.0 in
    let rest = one_list Starts (x + 1) to xs ys of_x.2
    (subst (λ n. AreStartsIn Starts (n + 1) to ys) (sym same) of_y.2) in
    λ i. same i ∷ rest i

one_windows : (o : Office) (moment : ℕ) (name : List ℕ) (from to : ℕ) (slo : Option Slo)
    (a b : Outcome) → AnswersWindows o moment name from to slo a
    → AnswersWindows o moment name from to slo b → a ≡ b
one_windows o moment name from to None a b of_a of_b = both _ a b of_a of_b
one_windows o moment name from to (Some slo) a b of_a of_b =
    let Starts = IsStart (zones_in o.history) slo.time_window (end_of o.origin) in
    let measures = measures_named (catalog_in o.history) name in
    choice (is_stretch o.origin moment from to)
    (λ x. (starts : List ℕ) × (next : Option ℕ) × AreStartsIn
    (IsStart (zones_in o.history) slo.time_window (end_of o.origin)) from to starts
    × IsFirstFrom (IsStart (zones_in o.history) slo.time_window (end_of o.origin)) to next
    × (x ≡ windows_of o moment (measures_named (catalog_in o.history) name) starts next))
    (λ x. x ≡ Refused refusals.Range)
    (λ x y of_x of_y.
    let starts = one_list Starts from to of_x.0 of_y.0 of_x.2 of_y.2 in
    let next = one_first Starts to of_x.1 of_y.1 of_x.3 of_y.3 in
    of_x.4 ∙ (λ i. windows_of o moment measures (starts i) (next i)) ∙ sym of_y.4)
    (both (Refused refusals.Range))
    a b of_a of_b

pub one_answer : (o : Office) (moment : ℕ) (query : Query) (a b : Outcome)
    → Answers o moment query a → Answers o moment query b → a ≡ b
one_answer o moment queries.Objects a b of_a of_b = both _ a b of_a of_b
one_answer o moment (queries.Object kind name) a b of_a of_b = both _ a b of_a of_b
one_answer o moment (queries.Budgets slo at) a b of_a of_b =
    one_budgets o moment slo (asked_at moment at)
    (slo_named (catalog_in o.history) slo) a b of_a of_b
one_answer o moment (queries.Burn slo objective lookback at) a b of_a of_b = both _ a b of_a of_b
one_answer o moment (queries.Timeline slo objective policy from to) a b of_a of_b =
    one_timeline o moment from to (watched (catalog_in o.history)
    (record { slo = slo; objective = objective; policy = policy })) a b of_a of_b
one_answer o moment queries.Notices a b of_a of_b = both _ a b of_a of_b
one_answer o moment (queries.Entries from) a b of_a of_b = both _ a b of_a of_b
one_answer o moment (queries.Row sli source minute) a b of_a of_b = both _ a b of_a of_b
one_answer o moment queries.Exclusions a b of_a of_b = both _ a b of_a of_b
one_answer o moment queries.Zones a b of_a of_b = both _ a b of_a of_b
one_answer o moment queries.Status a b of_a of_b = both _ a b of_a of_b
one_answer o moment (queries.Sums slo objective from to step) a b of_a of_b =
    both _ a b of_a of_b
one_answer o moment (queries.Windows slo from to) a b of_a of_b =
    one_windows o moment slo from to (slo_named (catalog_in o.history) slo) a b of_a of_b
