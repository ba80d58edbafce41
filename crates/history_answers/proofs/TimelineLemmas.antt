-- What is kept answers for the history that it reflects.
use Rattle.std.proofs.Common.{◌≡◌, ◌∙◌, ℕ, ◌-◌, ◌&&◌, nat_le, Bool, true, false, cond, List, Option}
use Rattle.std.proofs.Common.{Some, None, Result, IfOk, option_map, length, ap, subst, sym}
use Rattle.slo_limits.specs.declared.TheConstants.{MAX_TIMELINE}
use Rattle.burn_core.specs.declared.State.{State}
use Rattle.burn_core.specs.Timeline.{AreSpansOf}
use Rattle.catalog_terms.specs.declared.Binding.{Binding}
use Rattle.record_form.specs.declared.Outcome.{Outcome}
use Rattle.record_form.specs.declared.Outcome.TheVariants.{Timeline, Refused}
use Rattle.record_form.specs.declared.Refusal.TheVariants as refusals
use Rattle.office_history.specs.History.{Office}
use Rattle.office_history.specs.Catalog.{catalog_in}
use Rattle.office_history.specs.Counts.{Samples}
use Rattle.office_history.specs.Alerts.{Watch, watched, state_at, is_watch_active}
use Rattle.office_history.specs.Notices.{samples_in}
use Rattle.office_history.specs.Answers.{AnswersTimeline, is_timeline}
use Rattle.office_derived.specs.declared.Derived.{Derived}
use Rattle.office_derived.specs.Derived.{Reflects}
use Rattle.kept_lines.specs.Sums.{samples_of}
use Rattle.history_answers.specs.States.{binding_state}

-- the samples of the book are the history's
samples : (d : Derived) (o : Office) → Reflects d o → samples_of d.book ≡ samples_in o.history
samples d o r = λ i. record { rows = r.rows i; exclusions = r.exclusions i }

abbrev is_stretch : ℕ → ℕ → ℕ → ℕ → Bool
is_stretch origin moment from to =
    nat_le origin from && nat_le from to && nat_le to moment && nat_le (to - from) MAX_TIMELINE

pub refused : (d : Derived) (o : Office) → Reflects d o → (moment from to : ℕ) (w : Watch) →
    is_stretch d.origin moment from to ≡ false →
    AnswersTimeline o moment from to (Some w) (Refused refusals.Range)
refused d o r moment from to w outside =
    let test : is_timeline o moment from to ≡ false =
    subst (λ (origin : ℕ). is_stretch origin moment from to ≡ false) r.origin outside in
    subst (λ (b : Bool). cond b
    ((spans : List (ℕ × ℕ)) × AreSpansOf
    (λ minute. is_watch_active o.origin (samples_in o.history) w minute ≡ true) from to spans
    × (Refused refusals.Range
    ≡ Timeline (length o.history) spans (state_at o.origin (samples_in o.history) w moment)))
    (Refused refusals.Range ≡ Refused refusals.Range)) (sym test) (λ i. Refused refusals.Range)

pub answers : (d : Derived) (o : Office) → Reflects d o →
    (moment from to : ℕ) (w : Watch) (spans : List (ℕ × ℕ)) (state : State) →
    is_stretch d.origin moment from to ≡ true → AreSpansOf
    (λ minute. is_watch_active d.origin (samples_of d.book) w minute ≡ true) from to spans →
    state ≡ state_at d.origin (samples_of d.book) w moment →
    AnswersTimeline o moment from to (Some w) (Timeline d.entries spans state)
answers d o r moment from to w spans state inside are stands =
    let kept = samples d o r in
    let test : is_timeline o moment from to ≡ true =
    subst (λ (origin : ℕ). is_stretch origin moment from to ≡ true) r.origin inside in
    let active = subst (λ (seen : ℕ × Samples).
    AreSpansOf (λ minute. is_watch_active seen.0 seen.1 w minute ≡ true) from to spans)
    (λ i. (r.origin i, kept i)) are in
    let now = stands ∙ (λ i. state_at (r.origin i) (kept i) w moment) in
    let said : Timeline d.entries spans state
    ≡ Timeline (length o.history) spans (state_at o.origin (samples_in o.history) w moment) =
    λ i. Timeline (r.entries i) spans (now i) in
    subst (λ (b : Bool). cond b
    ((spans' : List (ℕ × ℕ)) × AreSpansOf
    (λ minute. is_watch_active o.origin (samples_in o.history) w minute ≡ true) from to spans'
    × (Timeline d.entries spans state
    ≡ Timeline (length o.history) spans' (state_at o.origin (samples_in o.history) w moment)))
    (Timeline d.entries spans state ≡ Refused refusals.Range)) (sym test) (spans, active, said)

-- what is found of a binding in the catalog that is kept is found in the history's
found : (d : Derived) (o : Office) → Reflects d o → (b : Binding) (w : Option Watch)
    → w ≡ watched d.catalog b → w ≡ watched (catalog_in o.history) b
found d o r b w is = is ∙ (λ i. watched (r.catalog i) b)

pub answers_binding : {E : Type 0} (d : Derived) (o : Office) → Reflects d o →
    (moment from to : ℕ) (b : Binding) (w : Option Watch) (result : Result Outcome E) →
    w ≡ watched d.catalog b → IfOk result (AnswersTimeline o moment from to w) →
    IfOk result (AnswersTimeline o moment from to (watched (catalog_in o.history) b))
answers_binding d o r moment from to b w result is answer =
    subst (λ (w : Option Watch). IfOk result (AnswersTimeline o moment from to w))
    (found d o r b w is) answer

pub no_state : (d : Derived) (o : Office) → Reflects d o → (b : Binding) (at : ℕ) (w : Option Watch)
    → w ≡ watched d.catalog b → w ≡ None → None ≡ binding_state o b at
no_state d o r b at w is none = ap (option_map (λ w. state_at o.origin (samples_in o.history) w at))
    (sym none ∙ found d o r b w is)

pub one_state : (d : Derived) (o : Office) → Reflects d o →
    (b : Binding) (at : ℕ) (f : Option Watch) (w : Watch) (state : State) →
    f ≡ watched d.catalog b → f ≡ Some w → state ≡ state_at d.origin (samples_of d.book) w at →
    Some state ≡ binding_state o b at
one_state d o r b at f w state is some stands =
    let kept = samples d o r in
    let now = stands ∙ (λ i. state_at (r.origin i) (kept i) w at) in
    ap Some now ∙ ap (option_map (λ w. state_at o.origin (samples_in o.history) w at))
    (sym some ∙ found d o r b f is)
