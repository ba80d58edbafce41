-- What the lines that are kept know of the alerts that a catalog watches.
use Rattle.std.proofs.Common.{◌≡◌, ◌∙◌, ℕ, zero, suc, ◌+◌, ◌-◌, ◌<◌, ◌≤◌, Bool, true, false, List}
use Rattle.std.proofs.Common.{[], ◌∷◌, IfSome, Option, Some, None, is_some, option_map, unwrap_or}
use Rattle.std.proofs.Common.{length, slice_get, slice_index_or, slice_set, arith, ap, refl, subst}
use Rattle.std.proofs.Common.{sym}
use Rattle.std.specs.Bool.{Decides}
use Rattle.std.specs.List.{AllByRecursion, Contains}
use Rattle.std.proofs.lemmas.Option.{get_or_from_slice_get, slice_get_within}
use Rattle.slo_limits.specs.declared.TheConstants.{RANGE_MINUTES}
use Rattle.burn_core.specs.declared.AlertRule.{AlertRule}
use Rattle.burn_core.specs.Alert.{lookback_of, wait_of}
use Rattle.burn_core.specs.Condition.{condition}
use Rattle.burn_core.specs.Timeline.{is_active, state_of}
use Rattle.slo_terms.specs.Sums.{sum_of_slices}
use Rattle.window_sums.specs.Slices.{CountedDays, width_of}
use Rattle.object_terms.specs.declared.Object.{Object}
use Rattle.catalog_terms.specs.declared.Binding.{Binding}
use Rattle.alert_line.specs.Line.{Agrees, IsMinute, Line, SameAlert, active_on, condition_on}
use Rattle.alert_line.specs.Line.{den_before}
use Rattle.office_history.specs.declared.Measure.{Measure}
use Rattle.office_history.specs.Alerts.{Watch, holds_at, is_watch_active, rule_named, state_at}
use Rattle.office_history.specs.Alerts.{watch_of, watch_with}
use Rattle.office_history.specs.Counts.{Samples}
use Rattle.office_history.specs.Objectives.{measure_at}
use Rattle.kept_sums.specs.Objectives.{IsObjective}
use Rattle.kept_sums.proofs.KeyLemmas.{never_there}
use Rattle.kept_sums.proofs.Loops.{all_get, all_set, keys_set}
use Rattle.kept_sums.proofs.ObjectiveLemmas.{objective_at}
use Rattle.line_forgetting.specs.Right.{IsRight}
use Rattle.kept_lines.specs.Sums.{AreSums}
use Rattle.kept_lines.specs.Watches.{IsWatched}
use Rattle.kept_lines.specs.Lines.{AreBound, AreRight, AreWatched, IsBound, KeepsLines, bounds_of}
use Rattle.kept_lines.specs.Lines.{watches_of}
use Rattle.kept_lines.proofs.KnownLemmas.{with_bound, with_line}
use Rattle.kept_lines.specs.declared.kept.WatchLine.{WatchLine}

-- ONE LINE

-- the line's alert is the one that is watched
record IsOf (begin : ℕ) (w : Watch) (line : Line) : Type 0 where
  rule : line.rule ≡ w.rule
  target : line.target ≡ w.measure.target
  origin : line.origin ≡ begin

of_right : (begin : ℕ) (s : Samples) (w : Watch) (line : Line) → IsRight begin s w line →
    IsOf begin w line
of_right begin s w line is =
    record { rule = is.rule; target = is.target; origin = is.origin }

-- over the objective's sums the line's condition is the one of the alert
conditions : (begin : ℕ) (s : Samples) (w : Watch) (line : Line) (sums : CountedDays) →
    IsOf begin w line → AreSums s w.measure sums →
    condition_on line sums ≡ holds_at begin s w
conditions begin s w line sums is are = λ i minute.
    condition (is.rule i) (is.target i) (is.origin i) (width_of (are.method i))
    (λ slice. are.leaves slice i) minute

-- a line that is right agrees with the sums of its objective
pub agrees_there : (begin : ℕ) (s : Samples) (w : Watch) (line : Line) (sums : CountedDays) →
    IsRight begin s w line → AreSums s w.measure sums → Agrees line sums
agrees_there begin s w line sums is are =
    let same = conditions begin s w line sums (of_right begin s w line is) are in
    record {
      each = λ minute holds e. is.each minute holds e ∙ (λ i. sym same i minute);
    }

-- and so one that agrees with them is right
pub right_again : (begin : ℕ) (s : Samples) (w : Watch) (before after : Line)
    (sums : CountedDays) → IsRight begin s w before → AreSums s w.measure sums →
    SameAlert before after → Agrees after sums → IsRight begin s w after
right_again begin s w before after sums is are alert agrees =
    let still : IsOf begin w after = record {
      rule = alert.rule ∙ is.rule;
      target = alert.target ∙ is.target;
      origin = alert.origin ∙ is.origin;
    } in
    let same = conditions begin s w after sums still are in
    record {
      rule = still.rule;
      target = still.target;
      origin = still.origin;
      each = λ minute holds e. agrees.each minute holds e ∙ (λ i. same i minute);
    }

-- the state of the line's alert is the one of the alert that is watched
pub seen_state : (begin : ℕ) (s : Samples) (w : Watch) (line : Line) (sums : CountedDays)
    (minute : ℕ) → IsRight begin s w line → AreSums s w.measure sums →
    state_of (active_on line sums minute) (den_before line sums minute)
    ≡ state_at begin s w minute
seen_state begin s w line sums minute is are =
    let same = conditions begin s w line sums (of_right begin s w line is) are in
    λ i. state_of
    (is_active (wait_of (is.rule i)) (same i) minute)
    (sum_of_slices (width_of (are.method i)) (λ slice. are.leaves slice i)
    (minute - lookback_of (is.rule i)) minute).den

-- and so is when it is active
pub seen_active : (begin : ℕ) (s : Samples) (w : Watch) (line : Line) (sums : CountedDays) →
    IsRight begin s w line → AreSums s w.measure sums →
    active_on line sums ≡ is_watch_active begin s w
seen_active begin s w line sums is are =
    let same = conditions begin s w line sums (of_right begin s w line is) are in
    λ i minute. is_active (wait_of (is.rule i)) (same i) minute

-- LINES

-- the line of an alert, at its place
pub right_at : (begin : ℕ) (s : Samples) (w : Watch) (kept : List WatchLine) (place : ℕ)
    (d : WatchLine) → AreRight begin s kept → slice_get (watches_of kept) place ≡ Some w →
    IsRight begin s w (slice_index_or kept place d).line
right_at begin s w [] place d right e = cc e
right_at begin s w (k ∷ kept) zero d right e =
    let same : k.watch ≡ w = cc e in
    subst (λ (v : Watch). IsRight begin s v k.line) same right.0
right_at begin s w (k ∷ kept) (suc place) d right e =
    right_at begin s w kept place d right.1 e

pub within : (w : Watch) (kept : List WatchLine) (place : ℕ) →
    slice_get (watches_of kept) place ≡ Some w → place < length kept
within w [] place e = cc e
within w (k ∷ kept) zero e = omega arith
within w (k ∷ kept) (suc place) e = let less = within w kept place e in omega (arith, less)

pub watch_at : (w : Watch) (kept : List WatchLine) (place : ℕ) (d : WatchLine) →
    slice_get (watches_of kept) place ≡ Some w → (slice_index_or kept place d).watch ≡ w
watch_at w [] place d e = cc e
watch_at w (k ∷ kept) zero d e = cc e
watch_at w (k ∷ kept) (suc place) d e = watch_at w kept place d e

-- a line that changes leaves what the alerts are
pub watches_set : (w : Watch) (kept : List WatchLine) (place : ℕ) (k : WatchLine) →
    slice_get (watches_of kept) place ≡ Some w → k.watch ≡ w →
    watches_of (slice_set kept place k) ≡ watches_of kept
watches_set w kept place k e is =
    keys_set (λ (k : WatchLine). k.watch) place kept k k (is ∙ sym (watch_at w kept place k e))

-- and the lines are kept as well, where it is right, and remembers what watches its alert
pub keeps_on : (begin : ℕ) (members : List Object) (s : Samples) (kept : List WatchLine)
    (place : ℕ) (w : Watch) (k : WatchLine) → KeepsLines begin members s kept →
    slice_get (watches_of kept) place ≡ Some w → IsWatched members w → k.watch ≡ w →
    IsRight begin s w k.line → IsBound members k →
    KeepsLines begin members s (slice_set kept place k)
keeps_on begin members s kept place w k keeps e watched is right bound = record {
  right = all_set (λ (k : WatchLine). IsRight begin s k.watch k.line) place kept k keeps.right
      (subst (λ (v : Watch). IsRight begin s v k.line) (sym is) right);
  only = all_set (λ (k : WatchLine). IsWatched members k.watch) place kept k keeps.only
      (subst (IsWatched members) (sym is) watched);
  all = λ v has. subst (λ (vs : List Watch). Contains vs v)
      (sym (watches_set w kept place k e is)) (keeps.all v has);
  bound = all_set (IsBound members) place kept k keeps.bound bound;
}

-- what a line watches that remembers a binding is what the binding watches
pub bound_there : (members : List Object) (kept : List WatchLine) (place : ℕ) (b : Binding) →
    AreBound members kept → slice_get (bounds_of kept) place ≡ Some (Some b) →
    (w : Watch) × (slice_get (watches_of kept) place ≡ Some w) × (watch_of members b ≡ Some w)
bound_there members [] place b all e = cc e
bound_there members (k ∷ kept) zero b all e =
    let same : k.bound ≡ Some b = cc e in (
      k.watch,
      refl,
      subst (λ (o : Option Binding). IfSome o (λ (b : Binding). watch_of members b ≡ Some k.watch))
          same all.0,
    )
bound_there members (k ∷ kept) (suc place) b all e =
    bound_there members kept place b all.1 e

-- one alert stands at a place
pub one_there : (kept : List WatchLine) (place : ℕ) (v w : Watch) →
    slice_get (watches_of kept) place ≡ Some v → slice_get (watches_of kept) place ≡ Some w →
    v ≡ w
one_there kept place v w a b = let same : Some v ≡ Some w = sym a ∙ b in cc same

-- the alert at a place is watched
pub watched_there : (members : List Object) (kept : List WatchLine) (place : ℕ) (w : Watch) →
    AreWatched members kept → slice_get (watches_of kept) place ≡ Some w → IsWatched members w
watched_there members [] place w all e = cc e
watched_there members (k ∷ kept) zero w all e =
    let same : k.watch ≡ w = cc e in subst (IsWatched members) same all.0
watched_there members (k ∷ kept) (suc place) w all e = watched_there members kept place w all.1 e

item_there : (kept items : List WatchLine) (place : ℕ) (k : WatchLine) → items ≡ kept →
    k ≡ slice_index_or items place k → k ≡ slice_index_or kept place k
item_there kept items place k same at =
    at ∙ ap (λ (ks : List WatchLine). slice_index_or ks place k) same

-- what is found at the place of an alert is its line
pub found : (begin : ℕ) (s : Samples) (w : Watch) (kept items : List WatchLine) (place : ℕ)
    (k : WatchLine) → items ≡ kept → AreRight begin s kept →
    slice_get (watches_of kept) place ≡ Some w → k ≡ slice_index_or items place k →
    IsRight begin s w k.line × (k.watch ≡ w)
found begin s w kept items place k same right e at =
    let here = item_there kept items place k same at in (
      subst (λ (x : WatchLine). IsRight begin s w x.line) (sym here)
          (right_at begin s w kept place k right e),
      ap (λ (x : WatchLine). x.watch) here ∙ watch_at w kept place k e,
    )

pub is_minute : (begin minute : ℕ) (line : Line) → line.origin ≡ begin → begin ≤ minute →
    minute < begin + RANGE_MINUTES → IsMinute line minute
is_minute begin minute line is a b =
    subst (λ origin. (origin ≤ minute) × (minute < origin + RANGE_MINUTES)) (sym is) (a, b)

-- the lines are kept once the one that was found there has learnt something
pub keeps_there : (begin : ℕ) (members : List Object) (s : Samples) (w : Watch)
    (kept items : List WatchLine) (place : ℕ) (k : WatchLine) (after : Line) → items ≡ kept →
    KeepsLines begin members s kept → slice_get (watches_of kept) place ≡ Some w →
    k ≡ slice_index_or items place k → IsWatched members w → k.watch ≡ w →
    IsRight begin s w after →
    KeepsLines begin members s (slice_set items place (with_line k after))
keeps_there begin members s w kept items place k after same keeps e at watched is right =
    subst (λ (ks : List WatchLine). KeepsLines begin members s
    (slice_set ks place (with_line k after))) (sym same)
    (keeps_on begin members s kept place w (with_line k after) keeps e watched is right
    (subst (IsBound members) (sym (item_there kept items place k same at))
    (all_get (IsBound members) place kept k (within w kept place e) keeps.bound)))

-- so they are once it remembers a binding that watches its alert
pub keeps_bound : (begin : ℕ) (members : List Object) (s : Samples) (w : Watch)
    (kept items : List WatchLine) (place : ℕ) (k : WatchLine) (b : Binding) → items ≡ kept →
    k ≡ slice_index_or items place k → KeepsLines begin members s kept →
    slice_get (watches_of kept) place ≡ Some w → watch_of members b ≡ Some w →
    KeepsLines begin members s (slice_set items place (with_bound k b))
keeps_bound begin members s w kept items place k b same at keeps e watches =
    let here = found begin s w kept items place k same keeps.right e at in
    subst (λ (ks : List WatchLine). KeepsLines begin members s
    (slice_set ks place (with_bound k b)))
    (sym same)
    (keeps_on begin members s kept place w (with_bound k b) keeps e
    (watched_there members kept place w keeps.only e) here.1 here.0
    (watches ∙ ap (λ (v : Watch). Some v) (sym here.1)))

pub watches_there : (w : Watch) (kept items : List WatchLine) (place : ℕ) (k : WatchLine)
    (after : Line) → items ≡ kept → slice_get (watches_of kept) place ≡ Some w → k.watch ≡ w →
    watches_of (slice_set items place (with_line k after)) ≡ watches_of kept
watches_there w kept items place k after same e is =
    ap (λ (ks : List WatchLine). watches_of (slice_set ks place (with_line k after))) same
    ∙ watches_set w kept place (with_line k after) e is

pub place_within : (w : Watch) (kept items : List WatchLine) (place : ℕ) → items ≡ kept →
    slice_get (watches_of kept) place ≡ Some w → place < length items
place_within w kept items place same e =
    subst (λ (ks : List WatchLine). place < length ks) (sym same) (within w kept place e)

-- an alert that none of the lines is of has no line
pub never_without : (w : Watch) (kept : List WatchLine) → Contains (watches_of kept) w →
    AllByRecursion (λ (k : WatchLine). (k.watch ≡ w → ⊥)) kept → ⊥
never_without w kept has others = never_there (λ (k : WatchLine). k.watch) kept w others has

-- what is found of an alert's line tells whether there is one
pub line_there : (w : Watch) (kept : List WatchLine) (place : Option ℕ) →
    IfSome place (λ p. slice_get (watches_of kept) p ≡ Some w) →
    (place ≡ None → AllByRecursion (λ (k : WatchLine). (k.watch ≡ w → ⊥)) kept) →
    (found : Bool) → found ≡ is_some place → Decides found (Contains (watches_of kept) w)
line_there w kept None at others found e = (
  λ yes. let never : true ≡ false = sym yes ∙ e in cc never,
  λ has. absurd (never_without w kept has (others refl)),
)
line_there w kept (Some p) at others found e = (
  λ yes. (
    p,
    slice_get_within (watches_of kept) p w at,
    get_or_from_slice_get (watches_of kept) p w w at,
  ),
  λ has. e,
)

-- CATALOGS

watched_measure : (m : Measure) (w : Watch) (r : AlertRule) →
    Some (record { measure = m; rule = r }) ≡ Some w → m ≡ w.measure
watched_measure m w r e =
    ap (λ (o : Option Watch). unwrap_or (option_map (λ (v : Watch). v.measure) o) m) e

-- what is watched is of an objective of the catalog
pub objective_watched : (members : List Object) (w : Watch) → IsWatched members w →
    IsObjective members w.measure
objective_watched members w is =
    by (measure_at members is.binding.slo is.binding.objective)
    (rule_named members is.binding.policy) refl is.watches
  where
    by : (m : Option Measure) (r : Option AlertRule) →
        measure_at members is.binding.slo is.binding.objective ≡ m → watch_with m r ≡ Some w →
        IsObjective members w.measure
    by None r at e = cc e
    by (Some m) None at e = cc e
    by (Some m) (Some r) at e =
        subst (IsObjective members) (watched_measure m w r e)
        (objective_at members is.binding.slo is.binding.objective m at)
