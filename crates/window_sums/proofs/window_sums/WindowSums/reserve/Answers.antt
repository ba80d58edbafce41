use Rattle.std.proofs.Common.{◌≡◌, ◌∷◌, [], ◌++◌, None, ap, sym, subst, ◌∙◌, ◌==◌, ◌||◌, nat_eq}
use Rattle.std.proofs.Common.{replicate, false}
use Rattle.std.specs.Map.{lookup}
use Rattle.indexmap.proofs.CallerLemmas.{insert_entry-new}
use Rattle.sum_pages.proofs.DayLemmas.{nothing_found}
use Rattle.window_sums.specs.Slices.{DaysAreKept, counts_events, counts_of, day_of, has_day}
use Rattle.window_sums.specs.Slices.{no_counts}
use Rattle.window_sums.proofs.DaysFacts.{AreReady, beside, ready-beside, ready-in}
use Rattle.window_sums.proofs.window_sums.WindowSums.reserve.Goals as goal
use Rattle.window_sums.proofs.window_sums.WindowSums.reserve.Goals.{Then-counts_events}

-- where events are counted, the day of the pages is enough
ready : (c : Then-counts_events) → AreReady c.self.inside.method c.self.inside.days.entries
    c.self.inside.days.entries c.self.inside.pages c.reserve_day.new.self (day_of c.args.minute)
ready c =
    ready-in c.self.inside.method c.self.inside.days.entries c.self.inside.pages
    c.reserve_day.new.self (day_of c.args.minute) c.self.invariant (record {
      hours = c.reserve_day.ensures.per_hour;
      leaves = c.reserve_day.ensures.leaves;
      days = c.in_ok-reserve_day.ensures.days;
    }) (sym c.counts_events.ensures ∙ c.if-counts_events.true)

pub invariant_of-self-then-counts_events : goal.invariant_of-self-then-counts_events
invariant_of-self-then-counts_events c =
    (ready (goal.at.invariant_of-self-then-counts_events c).Then-counts_events).kept

pub returns-then-counts_events-clause-counts : goal.returns-then-counts_events-clause-counts
returns-then-counts_events-clause-counts c = λ slice.
    (ready (goal.at.returns-then-counts_events-clause-counts c).Then-counts_events).counts slice
    ∙ ap (λ s. counts_of s slice) c.self.view_is

pub returns-then-counts_events-clause-days : goal.returns-then-counts_events-clause-days
returns-then-counts_events-clause-days c = λ other.
    (ready (goal.at.returns-then-counts_events-clause-days c).Then-counts_events).there other
    ∙ ap (λ s. has_day s other || other == day_of c.args.minute) c.self.view_is

pub invariant_of-self-2 : goal.invariant_of-self-2
invariant_of-self-2 c =
    let method = c.self.inside.method in
    let days = c.self.inside.days.entries in
    let pages = c.self.inside.pages in
    let day = day_of c.args.minute in
    let other : counts_events method ≡ false = sym c.counts_events.ensures
    ∙ c.if-counts_events.false in
    let absent : lookup (nat_eq day) days ≡ None = nothing_found (lookup (nat_eq day) days)
    (ap (λ s. has_day s day) (beside method days pages other) ∙ ap (λ s. has_day s day)
    c.self.view_is ∙ sym c.has_day.ensures ∙ c.if-has_day.false) in
    let slices = c.in_ok-slices.ensures
    ∙ ap (λ n. replicate n no_counts) c.slices_a_day.ensures.value in
    let added = c.in_ok-insert.ensures.entries
    ∙ insert_entry-new nat_eq c.self.inside.days day c.in_ok-slices.slices absent
    ∙ ap (λ s. days ++ (day, s) ∷ []) slices in
    subst (λ es. DaysAreKept method es c.reserve_day.new.self) (sym added)
    (ready-beside method days pages c.reserve_day.new.self day c.self.invariant (record {
      hours = c.reserve_day.ensures.per_hour;
      leaves = c.reserve_day.ensures.leaves;
      days = c.in_ok-reserve_day.ensures.days;
    }) other).kept
