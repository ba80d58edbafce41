use Rattle.std.proofs.Common.{◌≡◌, ◌≤◌, ◌/◌, ap, sym, subst, ◌∙◌, IsTrue}
use Rattle.slice_method.specs.declared.amount.Counts.{Counts}
use Rattle.slice_method.specs.Leaves.{leaf}
use Rattle.slo_terms.specs.Sums.{AreFew, most_events}
use Rattle.sum_pages.specs.Pages as paged
use Rattle.window_sums.specs.Slices.{CountedDays, DaysAreKept, MayExchange, counted_days}
use Rattle.window_sums.specs.Slices.{counts_after, counts_of, days_with, has_day, new_counts}
use Rattle.window_sums.specs.Slices.{slice_of, slices_a_day}
use Rattle.window_sums.proofs.DaysFacts.{AreChanged, changed, day-beside, days_after}
use Rattle.window_sums.proofs.DaysFacts.{within-beside}
use Rattle.window_sums.proofs.KeptFacts.{IsChange, day-there, may_exchange, page-there, pages-few}
use Rattle.window_sums.proofs.window_sums.WindowSums.change.Goals as goal
use Rattle.window_sums.proofs.window_sums.WindowSums.change.Goals.{After-counts_at}
use Rattle.window_sums.proofs.window_sums.WindowSums.change.Goals.{After-exchanged-counts}
use Rattle.window_sums.proofs.window_sums.WindowSums.change.Goals.{After-set}

-- the sums as they were
abbrev before : After-counts_at → CountedDays
before c = counted_days c.self.inside.method c.self.inside.days.entries c.self.inside.pages

-- may be changed so
change : (c : After-counts_at) → IsChange (before c) c.args.minute c.args.before c.args.after
change c = subst (λ s. IsChange s c.args.minute c.args.before c.args.after) (sym c.self.view_is)
    (record {
      day = c.requires.day;
      good = c.requires.good;
      total = c.requires.total;
      part = c.requires.part;
      events = c.requires.events;
      leaves = c.requires.leaves;
    })

-- and have the day of the slice
there : (c : After-counts_at) → IsTrue
    (has_day (before c) (slice_of (before c).method c.args.minute / slices_a_day (before c).method))
there c = day-there (before c) c.args.minute c.args.before c.args.after
    c.self.invariant.counts.counted (change c)

-- what stood in the slice
was : (c : After-counts_at)
    → c.counts_at.result ≡ counts_of (before c) (slice_of (before c).method c.args.minute)
was c = c.counts_at.ensures
    ∙ ap (λ w. counts_of c.args.self.now (c.args.minute / w)) c.width_of.ensures.value
    ∙ ap (λ s. counts_of s (slice_of c.self.inside.method c.args.minute)) (sym c.self.view_is)

-- what stands there then
counts : (c : After-exchanged-counts) → c.counts_at.result
    ≡ counts_of (counted_days c.self.inside.method c.self.inside.days.entries c.self.inside.pages)
    (slice_of c.self.inside.method c.args.minute) →
    c.exchanged-counts.result ≡ new_counts
    (counts_of (counted_days c.self.inside.method c.self.inside.days.entries c.self.inside.pages)
    (slice_of c.self.inside.method c.args.minute)) c.args.before c.args.after
counts c was = c.exchanged-counts.ensures
    ∙ ap (λ (n : Counts). new_counts n c.args.before c.args.after) was

-- and the days beside the pages
days : (c : After-set) → c.exchanged-counts.result ≡ new_counts
    (counts_of (counted_days c.self.inside.method c.self.inside.days.entries c.self.inside.pages)
    (slice_of c.self.inside.method c.args.minute)) c.args.before c.args.after →
    c.put_in.new.days.entries ≡ days_after c.self.inside.method c.self.inside.days.entries
    c.self.inside.pages c.args.minute c.args.before c.args.after
days c counts = c.put_in.ensures
    ∙ ap (λ w. days_with c.self.inside.method c.self.inside.days.entries (c.args.minute / w)
    c.exchanged-counts.result) c.width_of.ensures.value
    ∙ ap (λ (n : Counts). days_with c.self.inside.method c.self.inside.days.entries
    (slice_of c.self.inside.method c.args.minute) n) counts

-- so the sums are changed
after : (c : After-set) → c.exchanged-counts.result ≡ new_counts
    (counts_of (counted_days c.self.inside.method c.self.inside.days.entries c.self.inside.pages)
    (slice_of c.self.inside.method c.args.minute)) c.args.before c.args.after →
    IsChange (counted_days c.self.inside.method c.self.inside.days.entries c.self.inside.pages)
    c.args.minute c.args.before c.args.after →
    AreChanged c.self.inside.method c.self.inside.days.entries c.self.inside.pages c.set.new.self
    c.args.minute c.args.before c.args.after
after c counts asked =
    changed c.self.inside.method c.self.inside.days.entries c.self.inside.pages c.set.new.self
    c.args.minute c.args.before c.args.after c.self.invariant asked (record {
      hours = c.set.ensures.per_hour;
      leaves = λ k. c.set.ensures.leaves k
          ∙ ap (λ w. paged.leaf_after c.self.inside.pages (c.args.minute / w) c.leaf_of.result k)
          c.width_of.ensures.value
          ∙ ap (λ l. paged.leaf_after c.self.inside.pages
          (slice_of c.self.inside.method c.args.minute) l k)
          (c.leaf_of.ensures.leaf ∙ ap (λ x. leaf c.self.inside.method x) counts);
      days = c.set.ensures.days;
    })

pub exchanged-counts-requires : goal.exchanged-counts-requires
exchanged-counts-requires c =
    let at = (goal.at.exchanged-counts-requires c).After-counts_at in
    subst (λ (n : Counts). MayExchange n c.args.before c.args.after) (sym (was at))
    (may_exchange (before at) c.args.minute c.args.before c.args.after (change at))

pub put_in-requires-clause-there : goal.put_in-requires-clause-there
put_in-requires-clause-there c = λ other.
    let at = (goal.at.put_in-requires-clause-there c).After-counts_at in
    rw c.width_of.ensures.value (day-beside c.self.inside.method c.self.inside.days.entries
    c.self.inside.pages other (slice_of c.self.inside.method c.args.minute) (there at))

pub put_in-requires-clause-within : goal.put_in-requires-clause-within
put_in-requires-clause-within c = λ other.
    let at = (goal.at.put_in-requires-clause-within c).After-counts_at in
    let slice = slice_of c.self.inside.method c.args.minute in
    rw c.width_of.ensures.value (within-beside c.self.inside.method c.self.inside.days.entries
    c.self.inside.pages c.self.invariant other slice (day-beside c.self.inside.method
    c.self.inside.days.entries c.self.inside.pages other slice (there at)))

pub leaf_of-requires-clause-part : goal.leaf_of-requires-clause-part
leaf_of-requires-clause-part c =
    let at = goal.at.leaf_of-requires-clause-part c in
    let old = at.After-counts_at in
    subst (λ (x : Counts). x.good ≤ x.total)
    (sym (counts at.After-exchanged-counts (was old)))
    (may_exchange (before old) c.args.minute c.args.before c.args.after (change old)).part

pub leaf_of-requires-clause-few : goal.leaf_of-requires-clause-few
leaf_of-requires-clause-few c =
    let at = goal.at.leaf_of-requires-clause-few c in
    let old = at.After-counts_at in
    subst (λ (x : Counts). x.total ≤ most_events)
    (sym (counts at.After-exchanged-counts (was old)))
    (may_exchange (before old) c.args.minute c.args.before c.args.after (change old)).few

pub set-requires-clause-day : goal.set-requires-clause-day
set-requires-clause-day c =
    let old = (goal.at.set-requires-clause-day c).After-counts_at in
    rw c.width_of.ensures.value
    (page-there (before old) c.self.inside.pages (slice_of (before old).method c.args.minute)
    c.self.invariant.counts (there old))

pub set-requires-clause-few : goal.set-requires-clause-few
set-requires-clause-few c =
    let at = goal.at.set-requires-clause-few c in
    let old = at.After-counts_at in
    let leaf_is = c.leaf_of.ensures.leaf
    ∙ ap (λ x. leaf (before old).method x) (counts at.After-exchanged-counts (was old)) in
    subst (λ w. AreFew (λ k. (paged.leaf_after c.self.inside.pages (c.args.minute / w)
    c.leaf_of.result k).den)) (sym c.width_of.ensures.value)
    (subst (λ l. AreFew (λ k. (paged.leaf_after c.self.inside.pages
    (slice_of (before old).method c.args.minute) l k).den)) (sym leaf_is)
    (pages-few (before old) c.self.inside.pages c.args.minute c.args.before c.args.after
    c.self.invariant.counts (change old).leaves))

pub invariant_of-self : goal.invariant_of-self
invariant_of-self c =
    let at = goal.at.invariant_of-self c in
    let old = at.After-counts_at in
    let now = counts at.After-exchanged-counts (was old) in
    subst (λ es. DaysAreKept c.self.inside.method es c.set.new.self)
    (sym (days at.After-set now)) (after at.After-set now (change old)).kept

pub returns-clause-counts : goal.returns-clause-counts
returns-clause-counts c = λ k.
    let at = goal.at.returns-clause-counts c in
    let old = at.After-counts_at in
    let now = counts at.After-exchanged-counts (was old) in
    ap (λ es. counts_of (counted_days c.self.inside.method es c.set.new.self) k)
    (days at.After-set now)
    ∙ (after at.After-set now (change old)).counts k
    ∙ ap (λ s. counts_after s c.args.minute c.args.before c.args.after k) c.self.view_is

pub returns-clause-days : goal.returns-clause-days
returns-clause-days c = λ day.
    let at = goal.at.returns-clause-days c in
    let old = at.After-counts_at in
    let now = counts at.After-exchanged-counts (was old) in
    ap (λ es. has_day (counted_days c.self.inside.method es c.set.new.self) day)
    (days at.After-set now)
    ∙ (after at.After-set now (change old)).there day
    ∙ ap (λ s. has_day s day) c.self.view_is
