use Rattle.std.proofs.Common.{◌≡◌, ◌≤◌, ◌<◌, ◌/◌, ◌%◌, ap, sym, subst, ◌∙◌, nat_eq, is_some, IsTrue}
use Rattle.std.proofs.Common.{◌*◌, length, slice_set}
use Rattle.std.specs.Map.{lookup}
use Rattle.slo_terms.specs.Sums.{AreFew, leaves_over, most_events}
use Rattle.sum_pages.specs.DayTables.{values_of_day}
use Rattle.sum_pages.specs.Pages.{ArePages, LeafDays, has_day, leaf_after, leaf_at, leaf_in}
use Rattle.sum_pages.specs.Pages.{no_leaf, slots_a_day}
use Rattle.sum_pages.proofs.DayLemmas.{days-changed}
use Rattle.sum_pages.proofs.PagesFacts.{ArePages-after, day-few, day_whole, days_by}
use Rattle.sum_pages.proofs.PagesFacts.{leaf_at-after, slot-within}
use Rattle.sum_pages.proofs.sum_pages.SumPages.set.Goals as goal
use Rattle.sum_pages.proofs.sum_pages.SumPages.set.Goals.{After-slots_a_day-slots}

-- the pages as they were
abbrev before : After-slots_a_day-slots → LeafDays
before c = record { per_hour = c.self.inside.per_hour; days = c.self.inside.pages.entries }

-- have the day of the slot
there : (c : After-slots_a_day-slots)
    → IsTrue (has_day (before c) (c.args.slot / slots_a_day (before c)))
there c = subst (λ (p : LeafDays). IsTrue (has_day p (c.args.slot / slots_a_day p)))
    (sym c.self.view_is) c.requires.day

-- are few with the new leaf
few : (c : After-slots_a_day-slots)
    → AreFew (λ k. (leaf_after (before c) c.args.slot c.args.value k).den)
few c = subst (λ (p : LeafDays). AreFew (λ k. (leaf_after p c.args.slot c.args.value k).den))
    (sym c.self.view_is) c.requires.few

-- and have so many slots a day
slots : (c : After-slots_a_day-slots) → c.slots_a_day-slots.result ≡ slots_a_day (before c)
slots c = c.slots_a_day-slots.ensures.value ∙ ap slots_a_day (sym c.self.view_is)

pub set_in-requires-clause-within : goal.set_in-requires-clause-within
set_in-requires-clause-within c =
    let at = (goal.at.set_in-requires-clause-within c).After-slots_a_day-slots in
    subst (λ n. c.args.slot % n < length (values_of_day (before at).days (c.args.slot / n)))
    (sym (slots at)) (slot-within (before at) c.args.slot c.args.value c.self.invariant (there at))

pub set_in-requires-clause-hours : goal.set_in-requires-clause-hours
set_in-requires-clause-hours c =
    let at = (goal.at.set_in-requires-clause-hours c).After-slots_a_day-slots in
    subst (λ n. length (values_of_day (before at).days (c.args.slot / n)) ≡ slots_a_day (before at))
    (sym (slots at))
    (day_whole (before at) (c.args.slot / slots_a_day (before at)) c.self.invariant (there at))
    ∙ ap (λ n. 24 * n) (sym c.count.ensures)

pub set_in-requires-clause-few : goal.set_in-requires-clause-few
set_in-requires-clause-few c =
    let at = (goal.at.set_in-requires-clause-few c).After-slots_a_day-slots in
    subst (λ n. (leaves_over (leaf_in (slice_set
    (values_of_day (before at).days (c.args.slot / n)) (c.args.slot % n) c.args.value)) 0
    (length (values_of_day (before at).days (c.args.slot / n)))).den ≤ most_events) (sym (slots at))
    (day-few (before at) c.args.slot c.args.value c.self.invariant (there at) (few at))

pub invariant_of-self : goal.invariant_of-self
invariant_of-self c =
    let at = (goal.at.invariant_of-self c).After-slots_a_day-slots in
    let days = c.set_in.ensures
    ∙ ap (λ n. days_by n (before at) c.args.slot c.args.value) (slots at) in
    subst (λ es. ArePages (record { per_hour = (before at).per_hour; days = es })) (sym days)
    (ArePages-after (before at) c.args.slot c.args.value c.self.invariant (there at) c.requires.part
    (few at))

pub returns-clause-leaves : goal.returns-clause-leaves
returns-clause-leaves c = λ k.
    let at = (goal.at.returns-clause-leaves c).After-slots_a_day-slots in
    let days = c.set_in.ensures
    ∙ ap (λ n. days_by n (before at) c.args.slot c.args.value) (slots at) in
    ap (λ es. leaf_at (record { per_hour = (before at).per_hour; days = es }) k) days
    ∙ leaf_at-after (before at) c.args.slot c.args.value c.self.invariant (there at) k
    ∙ ap (λ p. leaf_after p c.args.slot c.args.value k) c.self.view_is

pub returns-clause-days : goal.returns-clause-days
returns-clause-days c = λ q.
    let at = (goal.at.returns-clause-days c).After-slots_a_day-slots in
    let days = c.set_in.ensures
    ∙ ap (λ n. days_by n (before at) c.args.slot c.args.value) (slots at) in
    ap (λ es. is_some (lookup (nat_eq q) es)) days
    ∙ days-changed no_leaf (before at).days (c.args.slot / slots_a_day (before at)) q _ (there at)
    ∙ ap (λ p. has_day p q) c.self.view_is
