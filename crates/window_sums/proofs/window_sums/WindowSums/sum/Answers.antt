use Rattle.std.proofs.Common.{◌≡◌, ◌+◌, ◌-◌, ◌/◌, ◌≤◌, sym, subst, ◌∙◌}
use Rattle.exact_fraction.specs.declared.leaf.Leaf.{Leaf}
use Rattle.slo_terms.specs.Sums.{most_events, slice_from, slices_until, sum_of_slices}
use Rattle.slo_terms.proofs.RangeLemmas.{leaves-part}
use Rattle.window_sums.specs.Slices.{counted_days, leaf_at, width_of}
use Rattle.window_sums.proofs.ReadLemmas.{AreSlots, are_slots}
use Rattle.window_sums.proofs.window_sums.WindowSums.sum.Given.{Over}
use Rattle.window_sums.proofs.window_sums.WindowSums.sum.Goals as goal
use Rattle.window_sums.proofs.window_sums.WindowSums.sum.Goals.{After-sum_slots}

-- the slots that are read
slots : (g : Over) (c : After-sum_slots g) → AreSlots c.args.self.now c.self.inside.pages
    c.args.from c.args.to c.div_ceil.result
    (c.args.to / c.width_of-width.result - c.div_ceil.result)
slots g c =
    are_slots c.args.self.now
    (counted_days c.self.inside.method c.self.inside.days.entries c.self.inside.pages)
    c.self.inside.pages c.args.from c.args.to c.width_of-width.result c.div_ceil.result
    c.self.invariant.counts c.self.view_is c.width_of-width.ensures.value c.div_ceil.ensures

-- and what they add up to
value : (g : Over) (c : After-sum_slots g) → c.sum_slots.result
    ≡ sum_of_slices (width_of c.args.self.now.method) (leaf_at c.args.self.now) c.args.from
    c.args.to
value g c = c.sum_slots.ensures.value ∙ (slots g c).sum

pub returns-clause-value : goal.returns-clause-value
returns-clause-value g c = value g (goal.at.returns-clause-value g c).After-sum_slots

pub returns-clause-part : goal.returns-clause-part
returns-clause-part g c =
    subst (λ (l : Leaf). l.num ≤ l.den)
    (sym (value g (goal.at.returns-clause-part g c).After-sum_slots))
    (leaves-part (leaf_at c.args.self.now) c.sound.ensures
    (slice_from (width_of c.args.self.now.method) c.args.from)
    (slices_until (width_of c.args.self.now.method) c.args.to - slice_from
    (width_of c.args.self.now.method) c.args.from))

pub returns-clause-few : goal.returns-clause-few
returns-clause-few g c =
    subst (λ (l : Leaf). l.den ≤ most_events)
    (sym (value g (goal.at.returns-clause-few g c).After-sum_slots))
    (c.sound.ensures.few (slice_from (width_of c.args.self.now.method) c.args.from)
    (slices_until (width_of c.args.self.now.method) c.args.to - slice_from
    (width_of c.args.self.now.method) c.args.from))

pub returns-clause-bounded : goal.returns-clause-bounded
returns-clause-bounded g c = λ few.
    c.sum_slots.ensures.bounded
    ((slots g (goal.at.returns-clause-bounded g c).After-sum_slots).few 400 few)

pub returns-clause-short : goal.returns-clause-short
returns-clause-short g c =
    subst (λ n. c.sum_slots.new.steps ≤ c.args.steps.now + n)
    (slots g (goal.at.returns-clause-short g c).After-sum_slots).slices c.sum_slots.ensures.short
