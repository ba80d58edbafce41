use Rattle.std.proofs.Common.{◌-◌, ◌/◌, ◌==◌, ap, ◌∙◌}
use Rattle.exact_fraction.specs.declared.leaf.Leaf.{Leaf}
use Rattle.window_sums.specs.Slices.{counted_days}
use Rattle.window_sums.proofs.ReadLemmas.{AreSlots, are_slots}
use Rattle.window_sums.proofs.window_sums.WindowSums.is_empty.Given.{Over}
use Rattle.window_sums.proofs.window_sums.WindowSums.is_empty.Goals as goal
use Rattle.window_sums.proofs.window_sums.WindowSums.is_empty.Goals.{After-is_empty}

-- the slots that are looked at
slots : (g : Over) (c : After-is_empty g) → AreSlots c.args.self.now c.self.inside.pages
    c.args.from c.args.to c.div_ceil.result
    (c.args.to / c.width_of-width.result - c.div_ceil.result)
slots g c =
    are_slots c.args.self.now
    (counted_days c.self.inside.method c.self.inside.days.entries c.self.inside.pages)
    c.self.inside.pages c.args.from c.args.to c.width_of-width.result c.div_ceil.result
    c.self.invariant.counts c.self.view_is c.width_of-width.ensures.value c.div_ceil.ensures

pub returns-clause-value : goal.returns-clause-value
returns-clause-value g c =
    c.is_empty.ensures.value
    ∙ ap (λ (l : Leaf). l.den == 0) (slots g (goal.at.returns-clause-value g c).After-is_empty).sum

pub returns-clause-bounded : goal.returns-clause-bounded
returns-clause-bounded g c = λ few.
    c.is_empty.ensures.bounded
    ((slots g (goal.at.returns-clause-bounded g c).After-is_empty).few 30 few)
