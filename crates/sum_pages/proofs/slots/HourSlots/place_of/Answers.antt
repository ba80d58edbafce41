use Rattle.std.proofs.Common.{◌≡◌, ◌≤◌, ◌*◌, ◌/◌, ◌%◌, arith, ap, ◌∙◌}
use Rattle.sum_pages.proofs.SlotLemmas.{day-minutes, slot-behind, slot-day, slot-place}
use Rattle.sum_pages.proofs.slots.HourSlots.place_of.Goals as goal
use Rattle.sum_pages.proofs.slots.HourSlots.place_of.Goals.{After-from-3}

-- the day that is computed is the slot's
day : (c : After-from-3) → c.from.result * c.from-2.result / c.from-3.result
    ≡ c.args.slot / (24 * c.self.inside.count)
day c = ap (λ n. n * c.from-2.result / c.from-3.result) c.from.ensures
    ∙ ap (λ n. c.args.slot * n / c.from-3.result) c.from-2.ensures
    ∙ ap (λ n. c.args.slot * c.self.inside.minutes / n) c.from-3.ensures
    ∙ slot-day c.args.slot (24 * c.self.inside.count) c.self.inside.minutes
    (day-minutes c.self.inside.count c.self.inside.minutes c.self.invariant)

-- it begins at the slot or before it
behind : (c : After-from-3) → c.from.result * c.from-2.result / c.from-3.result
    * (24 * c.self.inside.count) ≤ c.args.slot
behind c = slot-behind c.args.slot (24 * c.self.inside.count) _ (day c)

pub overflow_mul-result-2 : goal.overflow_mul-result-2
overflow_mul-result-2 c = omega (arith, behind c, c.ranges.slot.fits)

pub overflow_sub-result : goal.overflow_sub-result
overflow_sub-result c = behind c

pub returns-clause-day : goal.returns-clause-day
returns-clause-day c = day c ∙ ap (λ n. c.args.slot / (24 * n)) c.self.view_is

pub returns-clause-place : goal.returns-clause-place
returns-clause-place c = slot-place c.args.slot (24 * c.self.inside.count) _ (day c)
    ∙ ap (λ n. c.args.slot % (24 * n)) c.self.view_is
