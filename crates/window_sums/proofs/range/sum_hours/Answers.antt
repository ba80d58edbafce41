use Rattle.std.proofs.Common.{◌*◌, ◌/◌, sym, ◌∙◌, arith}
use Rattle.sum_pages.specs.Pages.{leaf_at}
use Rattle.window_sums.proofs.RangeFacts.{AreParts, IsCut, cut-range, is_cut}
use Rattle.window_sums.proofs.RangeFacts.{larger-parts, parts-few, parts-sum, units-slots}
use Rattle.window_sums.proofs.range.sum_hours.Given.{Over}
use Rattle.window_sums.proofs.range.sum_hours.Goals as goal
use Rattle.window_sums.proofs.range.sum_hours.Goals.{After-sound}

-- the hours are cut at whole days
cut : (g : Over) (c : After-sound g)
    → IsCut c.args.from c.args.to 24 c.div_ceil-first.result (c.args.to / 24)
cut g c = is_cut c.args.from c.args.to 24 c.div_ceil-first.result (omega arith)
    c.div_ceil-first.ensures c.if-end-first.false

-- their three sums, side by side
parts : (g : Over) (c : After-sound g) → AreParts (leaf_at c.args.pages.now)
    (c.args.from * c.args.pages.now.per_hour)
    (c.div_ceil-first.result * 24 * c.args.pages.now.per_hour)
    (c.args.to / 24 * 24 * c.args.pages.now.per_hour) (c.args.to * c.args.pages.now.per_hour)
    c.sum_units-before.result c.sum_units-days.result c.sum_units-after.result
parts g c =
    larger-parts (leaf_at c.args.pages.now) c.args.from c.args.to c.div_ceil-first.result
    (c.args.to / 24) 24 c.args.pages.now.per_hour c.sum_units-before.result
    c.sum_units-days.result c.sum_units-after.result (cut g c) c.sum_units-before.ensures.value
    c.sum_units-days.ensures.value c.sum_units-after.ensures.value

pub joined-requires-clause-part : goal.joined-requires-clause-part
joined-requires-clause-part g c =
    (parts-few (parts g (goal.at.joined-requires-clause-part g c).After-sound) c.sound.ensures).0

pub joined-requires-clause-few : goal.joined-requires-clause-few
joined-requires-clause-few g c =
    (parts-few (parts g (goal.at.joined-requires-clause-few g c).After-sound) c.sound.ensures).1

pub returns-clause-value : goal.returns-clause-value
returns-clause-value g c =
    let at = (goal.at.returns-clause-value g c).After-sound in
    c.joined.ensures ∙ parts-sum (parts g at)
    ∙ sym (units-slots (leaf_at c.args.pages.now) c.args.from c.args.to c.args.pages.now.per_hour
    (cut-range c.args.from c.args.to 24 c.div_ceil-first.result (c.args.to / 24) (cut g at)))
