use Rattle.std.proofs.Common.{◌-◌, ◌*◌, ◌/◌, ap, sym, ◌∙◌, arith}
use Rattle.slo_terms.specs.Sums.{leaves_over}
use Rattle.sum_pages.specs.Pages.{leaf_at}
use Rattle.window_sums.proofs.RangeFacts.{AreParts, IsCut, cut-steps, is_cut-some, parts-few}
use Rattle.window_sums.proofs.RangeFacts.{parts-sum, reads-few, slot-parts}
use Rattle.window_sums.proofs.range.sum_slots.Given.{Over}
use Rattle.window_sums.proofs.range.sum_slots.Goals as goal
use Rattle.window_sums.proofs.range.sum_slots.Goals.{After-sound}

-- the range is cut at whole hours
cut : (g : Over) (c : After-sound g) → IsCut c.args.from c.args.to c.per_hour-per_hour.result
    c.div_ceil-first.result (c.args.to / c.per_hour-per_hour.result)
cut g c = is_cut-some c.args.from c.args.to c.per_hour-per_hour.result c.div_ceil-first.result
    c.per_hour-per_hour.ensures.some c.div_ceil-first.ensures c.if-end-first.false

-- its three sums, side by side
parts : (g : Over) (c : After-sound g) → AreParts (leaf_at c.args.pages.now) c.args.from
    (c.div_ceil-first.result * c.per_hour-per_hour.result)
    (c.args.to / c.per_hour-per_hour.result * c.per_hour-per_hour.result) c.args.to
    c.read_leaves-before.result c.sum_hours-hours.result c.read_leaves-after.result
parts g c =
    let leaf = leaf_at c.args.pages.now in
    let count = c.per_hour-per_hour.result in
    let first = c.div_ceil-first.result in
    let end = c.args.to / count in
    slot-parts leaf c.args.from c.args.to first end count c.read_leaves-before.result
    c.sum_hours-hours.result c.read_leaves-after.result (cut g c) c.read_leaves-before.ensures.value
    (c.sum_hours-hours.ensures.value ∙ ap (λ n. leaves_over leaf (first * n) ((end - first) * n))
    (sym c.per_hour-per_hour.ensures.value)) c.read_leaves-after.ensures.value

pub joined-requires-clause-part : goal.joined-requires-clause-part
joined-requires-clause-part g c =
    (parts-few (parts g (goal.at.joined-requires-clause-part g c).After-sound) c.sound.ensures).0

pub joined-requires-clause-few : goal.joined-requires-clause-few
joined-requires-clause-few g c =
    (parts-few (parts g (goal.at.joined-requires-clause-few g c).After-sound) c.sound.ensures).1

pub returns-clause-value : goal.returns-clause-value
returns-clause-value g c =
    c.joined.ensures ∙ parts-sum (parts g (goal.at.returns-clause-value g c).After-sound)

pub returns-clause-short : goal.returns-clause-short
returns-clause-short g c =
    omega (
      arith,
      cut-steps c.args.from c.args.to c.per_hour-per_hour.result c.div_ceil-first.result
          (c.args.to / c.per_hour-per_hour.result)
          (cut g (goal.at.returns-clause-short g c).After-sound),
      c.read_leaves-before.ensures.cost,
      c.sum_hours-hours.ensures.short,
      c.read_leaves-after.ensures.cost,
    )

pub returns-clause-bounded : goal.returns-clause-bounded
returns-clause-bounded g c = λ few.
    omega (
      arith,
      reads-few c.args.from c.args.to c.per_hour-per_hour.result c.args.pages.now.per_hour
          c.div_ceil-first.result (c.args.to / c.per_hour-per_hour.result)
          (cut g (goal.at.returns-clause-bounded g c).After-sound) c.per_hour-per_hour.ensures.value
          c.per_hour-per_hour.ensures.few few,
      c.read_leaves-before.ensures.cost,
      c.sum_hours-hours.ensures.bounded,
      c.read_leaves-after.ensures.cost,
    )
