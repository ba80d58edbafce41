use Rattle.std.proofs.Common.{◌-◌, ◌*◌, ap, sym, ◌∙◌, arith}
use Rattle.slo_terms.specs.Sums.{leaves_over}
use Rattle.sum_pages.specs.Pages.{leaf_at}
use Rattle.window_sums.specs.Ranges.{plus, slots_of}
use Rattle.window_sums.proofs.RangeFacts.{units-few, units-next, units-none}
use Rattle.window_sums.proofs.range.sum_units.Goals as goal

pub loop-at-init : goal.loop-at-init
loop-at-init g c = record {
  sum = units-none (leaf_at c.args.pages.now) c.args.from
      (slots_of c.args.unit c.args.pages.now.per_hour);
  within = omega arith;
  steps = omega arith;
}

pub plus-sum-requires-clause-part : goal.plus-sum-requires-clause-part
plus-sum-requires-clause-part g c =
    rw (c.loop-at.invariant.sum, c.read.ensures.value)
    (units-few (leaf_at c.args.pages.now) c.sound.ensures c.args.from c.loop-at.at
    (slots_of c.args.unit c.args.pages.now.per_hour) c.loop-at.auto.at).0

pub plus-sum-requires-clause-few : goal.plus-sum-requires-clause-few
plus-sum-requires-clause-few g c =
    rw (c.loop-at.invariant.sum, c.read.ensures.value)
    (units-few (leaf_at c.args.pages.now) c.sound.ensures c.args.from c.loop-at.at
    (slots_of c.args.unit c.args.pages.now.per_hour) c.loop-at.auto.at).1

pub loop-at-preserved : goal.loop-at-preserved
loop-at-preserved g c =
    let leaf = leaf_at c.args.pages.now in
    let slots = slots_of c.args.unit c.args.pages.now.per_hour in
    record {
      sum = c.plus-sum.ensures
          ∙ ap (λ s. plus s c.read.result) c.loop-at.invariant.sum
          ∙ ap (λ r. plus (leaves_over leaf (c.args.from * slots)
          ((c.loop-at.at - c.args.from) * slots)) r) c.read.ensures.value
          ∙ sym (units-next leaf c.args.from c.loop-at.at slots c.loop-at.auto.at);
      within = omega arith;
      steps = omega (arith, c.loop-at.invariant.steps, c.read.ensures.cost);
    }
