use Rattle.std.proofs.Common.{◌+◌, ◌-◌, ap, sym, ◌∙◌, arith}
use Rattle.exact_fraction.specs.declared.leaf.Leaf.{Leaf}
use Rattle.slo_terms.specs.Sums.{leaves_over}
use Rattle.sum_pages.specs.Pages.{leaf_in}
use Rattle.sum_pages.proofs.PageFacts.{leaves-next, leaves-none}
use Rattle.sum_pages.proofs.page.Page.leaves.Goals as goal

pub loop-at-init : goal.loop-at-init
loop-at-init c = leaves-none (leaf_in c.args.self.now) c.args.from

pub plus-sum-requires-clause-part : goal.plus-sum-requires-clause-part
plus-sum-requires-clause-part c =
    let next = leaves-next (leaf_in c.args.self.now) c.args.from c.loop-at.at c.loop-at.auto.at in
    rw (c.loop-at.invariant, c.leaf.ensures)
    (omega (arith, c.are_few.ensures.part, next.0, next.1))

pub plus-sum-requires-clause-few : goal.plus-sum-requires-clause-few
plus-sum-requires-clause-few c =
    let next = leaves-next (leaf_in c.args.self.now) c.args.from c.loop-at.at c.loop-at.auto.at in
    rw (c.loop-at.invariant, c.leaf.ensures) (omega (arith, c.are_few.ensures.few, next.1))

pub loop-at-preserved : goal.loop-at-preserved
loop-at-preserved c =
    let next = leaves-next (leaf_in c.args.self.now) c.args.from c.loop-at.at c.loop-at.auto.at in
    λ i. record {
      num = (c.plus-sum.ensures.num
          ∙ ap (λ (l : Leaf). l.num + c.leaf.result.num) c.loop-at.invariant
          ∙ ap (λ (l : Leaf). (leaves_over (leaf_in c.args.self.now) c.args.from
          (c.loop-at.at - c.args.from)).num + l.num) c.leaf.ensures ∙ sym next.0) i;
      den = (c.plus-sum.ensures.den
          ∙ ap (λ (l : Leaf). l.den + c.leaf.result.den) c.loop-at.invariant
          ∙ ap (λ (l : Leaf). (leaves_over (leaf_in c.args.self.now) c.args.from
          (c.loop-at.at - c.args.from)).den + l.den) c.leaf.ensures ∙ sym next.1) i;
    }
