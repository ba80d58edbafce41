use Rattle.std.proofs.Common.{ap, arith}
use Rattle.exact_fraction.specs.declared.Leaf.{Leaf}
use Rattle.slo_terms.proofs.RangeLemmas.{sum_over-same}
use Rattle.sum_pages.specs.Pages.{leaf_after, leaf_at}
use Rattle.sum_pages.proofs.RaisedLemmas.{leaves-raised}
use Rattle.sample_tests.proofs.leaf_pages.put.Goals as goal

pub set-requires-clause-few : goal.set-requires-clause-few
set-requires-clause-few g c = λ first count.
    let value : Leaf = record { num = c.args.num; den = c.args.den } in
    let ready = c.reserve_day.new.self in
    omega (
      arith,
      leaves-raised ready c.args.slot value first count,
      sum_over-same (λ k. (leaf_at ready k).den) (λ k. (leaf_at c.args.pages.now k).den)
          (λ k. ap (λ (l : Leaf). l.den) (c.reserve_day.ensures.leaves k)) first count,
      c.requires.few.few first count,
      c.requires.small,
    )

pub returns : goal.returns
returns g c = record {
  few = λ first count.
      let value : Leaf = record { num = c.args.num; den = c.args.den } in
      let ready = c.reserve_day.new.self in
      omega (
        arith,
        sum_over-same (λ k. (leaf_at c.set.new.self k).den)
            (λ k. (leaf_after ready c.args.slot value k).den)
            (λ k. ap (λ (l : Leaf). l.den) (c.set.ensures.leaves k)) first count,
        leaves-raised ready c.args.slot value first count,
        sum_over-same (λ k. (leaf_at ready k).den) (λ k. (leaf_at c.args.pages.now k).den)
            (λ k. ap (λ (l : Leaf). l.den) (c.reserve_day.ensures.leaves k)) first count,
        c.requires.few.few first count,
      );
}
