use Rattle.std.proofs.Common.{arith}
use Rattle.sum_pages.specs.Pages.{leaf_at}
use Rattle.window_sums.specs.Ranges.{slots_of}
use Rattle.window_sums.proofs.EmptinessFacts.{above, den_of, is_none, is_some, none-before}
use Rattle.window_sums.proofs.EmptinessFacts.{none-within}
use Rattle.window_sums.proofs.EmptinessFacts.{none-yet, some-there}
use Rattle.window_sums.proofs.emptiness.are_empty.Goals as goal

pub loop-at-init : goal.loop-at-init
loop-at-init g c = record {
  none = none-yet (leaf_at c.args.pages.now) c.args.to
      (slots_of c.args.unit c.args.pages.now.per_hour);
  within = omega arith;
  steps = omega arith;
}

pub returns-then-read-ne0-clause-value : goal.returns-then-read-ne0-clause-value
returns-then-read-ne0-clause-value g c =
    let leaf = leaf_at c.args.pages.now in
    let slots = slots_of c.args.unit c.args.pages.now.per_hour in
    is_some (den_of leaf c.args.from c.args.to slots)
    (some-there leaf c.args.from c.loop-at.at c.args.to slots c.read.result c.loop-at-test.true
    c.loop-at.auto.at c.read.ensures.value (above c.read.result.den c.if-read-ne0.true))

pub returns-then-read-ne0-clause-cost : goal.returns-then-read-ne0-clause-cost
returns-then-read-ne0-clause-cost g c =
    omega (
      arith,
      c.loop-at.invariant.steps,
      c.read.ensures.cost,
      c.loop-at-test.true,
      c.loop-at.auto.at,
    )

pub loop-at-preserved : goal.loop-at-preserved
loop-at-preserved g c =
    let leaf = leaf_at c.args.pages.now in
    let slots = slots_of c.args.unit c.args.pages.now.per_hour in
    record {
      none =
          none-before leaf c.args.from c.loop-at.at c.args.to slots c.read.result
          c.loop-at-test.true c.loop-at.auto.at c.read.ensures.value c.if-read-ne0.false
          c.loop-at.invariant.none;
      within = omega (arith, c.loop-at-test.true, c.loop-at.invariant.within);
      steps = omega (
        arith,
        c.loop-at.invariant.steps,
        c.read.ensures.cost,
        c.loop-at-test.true,
        c.loop-at.auto.at,
      );
    }

pub returns-clause-value : goal.returns-clause-value
returns-clause-value g c =
    let leaf = leaf_at c.args.pages.now in
    let slots = slots_of c.args.unit c.args.pages.now.per_hour in
    is_none (den_of leaf c.args.from c.args.to slots)
    (none-within leaf c.loop-at.at c.args.from c.args.to c.args.to slots
    (omega (arith, c.loop-at-test.false)) (omega arith) c.loop-at.invariant.none)

pub returns-clause-cost : goal.returns-clause-cost
returns-clause-cost g c =
    omega (arith, c.loop-at.invariant.steps, c.loop-at.invariant.within)
