use Rattle.std.proofs.Common.{◌≡◌, drop, sym, ◌∙◌, subst, arith, Greater}
use Rattle.std.specs.List.{AllByRecursion}
use Rattle.slo_catalog.specs.Places.{to}
use Rattle.slo_catalog.proofs.PlaceLemmas.{ahead_of_middle, here_in_middle, behind_middle}
use Rattle.slo_catalog.proofs.PlaceLemmas.{middle_below}
use Rattle.slo_catalog.proofs.members.place_of.Goals as goal

pub loop-low-preserved-in-Less : goal.loop-low-preserved-in-Less
loop-low-preserved-in-Less c =
    let below = middle_below c.loop-low.low c.loop-low.high c.loop-low-test.true in
    record {
      order = omega arith;
      within = c.loop-low.invariant.within;
      ahead = ahead_of_middle c.args.kind c.args.name c.args.members.now _ c.object.result.now
          _ c.requires (omega arith) (c.object.ensures.all ∙ c.index-members-middle.is)
          (sym c.compare.ensures ∙ c.in-Less.is);
      behind = c.loop-low.invariant.behind;
    }

pub returns-in-Equal : goal.returns-in-Equal
returns-in-Equal c =
    let below = middle_below c.loop-low.low c.loop-low.high c.loop-low-test.true in
    here_in_middle c.args.kind c.args.name c.args.members.now _ c.object.result.now
    _ c.requires (omega arith) (c.object.ensures.all ∙ c.index-members-middle.is)
    (sym c.compare.ensures ∙ c.in-Equal.is)

pub loop-low-preserved : goal.loop-low-preserved
loop-low-preserved c =
    let below = middle_below c.loop-low.low c.loop-low.high c.loop-low-test.true in
    record {
      order = omega arith;
      within = omega arith;
      ahead = c.loop-low.invariant.ahead;
      behind = behind_middle c.args.kind c.args.name c.args.members.now _ c.object.result.now
          _ c.requires (omega arith) (c.object.ensures.all ∙ c.index-members-middle.is)
          (sym c.compare.ensures ∙ c.in-Greater.is);
    }

pub returns : goal.returns
returns c =
    let same : c.loop-low.high ≡ c.loop-low.low = omega arith in
    record {
      within = omega arith;
      ahead = c.loop-low.invariant.ahead;
      behind = subst (λ n. AllByRecursion (λ o. to c.args.kind c.args.name o ≡ Greater)
          (drop n c.args.members.now)) same c.loop-low.invariant.behind;
    }
