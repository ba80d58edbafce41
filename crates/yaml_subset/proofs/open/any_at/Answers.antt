use Rattle.std.proofs.Common.{sym, ◌∙◌}
use Rattle.yaml_subset.specs.OpenView.{any_at}
use Rattle.yaml_subset.proofs.OpenViewLemmas.{any_found, any_passed, any_none}
use Rattle.yaml_subset.proofs.open.any_at.Goals as goal

pub returns-then-stands_at : goal.returns-then-stands_at
returns-then-stands_at c =
    any_found c.args.at c.args.frames.now c.loop-index.index c.index-frames-index.result
    (any_at c.args.at c.args.frames.now) c.loop-index-test.true c.index-frames-index.is
    (sym c.stands_at.ensures ∙ c.if-stands_at.true) c.loop-index.invariant

pub loop-index-preserved : goal.loop-index-preserved
loop-index-preserved c =
    any_passed c.args.at c.args.frames.now c.loop-index.index c.index-frames-index.result
    (any_at c.args.at c.args.frames.now) c.loop-index-test.true c.index-frames-index.is
    (sym c.stands_at.ensures ∙ c.if-stands_at.false) c.loop-index.invariant

pub returns : goal.returns
returns c = any_none c.args.at c.args.frames.now c.loop-index.index
    (any_at c.args.at c.args.frames.now) c.loop-index-test.false c.loop-index.invariant
