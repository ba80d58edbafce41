use Rattle.std.proofs.Common.{arith}
use Rattle.kept_sums.proofs.MakeLemmas.{so_far_all, so_far_next}
use Rattle.kept_lines.specs.Plans.{HasLine}
use Rattle.kept_lines.proofs.plan.lines_made.Goals as goal

pub loop-watch-preserved : goal.loop-watch-preserved
loop-watch-preserved c =
    let kept = c.args.lines.now.kept in
    record {
      fresh = c.in_ok-add_line.ensures.fresh;
      there = so_far_next (HasLine kept c.loop-watch.made.items)
          (HasLine kept c.add_line.new.made.items) c.args.wanted.now c.loop-watch.watch-index
          c.watch-item.result c.loop-watch-test.true c.watch-item.is
          c.in_ok-add_line.ensures.still c.loop-watch.invariant.there
          c.in_ok-add_line.ensures.there;
    }

pub returns-clause-there : goal.returns-clause-there
returns-clause-there c =
    so_far_all (HasLine c.args.lines.now.kept c.loop-watch.made.items) c.args.wanted.now
    c.loop-watch.watch-index (omega arith) c.loop-watch.invariant.there
