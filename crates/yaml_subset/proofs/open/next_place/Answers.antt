use Rattle.std.proofs.Common.{sym, ◌∙◌}
use Rattle.yaml_lines.specs.LineView.{mark_view}
use Rattle.yaml_subset.specs.OpenView.{next_place}
use Rattle.yaml_subset.proofs.OpenViewLemmas.{next_stops, next_goes, next_ends}
use Rattle.yaml_subset.proofs.open.next_place.Goals as goal

pub returns-then-is_followed_by-clause-value : goal.returns-then-is_followed_by-clause-value
returns-then-is_followed_by-clause-value c =
    next_stops (mark_view c.args.mark.now) c.args.frames.now c.loop-at.at c.index-frames-at.result
    (next_place (mark_view c.args.mark.now) c.args.frames.now) c.loop-at-test.true
    c.index-frames-at.is
    (sym c.is_followed_by.ensures ∙ c.if-is_followed_by.true) c.loop-at.invariant

pub loop-at-preserved : goal.loop-at-preserved
loop-at-preserved c =
    next_goes (mark_view c.args.mark.now) c.args.frames.now c.loop-at.at c.index-frames-at.result
    (next_place (mark_view c.args.mark.now) c.args.frames.now) c.loop-at-test.true
    c.index-frames-at.is
    (sym c.is_followed_by.ensures ∙ c.if-is_followed_by.false) c.loop-at.invariant

pub returns-clause-value : goal.returns-clause-value
returns-clause-value c =
    next_ends (mark_view c.args.mark.now) c.args.frames.now
    c.loop-at.at (next_place (mark_view c.args.mark.now) c.args.frames.now) c.loop-at-test.false
    c.loop-at.auto.at-end c.loop-at.invariant
