use Rattle.std.proofs.Common.{refl, sym, ◌∙◌}
use Rattle.burn_core.specs.Alert.{reach_of}
use Rattle.kept_sums.proofs.ReplaceLemmas.{other_counts, same_counts}
use Rattle.window_sums.specs.Slices.{no_counts}
use Rattle.line_forgetting.specs.Touched.{IsThatOne}
use Rattle.line_forgetting.proofs.EachLemmas.{each-none, each-one}
use Rattle.line_forgetting.proofs.whole.touch_counted.Goals as goal

pub touch-requires-clause-early : goal.touch-requires-clause-early
touch-requires-clause-early c =
    c.requires.early (other_counts c.args.counts no_counts (sym c.if-ne.true ∙ c.ne.ensures))

pub returns-then-ne : goal.returns-then-ne
returns-then-ne c =
    each-one (IsThatOne c.args.slice c.args.counts) c.args.width (reach_of c.args.rule.now)
    c.args.slice c.args.waiting c.touch.result c.args.line.now c.touch.new.line
    (λ slice is. is.is)
    (record {
      is = refl;
      some = other_counts c.args.counts no_counts (sym c.if-ne.true ∙ c.ne.ensures);
    })
    c.touch.ensures.run c.touch.ensures.has c.touch.ensures.own c.touch.ensures.all
    c.touch.ensures.only

pub returns : goal.returns
returns c =
    each-none (IsThatOne c.args.slice c.args.counts) c.args.width (reach_of c.args.rule.now)
    c.args.waiting c.args.line.now
    (λ slice is. is.some (same_counts c.args.counts no_counts (sym c.if-ne.false ∙ c.ne.ensures)))
    c.requires.run
