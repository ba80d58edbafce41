use Rattle.kept_lines.proofs.LineLemmas.{line_there}
use Rattle.kept_lines.proofs.kept.has_line.Goals as goal

pub returns : goal.returns
returns c =
    line_there c.args.watch.now c.args.lines.now c.place_of.result c.place_of.ensures.some
    c.place_of.ensures.none c.is_some.result c.is_some.ensures
