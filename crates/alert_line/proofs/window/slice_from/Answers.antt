use Rattle.std.proofs.Common.{◌∙◌}
use Rattle.window_sums.proofs.WidthFacts.{slice_from-div_ceil}
use Rattle.alert_line.proofs.WindowLemmas.{from-minutes}
use Rattle.alert_line.proofs.window.slice_from.Goals as goal

pub returns-then-width-eq1 : goal.returns-then-width-eq1
returns-then-width-eq1 c = from-minutes c.args.width c.args.minute c.if-width-eq1.true

pub returns : goal.returns
returns c = c.div_ceil.ensures ∙ slice_from-div_ceil c.args.width c.args.minute c.requires
