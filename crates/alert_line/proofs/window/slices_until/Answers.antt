use Rattle.alert_line.proofs.WindowLemmas.{until-minutes}
use Rattle.alert_line.proofs.window.slices_until.Goals as goal

pub returns-then-width-eq1 : goal.returns-then-width-eq1
returns-then-width-eq1 c = until-minutes c.args.width c.args.minute c.if-width-eq1.true
