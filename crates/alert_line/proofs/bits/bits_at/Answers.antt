use Rattle.alert_line.proofs.MinuteLemmas.{bits_at-shift}
use Rattle.alert_line.proofs.bits.bits_at.Goals as goal

pub returns-clause-value : goal.returns-clause-value
returns-clause-value c = bits_at-shift c.args.byte c.args.place c.requires
