use Rattle.std.proofs.Common.{refl}
use Rattle.alert_line.proofs.cursor.PairWindows.new.Goals as goal

pub returns-clause-value : goal.returns-clause-value
returns-clause-value g c = record {
  same = refl;
  long = c.new-long.ensures c.args.pair.long c.args.minute;
  short = c.new-short.ensures.value;
}
