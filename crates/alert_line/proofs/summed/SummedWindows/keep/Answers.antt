use Rattle.alert_line.proofs.SummedLemmas.{summed-of}
use Rattle.alert_line.proofs.summed.SummedWindows.keep.Goals as goal

pub returns : goal.returns
returns c = λ rule width leaf minute are is. record {
  first = summed-of rule width leaf minute c.args.cursor.now is;
  second = are.first;
}
