use Rattle.std.proofs.Common.{◌<◌, arith, subst}
use Rattle.window_sums.specs.Slices.{leaf_at, width_of}
use Rattle.alert_line.proofs.WindowLemmas.{IsOver-none}
use Rattle.alert_line.proofs.late.LateWindow.new.Goals as goal

pub returns : goal.returns
returns c = λ length minute. record {
  behind = omega arith;
  over = IsOver-none (width_of c.args.sums.now.method) (leaf_at c.args.sums.now) length
      (subst (λ n. 0 < n) c.width.ensures.value c.width.ensures.some);
}
