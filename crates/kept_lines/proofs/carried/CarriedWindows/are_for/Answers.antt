use Rattle.std.proofs.Common.{Option, IfSome, subst}
use Rattle.window_sums.specs.Slices.{width_of}
use Rattle.alert_line.specs.Summed.{AreSummedAt}
use Rattle.office_history.specs.Counts.{leaf_at}
use Rattle.office_history.specs.declared.Measure.{Measure}
use Rattle.kept_lines.specs.Sums.{samples_of}
use Rattle.kept_lines.proofs.CarriedLemmas.{carried-on}
use Rattle.kept_lines.proofs.carried.CarriedWindows.are_for.Goals as goal

pub returns-in-Some-clause-windows : goal.returns-in-Some-clause-windows
returns-in-Some-clause-windows c = λ yes minute are.
    let s = samples_of c.args.book.now in
    let w = c.args.self.now.windows in
    carried-on s c.in-Some.own c.args.measure.now minute w (c.counts_the_same.ensures yes)
    (subst (λ (o : Option Measure). IfSome o
    (λ (m : Measure). AreSummedAt (width_of m.method) (leaf_at s m) minute w)) c.in-Some.is are)
