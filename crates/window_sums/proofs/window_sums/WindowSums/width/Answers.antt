use Rattle.std.proofs.Common.{sym, subst}
use Rattle.std.specs.Int.{◌∣◌}
use Rattle.window_sums.proofs.window_sums.WindowSums.width.Goals as goal

pub returns-clause-divides : goal.returns-clause-divides
returns-clause-divides c =
    subst (λ w. w ∣ 60) (sym c.width_of.ensures.value) c.self.invariant.counts.counted.divides
