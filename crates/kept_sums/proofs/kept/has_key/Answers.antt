use Rattle.std.proofs.Common.{refl}
use Rattle.kept_sums.proofs.SharedLemmas.{found-key, no-key}
use Rattle.kept_sums.proofs.kept.has_key.Goals as goal

pub returns-in-Some : goal.returns-in-Some
returns-in-Some c = (
  λ yes. found-key c.args.pool c.args.objectives.now c.args.measure.now _ c.in-Some.ensures.some,
  λ has. refl,
)

pub returns-in-None : goal.returns-in-None
returns-in-None c = (
  λ yes. cc yes,
  λ has. absurd (no-key c.args.pool c.args.objectives.now c.args.measure.now
      (c.in-None.ensures.none refl) has),
)
