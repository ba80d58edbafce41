use Rattle.std.proofs.Common.{subst}
use Rattle.slo_terms.specs.Sums.{AreSound}
use Rattle.window_sums.specs.Slices.{CountedDays, counted_days, leaf_at}
use Rattle.window_sums.proofs.SoundFacts.{leaves-sound}
use Rattle.window_sums.proofs.window_sums.WindowSums.sound.Goals as goal

pub returns : goal.returns
returns c =
    let sums : CountedDays =
    counted_days c.self.inside.method c.self.inside.days.entries c.self.inside.pages in
    subst (λ (s : CountedDays). AreSound (leaf_at s)) c.self.view_is
    (leaves-sound sums c.self.invariant.counts.counted.sound)
