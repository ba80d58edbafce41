use Rattle.std.proofs.Common.{◌∙◌, ◌==◌, if◌then◌else◌}
use Rattle.alert_line.proofs.minutes.keep.Goals as goal

pub returns-clause-here : goal.returns-clause-here
returns-clause-here c = λ k. c.put_in.ensures.here k ∙ (λ i. if k == c.args.slot
    then c.bits_of.ensures.value i else c.reach.ensures.kept k i)
