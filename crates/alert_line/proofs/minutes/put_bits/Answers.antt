use Rattle.std.proofs.Common.{◌∙◌, ap, slice_set, ◌/◌}
use Rattle.alert_line.specs.Minutes.{kept_at}
use Rattle.alert_line.proofs.MinuteLemmas.{kept_at-put}
use Rattle.alert_line.proofs.minutes.put_bits.Goals as goal

pub returns-clause-here : goal.returns-clause-here
returns-clause-here c = λ k.
    ap (λ b. kept_at (slice_set c.args.bytes.now (c.args.slot / 4) b) k) c.with_bits.ensures
    ∙ kept_at-put c.args.bytes.now c.args.slot c.args.bits c.requires.within c.requires.bits k
