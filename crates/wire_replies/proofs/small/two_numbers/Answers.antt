use Rattle.std.proofs.Common.{append_assoc, refl}
use Rattle.wire_replies.proofs.small.two_numbers.Goals as goal

pub returns : goal.returns
returns c =
    rw (
      c.push-3.ensures.gained,
      c.push_u64-2.ensures.gained,
      c.push-2.ensures.gained,
      c.push_u64.ensures.gained,
      c.push.ensures.gained,
      c.new-text.ensures,
    )
    (simp append_assoc refl)
