use Rattle.std.proofs.Common.{decimal}
use Rattle.request_texts.specs.Requests.{head_of}
use Rattle.request_texts.proofs.Pieces.{head_joined}
use Rattle.request_texts.proofs.heads.push_rest.Goals as goal

pub returns : goal.returns
unfolding head_of
returns c =
    rw (
      c.push-2.ensures.gained,
      c.push_number.ensures.gained,
      c.push.ensures.gained,
    )
    (head_joined c.args.head.now (decimal c.args.body))
