use Rattle.std.proofs.Common.{decimal}
use Rattle.wire_replies.specs.Heads.{allow_line, connection_line, head_of, phrase_of, type_of}
use Rattle.wire_replies.proofs.HeadLemmas.{head_joined}
use Rattle.wire_replies.proofs.writing.push_head.Goals as goal

pub returns-clause-text : goal.returns-clause-text
unfolding head_of
returns-clause-text c =
    rw (
      c.push-10.ensures.gained,
      c.push-9.ensures.gained,
      c.push-8.ensures.gained,
      c.push-7.ensures.gained,
      c.push_u64-2.ensures.gained,
      c.push-6.ensures.gained,
      c.push-5.ensures.gained,
      c.push-4.ensures.gained,
      c.push-3.ensures.gained,
      c.push-2.ensures.gained,
      c.push_u64.ensures.gained,
      c.push.ensures.gained,
      c.requires,
      c.phrase.ensures.text,
      c.type_of.ensures.text,
      c.allow_line.ensures.text,
      c.connection_line.ensures.text,
    )
    (head_joined (decimal c.args.status) (phrase_of c.args.status) (type_of c.args.form)
    (decimal c.args.count) (allow_line c.args.allow) (connection_line c.args.last))
