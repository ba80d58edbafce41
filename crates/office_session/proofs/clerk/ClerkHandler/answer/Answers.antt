use Rattle.std.proofs.Common.{refl}
use Rattle.office_outside.specs.Told.{Gained, GainedPrefix}
use Rattle.office_session.proofs.Clerking.{answered_whole, answered_part}
use Rattle.office_session.proofs.clerk.ClerkHandler.answer.Goals as goal

pub returns-clause-whole : goal.returns-clause-whole
returns-clause-whole g c =
    answered_whole _ _ _ _ _ _ _ c.write_reply.result
    (λ text. Gained text (g.K.Sink.held c.args.output.now) (g.K.Sink.held c.write_reply.new.output))
    (record {
      treats = c.reply_to-reply.ensures c.args.last;
      same =
          refl;
    }) c.write_reply.ensures.gained

pub returns-clause-part : goal.returns-clause-part
returns-clause-part g c =
    answered_part _ _ _ _ _ _ _ c.write_reply.result
    (λ text. GainedPrefix text (g.K.Sink.held c.args.output.now)
    (g.K.Sink.held c.write_reply.new.output))
    (record {
      treats = c.reply_to-reply.ensures c.args.last;
      same =
          refl;
    }) c.write_reply.ensures.part
