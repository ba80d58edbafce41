use Rattle.std.proofs.Common.{subst}
use Rattle.office_outside.specs.Told.{Gained}
use Rattle.office_outside.proofs.Gains.{gained_then_prefix}
use Rattle.wire_replies.proofs.Results.{on_err}
use Rattle.wire_replies.proofs.writing.write_behind.Goals as goal

pub returns-clause-part : goal.returns-clause-part
returns-clause-part g c =
    on_err _ _ c.write_whole-3.result c.write_whole-3.ensures.part
    (λ part. gained_then_prefix c.args.page.now c.args.body.now _ _ _
    (subst (λ h. Gained h (g.K.Sink.held c.args.output.now)
    (g.K.Sink.held c.write_whole-2.new.output)) c.as_bytes-2.ensures.bytes
    c.in_ok-write_whole.ensures.gained) part)
