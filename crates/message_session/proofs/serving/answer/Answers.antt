use Rattle.std.proofs.Common.{ℕ, List, subst, sym}
use Rattle.std.specs.declared.option.Option.{Option}
use Rattle.office_outside.specs.Told.{GainedPrefix}
use Rattle.message_session.proofs.Turns.{gained_all}
use Rattle.message_session.proofs.serving.answer.Goals as goal

pub returns-in-Err-flush-clause-part : goal.returns-in-Err-flush-clause-part
returns-in-Err-flush-clause-part g c =
    let (text, treated, gained) = c.in-Ok.ensures.whole in (
      text,
      treated,
      subst (λ (o : Option (List ℕ)). GainedPrefix text (g.K.Sink.held
          c.args.output.now) o) (sym c.flush.ensures.kept) (gained_all text _ _ gained),
    )
