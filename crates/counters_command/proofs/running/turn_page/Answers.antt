use Rattle.std.proofs.Common.{List, ℕ, subst}
use Rattle.office_outside.specs.Told.{Gained}
use Rattle.counters_command.proofs.UnderwayLemmas.{turns}
use Rattle.counters_command.proofs.running.turn_page.Goals as goal

pub returns-in-Ok-clause-turned : goal.returns-in-Ok-clause-turned
returns-in-Ok-clause-turned g c = λ sli records left number book old u.
    turns sli records left number book c.args.page.now.items old
    (g.K.Sink.held c.args.output.now) u c.clear.new.self.items
    (g.K.Sink.held c.write_whole.new.output) c.clear.ensures.items
    (subst (λ (p : List ℕ). Gained p (g.K.Sink.held c.args.output.now)
    (g.K.Sink.held c.write_whole.new.output)) c.deref.ensures.value c.in-Ok.ensures.gained)
