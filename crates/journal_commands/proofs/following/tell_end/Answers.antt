use Rattle.std.proofs.Common.{ap, subst, sym}
use Rattle.follow_terms.specs.declared.FollowEnd.{FollowEnd}
use Rattle.journal_commands.specs.Following.{TellsEnd}
use Rattle.journal_commands.proofs.FollowEnds.{told_entries}
use Rattle.journal_commands.proofs.following.tell_end.Goals as goal

pub returns-in-Done-clause-tells : goal.returns-in-Done-clause-tells
returns-in-Done-clause-tells g c =
    let held = g.K.Sink.held in
    let told = c.tell_entries in
    let old = held c.args.output.now in
    let new = held told.new.output in
    subst (λ (end : FollowEnd). TellsEnd end c.args.entries told.result old new) (sym c.in-Done.is)
    (told_entries c.args.entries told.result old new told.ensures.done told.ensures.part
    (λ e. ap held (told.ensures.memory e)) told.ensures.other)
