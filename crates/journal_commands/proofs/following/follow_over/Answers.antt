use Rattle.std.proofs.Common.{ℕ, subst, sym}
use Rattle.office_outside.specs.Faults.{RoseBy}
use Rattle.journal_commands.specs.Following.{TellsEnd}
use Rattle.journal_commands.proofs.FollowEnds.{came_so}
use Rattle.journal_commands.proofs.following.follow_over.Goals as goal

pub returns-clause-ends : goal.returns-clause-ends
returns-clause-ends g c =
    let held = g.K.Sink.held in
    let followed = c.follow-end in
    let told = c.tell_end-told in
    record {
      last = followed.new.office;
      came_to = followed.result;
      followed = followed.ensures.followed;
      leads = followed.ensures.leads;
      told = subst (λ (n : ℕ). TellsEnd followed.result n told.result (held c.args.output.now)
          (held told.new.output)) c.length.ensures told.ensures.tells;
      handed_back = c.into_disk.ensures;
    }

-- what was told is how following ended
pub returns-clause-disk : goal.returns-clause-disk
returns-clause-disk g c = λ is.
    let D = g.D.Disk in
    let followed = c.follow-end in
    let Failed : g.row.D.Denot → Type 0 = λ d. RoseBy D.senses.faults c.args.office.disk d in
    subst Failed (sym c.into_disk.ensures)
    (followed.ensures.followed.ended.disk_failed
    (came_so followed.result _ c.length.result c.tell_end-told.result _ _
    c.tell_end-told.ensures.tells is))

pub returns-clause-read : goal.returns-clause-read
returns-clause-read g c = λ is.
    c.follow-end.ensures.followed.ended.failed
    (came_so c.follow-end.result _ c.length.result c.tell_end-told.result _ _
    c.tell_end-told.ensures.tells is)
