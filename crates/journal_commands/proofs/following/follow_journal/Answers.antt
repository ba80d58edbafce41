use Rattle.std.proofs.Common.{refl}
use Rattle.journal_commands.specs.Following.{follow_world}
use Rattle.journal_commands.proofs.FollowEnds.{ends_opened, was_opened}
use Rattle.journal_commands.proofs.following.follow_journal.Goals as goal

-- the disk before the opening is no part of what was followed
pub returns-in-Ok-clause-ends : goal.returns-in-Ok-clause-ends
returns-in-Ok-clause-ends g c =
    let D = g.D.Disk in
    let S = g.S.Source in
    let held = g.K.Sink.held in
    let over = c.follow_over in
    let ends = over.ensures.ends in
    ends_opened D.senses over.result.0
    (follow_world c.args.disk (S.left c.args.input.now) (S.faults c.args.input.now)
    (held c.args.output.now))
    (follow_world over.result.1 (S.left over.new.input) (S.faults over.new.input)
    (held over.new.output))
    (record {
      office = c.in-Ok.office;
      opened = c.in-Ok.ensures.opened;
      so = record {
        last = ends.last;
        came_to = ends.came_to;
        followed = ends.followed;
        leads = ends.leads;
        told = ends.told;
        handed_back = ends.handed_back;
      };
    })

pub returns-in-Err-clause-ends : goal.returns-in-Err-clause-ends
returns-in-Err-clause-ends g c =
    (c.in-Err.ensures.found, c.in-Err.ensures.quiet_err, refl, refl)

-- over an office that was opened it doesn't end unopened
pub returns-in-Ok-clause-untouched : goal.returns-in-Ok-clause-untouched
returns-in-Ok-clause-untouched g c = λ why is.
    absurd (was_opened g.D.Disk.senses c.follow_over.result.0 _ _ c.in-Ok.office why
    c.follow_over.ensures.ends is)

pub returns-in-Ok-clause-unopened : goal.returns-in-Ok-clause-unopened
returns-in-Ok-clause-unopened g c = λ is.
    absurd (was_opened g.D.Disk.senses c.follow_over.result.0 _ _ c.in-Ok.office _
    c.follow_over.ensures.ends is)
