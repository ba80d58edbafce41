use Rattle.std.proofs.Common.{ap}
use Rattle.std.specs.Prelude.{is_some}
use Rattle.office_outside.proofs.Moments.{leaves_weaker}
use Rattle.journal_commands.proofs.Upgrading.{change_ended, ended_so, left_by}
use Rattle.journal_commands.proofs.migrating.change.Goals as goal

pub end_of-end-requires : goal.end_of-end-requires
end_of-end-requires g c =
    let done = c.perform-outcome in
    ap is_some (change_ended g.D.Disk.senses c.args.reading c.args.office.now done.new.self
    done.result done.ensures.ended.0 c.requires.none c.entries_are_few.ensures
    done.ensures.ended.1 done.ensures.stands).is

pub returns-clause-ends : goal.returns-clause-ends
returns-clause-ends g c =
    let done = c.perform-outcome in
    ended_so g.D.Disk.senses c.args.office.now.office c.args.reading done.result c.end_of-end.result
    done.new.self.disk
    (change_ended g.D.Disk.senses c.args.reading c.args.office.now done.new.self
    done.result done.ensures.ended.0 c.requires.none c.entries_are_few.ensures
    done.ensures.ended.1 done.ensures.stands)
    c.end_of-end.ensures.end

pub returns-clause-moments : goal.returns-clause-moments
returns-clause-moments g c =
    let done = c.perform-outcome in
    leaves_weaker {S = g.D.Disk.senses} done.ensures.any_moment
    (left_by g.D.Disk.senses c.args.reading c.args.office.now done.new.self c.requires.none)

pub returns-clause-cause : goal.returns-clause-cause
returns-clause-cause g c = λ failed.
    c.perform-outcome.ensures.cause.rose (c.end_of-end.ensures.disk failed)
