use Rattle.office_keep.proofs.Offices.{stands_now}
use Rattle.office_keep.proofs.Performing.{answers_blame_none, leaves_change, performs_change}
use Rattle.office_keep.proofs.Performing.{settles_change, settles_nothing, stays_by}
use Rattle.office_outside.proofs.Moments.{leaves_still, leaves_weaker}
use Rattle.office_keep.proofs.office.Office.do_in_range.Goals as goal

pub returns-then-not-in_range-clause-any_moment : goal.returns-then-not-in_range-clause-any_moment
returns-then-not-in_range-clause-any_moment g c =
    rw (← c.self.view_is) (leaves_weaker (leaves_still {S = g.D.Disk.senses}
    g.met.D.Disk.only_now (stands_now g.D.Disk.senses _ _ _ c.self.invariant))
    (stays_by _ _ c.args.reading c.args.request.now))

pub returns-in-Ask-clause-any_moment : goal.returns-in-Ask-clause-any_moment
returns-in-Ask-clause-any_moment g c =
    rw (← c.self.view_is) (leaves_weaker (leaves_still {S = g.D.Disk.senses}
    g.met.D.Disk.only_now (stands_now g.D.Disk.senses _ _ _ c.self.invariant))
    (stays_by _ _ c.args.reading c.args.request.now))

pub returns-in-Ask-clause-cause : goal.returns-in-Ask-clause-cause
returns-in-Ask-clause-cause g c =
    rw (← c.self.view_is)
    (answers_blame_none _ c.self.inside.core.office c.moment-moment.result c.in-Ask.query
    c.answer.result c.answer.ensures.answer)

pub returns-in-Change-clause-ended : goal.returns-in-Change-clause-ended
returns-in-Change-clause-ended g c =
    rw (← c.self.view_is) (performs_change _ _ c.args.reading c.args.request.now c.in-Change.command
    c.change.result.0 c.change.result.1 c.in-Change.is c.change.ensures.ended)

pub returns-in-Change-clause-any_moment : goal.returns-in-Change-clause-any_moment
returns-in-Change-clause-any_moment g c =
    rw (← c.self.view_is) (leaves_change _ _ c.args.reading c.args.request.now c.in-Change.command
    c.in-Change.is c.change.ensures.any_moment)

pub returns-then-not-in_range-clause-after_settling :
    goal.returns-then-not-in_range-clause-after_settling
returns-then-not-in_range-clause-after_settling g c =
    rw (← c.self.view_is) (settles_nothing g.D.Disk.senses _ c.args.reading c.args.request.now)

pub returns-in-Change-clause-after_settling : goal.returns-in-Change-clause-after_settling
returns-in-Change-clause-after_settling g c =
    rw (← c.self.view_is) (settles_change g.D.Disk.senses _ _ c.args.reading c.args.request.now
    c.in-Change.command c.in-Change.is c.change.ensures.after_settling)
