use Rattle.std.proofs.Common.{inr}
use Rattle.office_keep.specs.Office.{unsettled}
use Rattle.office_keep.specs.Steps.{office_on}
use Rattle.office_keep.proofs.Changing.{changes_lift, leaves_lift, settled_from}
use Rattle.office_keep.proofs.Changing.{timely_settled}
use Rattle.office_keep.proofs.Offices.{stands_now}
use Rattle.office_outside.proofs.Moments.{leaves_then, leaves_weaker}
use Rattle.office_keep.proofs.steps.change.Goals as goal

pub add-requires-clause-timely : goal.add-requires-clause-timely
add-requires-clause-timely g c =
    timely_settled _ _ c.settle.new.core.office c.args.reading c.in-Ok.ensures.settled.settled
    c.is_legal.ensures.legal c.requires.timely

pub returns-clause-ended : goal.returns-clause-ended
returns-clause-ended g c =
    changes_lift (office_on c.args.core.now c.args.doubt.now c.args.journal.now)
    (office_on c.settle.new.core c.settle.new.doubt c.settle.new.journal)
    c.args.reading c.args.command.now c.in-Ok.ensures.settled
    (office_on c.add.new.core c.add.new.doubt c.add.new.journal) _ _
    (timely_settled _ _ c.settle.new.core.office c.args.reading c.in-Ok.ensures.settled.settled
    c.is_legal.ensures.legal c.requires.timely)
    c.add.ensures.ended

pub returns-clause-any_moment : goal.returns-clause-any_moment
returns-clause-any_moment g c =
    leaves_then c.settle.ensures.any_moment
    (leaves_weaker c.add.ensures.any_moment
    (leaves_lift (office_on c.args.core.now c.args.doubt.now c.args.journal.now)
    (office_on c.settle.new.core c.settle.new.doubt c.settle.new.journal)
    c.args.reading c.args.command.now c.in-Ok.ensures.settled
    (office_on c.add.new.core c.add.new.doubt c.add.new.journal)))
    (λ file stood. unsettled stood)

pub returns-clause-after_settling : goal.returns-clause-after_settling
returns-clause-after_settling g c =
    inr (settled_from (office_on c.args.core.now c.args.doubt.now c.args.journal.now)
    (office_on c.settle.new.core c.settle.new.doubt c.settle.new.journal)
    c.args.reading c.args.command.now c.in-Ok.ensures.settled
    (office_on c.add.new.core c.add.new.doubt c.add.new.journal)
    _ _ c.settle.ensures.quiet
    (stands_now g.D.Disk.senses _ _ _ c.settle.ensures.kept) c.add.ensures.ended
    c.add.ensures.any_moment)
