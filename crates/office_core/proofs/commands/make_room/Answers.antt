use Rattle.std.proofs.Common.{sym, subst, OnOk}
use Rattle.office_derived.specs.declared.Work.{Work}
use Rattle.office_derived.specs.Derived.{HasRoom}
use Rattle.office_core.proofs.commands.make_room.Goals as goal

pub returns-in-Define-clause-room : goal.returns-in-Define-clause-room
returns-in-Define-clause-room c =
    subst (λ (work : Work). OnOk c.room_for_plan.result (HasRoom c.room_for_plan.new.derived work))
    (sym c.in-Define.is)
    (c.room_for_plan.ensures.define c.in-Define.text c.in-Define.catalog c.in-Define.applied)

pub returns-in-Remove-clause-room : goal.returns-in-Remove-clause-room
returns-in-Remove-clause-room c =
    subst (λ (work : Work). OnOk c.room_for_plan-in-Remove.result
    (HasRoom c.room_for_plan-in-Remove.new.derived work)) (sym c.in-Remove.is)
    (c.room_for_plan-in-Remove.ensures.remove c.in-Remove.kind c.in-Remove.name
    c.in-Remove.catalog)

pub returns-in-PutZone-clause-room : goal.returns-in-PutZone-clause-room
returns-in-PutZone-clause-room c =
    subst (λ (work : Work). OnOk c.room_for_put_zone.result
    (HasRoom c.room_for_put_zone.new.derived work)) (sym c.in-PutZone.is)
    (c.room_for_put_zone.ensures.room c.in-PutZone.name c.in-PutZone.bytes c.in-PutZone.zone)

pub returns-in-Samples-clause-room : goal.returns-in-Samples-clause-room
returns-in-Samples-clause-room c =
    subst (λ (work : Work). OnOk c.room_for_samples.result
    (HasRoom c.room_for_samples.new.derived work)) (sym c.in-Samples.is)
    (c.room_for_samples.ensures.room c.in-Samples.tally c.in-Samples.verdicts)

pub returns-in-Exclude-clause-room : goal.returns-in-Exclude-clause-room
returns-in-Exclude-clause-room c =
    subst (λ (work : Work). OnOk c.room_for_exclude.result
    (HasRoom c.room_for_exclude.new.derived work)) (sym c.in-Exclude.is)
    c.room_for_exclude.ensures.room
