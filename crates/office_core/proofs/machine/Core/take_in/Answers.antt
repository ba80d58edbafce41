use Rattle.std.proofs.Common.{ap, sym, subst}
use Rattle.record_form.specs.declared.Entry.{Entry}
use Rattle.office_core.specs.Machine.{IsAdded, MachineIsKept, office_of, pending_of}
use Rattle.office_core.specs.Seen.{Machine}
use Rattle.office_core.proofs.machine.Core.take_in.Goals as goal

pub judge_and_add-requires-clause-kept : goal.judge_and_add-requires-clause-kept
judge_and_add-requires-clause-kept c =
    let k = c.self.invariant in (
      c.self.inside.records.spare,
      c.self.inside.records.places,
      record {
        sound = k.sound;
        reflects = k.reflects;
        legal = k.legal;
        lines_right = k.lines_right;
        ready = tt;
      },
    )

pub invariant_of-self : goal.invariant_of-self
invariant_of-self c =
    let new = c.judge_and_add.new in
    subst (MachineIsKept new.derived new.lines new.records.history new.records.spare
    new.records.places)
    (sym c.forget_pending.ensures) c.judge_and_add.ensures.kept

pub returns-clause-added : goal.returns-clause-added
returns-clause-added c =
    let new = c.judge_and_add.new in
    let e : Entry = record { moment = c.args.moment; command = c.args.command.now } in
    subst (λ (m : Machine). IsAdded m.office e c.judge_and_add.result
    (office_of new.derived new.records.history)) c.self.view_is c.judge_and_add.ensures.added

pub returns-clause-pending : goal.returns-clause-pending
returns-clause-pending c = ap pending_of c.forget_pending.ensures
