use Rattle.std.proofs.Common.{◌≡◌, ◌∙◌, ◌≤◌, List, length, refl, sym, ap, subst}
use Rattle.std.proofs.Common.{arith, ℕ, Some, None}
use Rattle.record_form.specs.declared.Command.{Command}
use Rattle.record_form.specs.declared.Entry.{Entry}
use Rattle.record_form.specs.Ranges.{IsRecord}
use Rattle.office_history.specs.declared.Judgement.TheVariants.{Accepted}
use Rattle.office_history.specs.History.{Office, with_entry}
use Rattle.office_history.specs.Judges.{Judges}
use Rattle.office_derived.specs.declared.Verdict.TheVariants as verdicts
use Rattle.office_derived.specs.Derived.{IsJudged, command_of, entry_of}
use Rattle.kept_lines.specs.declared.WatchLine.{WatchLine}
use Rattle.kept_lines.specs.Lines.{HasLines}
use Rattle.office_core.specs.declared.machine.Pending.{Pending}
use Rattle.office_core.specs.Machine.{MachineIsKept, office_of}
use Rattle.office_core.proofs.MachineLemmas.{IsCommitted, begun, committed, kept_next, kept_ready}
use Rattle.office_core.proofs.MachineLemmas.{kept_stays, office_next}
use Rattle.office_core.proofs.machine.judge_and_add.Goals as goal
use Rattle.office_core.proofs.machine.judge_and_add.Goals.{After-apply-outcome, In-Ok}

-- what the command was found to be
judged : (c : In-Ok) →
    IsJudged (office_of c.args.derived.now c.args.records.now.history) c.args.moment
    c.args.command.now (verdicts.Ready c.in-Ready.work)
judged c =
    subst (IsJudged (office_of c.args.derived.now c.args.records.now.history) c.args.moment
    c.args.command.now) c.in-Ready.is (c.judge.ensures.judged _ c.requires.kept.2.reflects)

-- its command is the one that was given
accepted : (c : In-Ok) →
    Judges (office_of c.args.derived.now c.args.records.now.history) c.args.moment
    (command_of c.in-Ready.work) Accepted
accepted c =
    subst (λ (command : Command). Judges
    (office_of c.args.derived.now c.args.records.now.history) c.args.moment command Accepted)
    (sym (judged c).1) (judged c).0

-- and so its entry is the record's
same_entry : (c : In-Ok) → entry_of c.args.moment c.in-Ready.work
    ≡ record { moment = c.args.moment; command = c.args.command.now }
same_entry c = ap at (judged c).1
  where
    at : Command → Entry
    at command = record { moment = c.args.moment; command = command }

is_record : (c : In-Ok) → IsRecord c.args.piece.now (entry_of c.args.moment c.in-Ready.work)
is_record c = subst (IsRecord c.args.piece.now) (sym (same_entry c)) c.requires.piece

-- the entry as it would be pending
abbrev pending_at : (c : In-Ok) → Pending
pending_at c =
    record { moment = c.args.moment; work = c.in-Ready.work; plan = c.in-Ok.plan }

spare : (c : In-Ok) → length c.args.piece.now ≤ c.make_room_for.new.records.spare
spare c = c.in-Ok.ensures.spare

-- the machine has room for it
ready : (c : In-Ok) → MachineIsKept c.make_room_for.new.derived c.make_room_for.new.lines
    c.make_room_for.new.records.history c.make_room_for.new.records.spare
    c.make_room_for.new.records.places (Some (pending_at c))
ready c =
    let d = c.args.derived.now in
    kept_ready d c.make_room_for.new.derived c.args.lines.now c.make_room_for.new.lines
    c.args.records.now.history c.make_room_for.new.records.history
    _ c.make_room_for.new.records.spare _ c.make_room_for.new.records.places
    None (Some (pending_at c)) (pending_at c)
    c.requires.kept.2 c.in-Ok.ensures.stays
    (subst (λ (kept : List WatchLine). HasLines d kept) (sym c.in-Ok.ensures.lines)
    c.judge.ensures.lines)
    c.in-Ok.ensures.plan c.in-Ok.ensures.records refl c.requires.later c.requires.in_range
    (accepted c) (judged c).2 c.in-Ok.ensures.room (is_record c).fits
    (subst (λ (bytes : List ℕ). length bytes ≤ c.make_room_for.new.records.spare)
    (is_record c).spelled (spare c))
    c.in-Ok.ensures.places

-- it is the one that is added
taken : (c : After-apply-outcome) → MachineIsKept c.make_room_for.new.derived
    c.make_room_for.new.lines c.make_room_for.new.records.history
    c.make_room_for.new.records.spare c.make_room_for.new.records.places
    (Some (record { moment = c.args.moment; work = c.in-Ready.work; plan = c.in-Ok.plan }))
    → IsCommitted c.make_room_for.new.derived c.apply-outcome.new.derived
    c.make_room_for.new.records.history (entry_of c.args.moment c.in-Ready.work)
taken c kept =
    let p : Pending =
    record { moment = c.args.moment; work = c.in-Ready.work; plan = c.in-Ok.plan } in
    committed c.make_room_for.new.derived c.apply-outcome.new.derived c.make_room_for.new.lines
    c.make_room_for.new.records.history c.make_room_for.new.records.spare
    c.make_room_for.new.records.places (Some p) p
    (entry_of c.args.moment c.in-Ready.work) kept refl refl c.apply-outcome.ensures.reflects

-- more room leaves the office
same_office : (c : In-Ok) →
    office_of c.make_room_for.new.derived c.make_room_for.new.records.history
    ≡ office_of c.args.derived.now c.args.records.now.history
same_office c i =
    record { origin = c.in-Ok.ensures.stays.origin i; history = c.in-Ok.ensures.records i }

pub judge-requires-clause-begun : goal.judge-requires-clause-begun
judge-requires-clause-begun c =
    omega (arith, begun (office_of c.args.derived.now c.args.records.now.history), c.requires.later)

pub make_room_for-requires-clause-few : goal.make_room_for-requires-clause-few
make_room_for-requires-clause-few c =
    let o = office_of c.args.derived.now c.args.records.now.history in
    let judged = subst (IsJudged o c.args.moment c.args.command.now) c.in-Ready.is
    (c.judge.ensures.judged o c.requires.kept.2.reflects) in
    c.an_accepted_tick_tells_few.ensures o c.args.moment c.in-Ready.work
    (subst (λ (command : Command). Judges o c.args.moment command Accepted) (sym judged.1) judged.0)
    judged.2

pub push-requires-clause-entry : goal.push-requires-clause-entry
push-requires-clause-entry c =
    (record { moment = c.args.moment; command = c.args.command.now }, c.requires.piece)

pub apply-outcome-requires-clause-sound : goal.apply-outcome-requires-clause-sound
apply-outcome-requires-clause-sound c =
    (ready (goal.at.apply-outcome-requires-clause-sound c).In-Ok).sound

pub apply-outcome-requires-clause-next : goal.apply-outcome-requires-clause-next
apply-outcome-requires-clause-next c =
    (_, (ready (goal.at.apply-outcome-requires-clause-next c).In-Ok).ready.next)

pub returns-in-Ok-clause-kept : goal.returns-in-Ok-clause-kept
returns-in-Ok-clause-kept c =
    let at = goal.at.returns-in-Ok-clause-kept c in
    kept_next c.make_room_for.new.derived c.apply-outcome.new.derived c.apply-outcome.new.lines
    c.make_room_for.new.records.history c.push.new.self.history _ _ None
    (entry_of c.args.moment c.in-Ready.work) (taken at.After-apply-outcome (ready at.In-Ok))
    (c.push.ensures.history _ (is_record at.In-Ok)) c.apply-outcome.ensures.sound
    c.apply-outcome.ensures.lines refl

pub returns-in-Ok-clause-added : goal.returns-in-Ok-clause-added
returns-in-Ok-clause-added c =
    let at = goal.at.returns-in-Ok-clause-added c in
    let e = entry_of c.args.moment c.in-Ready.work in (
      (judged at.In-Ok).0,
      office_next c.make_room_for.new.derived c.apply-outcome.new.derived
          c.make_room_for.new.records.history c.push.new.self.history e
          (c.push.ensures.history e (is_record at.In-Ok))
          (taken at.After-apply-outcome (ready at.In-Ok)).reflects
          ∙ ap (λ (o : Office). with_entry o e) (same_office at.In-Ok)
          ∙ ap (with_entry (office_of c.args.derived.now c.args.records.now.history))
          (same_entry at.In-Ok),
    )

pub returns-in-Err-clause-kept : goal.returns-in-Err-clause-kept
returns-in-Err-clause-kept c =
    kept_stays c.args.derived.now c.make_room_for.new.derived c.args.lines.now
    c.make_room_for.new.lines c.args.records.now.history c.make_room_for.new.records.history
    _ _ _ _ None None c.requires.kept.2 c.in-Err.ensures.stays
    (subst (λ (kept : List WatchLine). HasLines c.args.derived.now kept)
    (sym c.in-Err.ensures.lines) c.judge.ensures.lines)
    c.in-Err.ensures.records refl

pub returns-in-Err-clause-added : goal.returns-in-Err-clause-added
returns-in-Err-clause-added c i =
    record { origin = c.in-Err.ensures.stays.origin i; history = c.in-Err.ensures.records i }
