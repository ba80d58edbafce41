use Rattle.std.proofs.Common.{◌∙◌, ℕ, ◌≤◌, List, length, refl, sym, ap, subst, arith, Some, None}
use Rattle.record_form.specs.declared.Command.{Command}
use Rattle.record_form.specs.declared.Entry.{Entry}
use Rattle.record_form.specs.Records.{record_of}
use Rattle.office_history.specs.declared.Judgement.TheVariants.{Accepted}
use Rattle.office_history.specs.Judges.{Judges}
use Rattle.office_derived.specs.Derived.{IsJudged}
use Rattle.kept_lines.specs.declared.WatchLine.{WatchLine}
use Rattle.kept_lines.specs.Known.{AllKnow}
use Rattle.kept_lines.specs.Lines.{HasLines}
use Rattle.office_core.specs.declared.machine.Pending.{Pending}
use Rattle.office_core.specs.Machine.{office_of}
use Rattle.office_core.proofs.CountLemmas.{count_same, count_stays}
use Rattle.office_core.proofs.MachineLemmas.{begun, kept_ready, kept_stays}
use Rattle.office_core.proofs.RangeLemmas.{in_range}
use Rattle.office_core.proofs.machine.judge_and_make_room.Goals as goal

pub judge-requires-clause-begun : goal.judge-requires-clause-begun
judge-requires-clause-begun c =
    omega (arith, begun (office_of c.args.derived.now c.args.records.now.history), c.requires.later)

pub make_ready-requires-clause-command : goal.make_ready-requires-clause-command
make_ready-requires-clause-command c =
    let o = office_of c.args.derived.now c.args.records.now.history in
    (subst (IsJudged o c.args.moment c.args.command.now) c.in-Ready.is
    (c.judge.ensures.judged o c.requires.kept.3.reflects)).1

pub make_ready-requires-clause-few : goal.make_ready-requires-clause-few
make_ready-requires-clause-few c =
    let o = office_of c.args.derived.now c.args.records.now.history in
    let judged = subst (IsJudged o c.args.moment c.args.command.now) c.in-Ready.is
    (c.judge.ensures.judged o c.requires.kept.3.reflects) in
    c.an_accepted_tick_tells_few.ensures o c.args.moment c.in-Ready.work
    (subst (λ (command : Command). Judges o c.args.moment command Accepted) (sym judged.1) judged.0)
    judged.2

pub make_ready-requires-clause-sound : goal.make_ready-requires-clause-sound
make_ready-requires-clause-sound c = c.requires.kept.3.sound

pub make_ready-requires-clause-range : goal.make_ready-requires-clause-range
make_ready-requires-clause-range c =
    let o = office_of c.args.derived.now c.args.records.now.history in
    let k = c.requires.kept.3 in
    let judged = subst (IsJudged o c.args.moment c.args.command.now) c.in-Ready.is
    (c.judge.ensures.judged o k.reflects) in
    in_range o c.args.moment c.args.command.now (omega (arith, k.sound.origin)) c.requires.readable
    c.requires.revisions judged.0

pub returns-in-Ok-clause-kept : goal.returns-in-Ok-clause-kept
returns-in-Ok-clause-kept c =
    let d = c.args.derived.now in
    let o = office_of d c.args.records.now.history in
    let k = c.requires.kept.3 in
    let judged = subst (IsJudged o c.args.moment c.args.command.now) c.in-Ready.is
    (c.judge.ensures.judged o k.reflects) in
    let p : Pending = record {
      moment = c.args.moment;
      work = c.in-Ready.work;
      plan = c.in-Ok.plan;
    } in
    let right = subst (λ (kept : List WatchLine). HasLines d kept) (sym c.in-Ok.ensures.lines)
    c.judge.ensures.lines in
    kept_ready d c.make_ready.new.derived c.args.lines.now
    c.make_ready.new.lines c.args.records.now.history c.make_ready.new.records.history
    _ c.make_ready.new.records.spare _ c.make_ready.new.records.places
    c.requires.kept.2 (Some p) p
    k c.in-Ok.ensures.stays right c.in-Ok.ensures.plan c.in-Ok.ensures.records refl c.requires.later
    c.requires.in_range
    (subst (λ (command : Command). Judges o c.args.moment command Accepted) (sym judged.1) judged.0)
    judged.2
    c.in-Ok.ensures.room c.in-Ok.ensures.fits
    (subst (λ (bytes : List ℕ). length bytes ≤ c.make_ready.new.records.spare)
    c.in-Ok.ensures.bytes c.in-Ok.ensures.spare)
    c.in-Ok.ensures.places

pub returns-in-Ok-clause-verdict : goal.returns-in-Ok-clause-verdict
returns-in-Ok-clause-verdict c =
    let o = office_of c.args.derived.now c.args.records.now.history in
    let judged = subst (IsJudged o c.args.moment c.args.command.now) c.in-Ready.is
    (c.judge.ensures.judged o c.requires.kept.3.reflects) in
    let at : Command → Entry = λ command. record { moment = c.args.moment; command = command } in (
      judged.0,
      c.in-Ok.ensures.bytes ∙ ap (λ command. record_of (at command)) judged.1,
      ap (λ command. Some (at command)) judged.1,
    )

pub returns-in-Err-clause-kept : goal.returns-in-Err-clause-kept
returns-in-Err-clause-kept c =
    kept_stays c.args.derived.now c.make_ready.new.derived c.args.lines.now c.make_ready.new.lines
    c.args.records.now.history c.make_ready.new.records.history _ _ _ _ c.requires.kept.2 None
    c.requires.kept.3 c.in-Err.ensures.stays
    (subst (λ (kept : List WatchLine). HasLines c.args.derived.now kept)
    (sym c.in-Err.ensures.lines) c.judge.ensures.lines)
    c.in-Err.ensures.records refl

pub returns-in-Same-clause-sums : goal.returns-in-Same-clause-sums
returns-in-Same-clause-sums c =
    let d = c.args.derived.now in
    count_same d.catalog d.book.exclusions d.book.rows d.sums d.sums
    c.requires.kept.3.sound.sums c.requires.kept.3.sound.sums

pub returns-in-Refused-clause-sums : goal.returns-in-Refused-clause-sums
returns-in-Refused-clause-sums c =
    let d = c.args.derived.now in
    count_same d.catalog d.book.exclusions d.book.rows d.sums d.sums
    c.requires.kept.3.sound.sums c.requires.kept.3.sound.sums

pub returns-in-NoMemory-clause-sums : goal.returns-in-NoMemory-clause-sums
returns-in-NoMemory-clause-sums c =
    let d = c.args.derived.now in
    count_same d.catalog d.book.exclusions d.book.rows d.sums d.sums
    c.requires.kept.3.sound.sums c.requires.kept.3.sound.sums

pub returns-in-Ok-clause-sums : goal.returns-in-Ok-clause-sums
returns-in-Ok-clause-sums c =
    count_stays c.args.derived.now c.make_ready.new.derived c.in-Ok.ensures.stays
    c.requires.kept.3.sound.sums

pub returns-in-Err-clause-sums : goal.returns-in-Err-clause-sums
returns-in-Err-clause-sums c =
    count_stays c.args.derived.now c.make_ready.new.derived c.in-Err.ensures.stays
    c.requires.kept.3.sound.sums

pub returns-in-Ok-clause-know : goal.returns-in-Ok-clause-know
returns-in-Ok-clause-know c =
    subst (AllKnow c.args.lines.now.kept) (sym c.in-Ok.ensures.lines) c.judge.ensures.know

pub returns-in-Err-clause-know : goal.returns-in-Err-clause-know
returns-in-Err-clause-know c =
    subst (AllKnow c.args.lines.now.kept) (sym c.in-Err.ensures.lines) c.judge.ensures.know
