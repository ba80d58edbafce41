use Rattle.std.proofs.Common.{sym, ap, ◌∙◌, subst, Ok, Option, List, ℕ}
use Rattle.office_outside.specs.Disk.{LeavesOnly}
use Rattle.record_form.specs.Records.{record_of}
use Rattle.office_history.specs.History.{Office}
use Rattle.slo_journal.specs.Keeping.{WithOrWithout}
use Rattle.office_keep.specs.Adopting.{AdoptsTo}
use Rattle.office_keep.specs.declared.adopting.Adopted.{Adopted}
use Rattle.office_keep.specs.Files.{records}
use Rattle.office_keep.specs.Steps.{KeepsOffice, Writes, entry_in}
use Rattle.office_keep.proofs.Adoptions.{adopts, blames, prepared_as, undoubted, unwritten, writing}
use Rattle.office_keep.proofs.Offices.{kept_of}
use Rattle.office_keep.proofs.adopting.adopt.Goals as goal

pub keep-outcome-requires-clause-kept : goal.keep-outcome-requires-clause-kept
keep-outcome-requires-clause-kept g c =
    let u = undoubted g.D.Disk.senses c.args.core.now c.args.doubt.now c.args.journal.now
    c.requires.kept c.requires.none in
    subst (λ (o : Office). KeepsOffice g.D.Disk.senses o c.args.journal.now)
    (sym c.judge_entry.ensures.office) u.1

pub keep-outcome-requires-clause-none : goal.keep-outcome-requires-clause-none
keep-outcome-requires-clause-none g c =
    let u = undoubted g.D.Disk.senses c.args.core.now c.args.doubt.now c.args.journal.now
    c.requires.kept c.requires.none in
    u.0

pub keep-outcome-requires-clause-pending : goal.keep-outcome-requires-clause-pending
keep-outcome-requires-clause-pending g c =
    let p = prepared_as c.args.core.now.office c.args.entry.now c.judge_entry.new.core.pending _ _
    c.in-Ok-Some.field-0-is c.in-Ok-Some.ensures.prepared in
    (c.args.entry.now, p.is_pending, p.spelled)

pub returns-in-Ok-Some-clause-ended : goal.returns-in-Ok-Some-clause-ended
returns-in-Ok-Some-clause-ended g c =
    let p = prepared_as c.args.core.now.office c.args.entry.now c.judge_entry.new.core.pending _ _
    c.in-Ok-Some.field-0-is c.in-Ok-Some.ensures.prepared in
    let w = subst (λ (o : Office). Writes o c.args.entry.now c.keep-outcome.result.0
    c.keep-outcome.result.1 c.keep-outcome.new.core.office
    (entry_in c.keep-outcome.new.doubt c.keep-outcome.new.core.pending))
    c.judge_entry.ensures.office (c.keep-outcome.ensures.ended c.args.entry.now p.is_pending) in
    subst (λ (a : Adopted). AdoptsTo c.args.core.now.office c.args.entry.now a
    c.keep-outcome.new.core.office
    (entry_in c.keep-outcome.new.doubt c.keep-outcome.new.core.pending))
    (sym c.adopted_by-adopted.ensures)
    (adopts c.args.core.now.office c.args.entry.now _ _ _ _ p.follows w)

pub returns-in-Ok-Some-clause-any_moment : goal.returns-in-Ok-Some-clause-any_moment
returns-in-Ok-Some-clause-any_moment g c =
    let p = prepared_as c.args.core.now.office c.args.entry.now c.judge_entry.new.core.pending _ _
    c.in-Ok-Some.field-0-is c.in-Ok-Some.ensures.prepared in
    writing g.D.Disk.senses c.args.core.now.office c.args.entry.now _ _ p.follows
    (subst (λ (o : Office). LeavesOnly g.D.Disk.senses c.args.journal.now.disk
    c.keep-outcome.new.journal.disk
    (WithOrWithout o.origin (records o.history) (record_of c.args.entry.now)))
    c.judge_entry.ensures.office
    (c.keep-outcome.ensures.any_moment c.args.entry.now p.is_pending))

pub returns-in-Ok-Some-clause-cause : goal.returns-in-Ok-Some-clause-cause
returns-in-Ok-Some-clause-cause g c =
    let p = prepared_as c.args.core.now.office c.args.entry.now c.judge_entry.new.core.pending _ _
    c.in-Ok-Some.field-0-is c.in-Ok-Some.ensures.prepared in
    let w = subst (λ (o : Office). Writes o c.args.entry.now c.keep-outcome.result.0
    c.keep-outcome.result.1 c.keep-outcome.new.core.office
    (entry_in c.keep-outcome.new.doubt c.keep-outcome.new.core.pending))
    c.judge_entry.ensures.office (c.keep-outcome.ensures.ended c.args.entry.now p.is_pending) in
    record {
      later = c.keep-outcome.ensures.cause.later;
      rose = λ is. c.keep-outcome.ensures.cause.rose
          (blames c.args.core.now.office c.args.entry.now _ _ _ _ w
          (sym c.adopted_by-adopted.ensures ∙ is));
    }

pub returns-in-Ok-None-clause-kept : goal.returns-in-Ok-None-clause-kept
returns-in-Ok-None-clause-kept g c =
    let u = undoubted g.D.Disk.senses c.args.core.now c.args.doubt.now c.args.journal.now
    c.requires.kept c.requires.none in
    kept_of g.D.Disk.senses _ _ _ _ u.0 c.judge_entry.ensures.office u.1

pub returns-in-Ok-None-clause-ended : goal.returns-in-Ok-None-clause-ended
returns-in-Ok-None-clause-ended g c =
    let u = undoubted g.D.Disk.senses c.args.core.now c.args.doubt.now c.args.journal.now
    c.requires.kept c.requires.none in (
      c.judge_entry.ensures.illegal (c.in-Ok-None.is ∙ ap Ok c.in-Ok-None.field-0-is),
      record {
        office = c.judge_entry.ensures.office;
        none = ap (λ (d : Option (List ℕ)). entry_in d c.judge_entry.new.core.pending) u.0;
      },
    )

pub returns-in-Ok-None-clause-any_moment : goal.returns-in-Ok-None-clause-any_moment
returns-in-Ok-None-clause-any_moment g c =
    let u = undoubted g.D.Disk.senses c.args.core.now c.args.doubt.now c.args.journal.now
    c.requires.kept c.requires.none in
    unwritten g.D.Disk.senses g.met.D.Disk.only_now c.args.core.now.office c.args.entry.now
    c.args.journal.now u.1

pub returns-in-Err-clause-kept : goal.returns-in-Err-clause-kept
returns-in-Err-clause-kept g c =
    let u = undoubted g.D.Disk.senses c.args.core.now c.args.doubt.now c.args.journal.now
    c.requires.kept c.requires.none in
    kept_of g.D.Disk.senses _ _ _ _ u.0 c.judge_entry.ensures.office u.1

pub returns-in-Err-clause-ended : goal.returns-in-Err-clause-ended
returns-in-Err-clause-ended g c =
    let u = undoubted g.D.Disk.senses c.args.core.now c.args.doubt.now c.args.journal.now
    c.requires.kept c.requires.none in
    record {
      office = c.judge_entry.ensures.office;
      none = ap (λ (d : Option (List ℕ)). entry_in d c.judge_entry.new.core.pending) u.0;
    }

pub returns-in-Err-clause-any_moment : goal.returns-in-Err-clause-any_moment
returns-in-Err-clause-any_moment g c =
    let u = undoubted g.D.Disk.senses c.args.core.now c.args.doubt.now c.args.journal.now
    c.requires.kept c.requires.none in
    unwritten g.D.Disk.senses g.met.D.Disk.only_now c.args.core.now.office c.args.entry.now
    c.args.journal.now u.1
