use Rattle.std.proofs.Common.{◌≡◌, Err, sym, ◌∙◌, ap, refl, rules}
use Rattle.record_form.specs.Records.{record_of}
use Rattle.slo_journal.specs.declared.AppendFault.TheVariants.{InDoubt, JournalFull, NotKept}
use Rattle.office_keep.proofs.Blame.{no_disk_fault}
use Rattle.office_keep.proofs.Offices.{appended, keeps_more, kept_of}
use Rattle.office_keep.proofs.Writing.{adds, as_record, fills, full_known, none_in, same_pending}
use Rattle.office_keep.proofs.steps.keep.Goals as goal

pub returns-in-Ok-appended-clause-kept : goal.returns-in-Ok-appended-clause-kept
returns-in-Ok-appended-clause-kept g c =
    let e = c.requires.pending.0 in
    let same : c.in-Ok.frame ≡ record_of e =
    c.in-Ok.ensures ∙ c.bytes.ensures ∙ c.requires.pending.2 in
    kept_of g.D.Disk.senses _ _ _ _ c.requires.none (c.commit.ensures.office e c.requires.pending.1)
    (keeps_more g.D.Disk.senses _ e _
    (appended g.D.Disk.senses _ _ _ _ _ _ same c.in-Ok-appended.is
    (c.append-appended.ensures.leaves _ _ c.requires.kept)))

pub returns-in-Ok-appended-clause-ended : goal.returns-in-Ok-appended-clause-ended
returns-in-Ok-appended-clause-ended g c e pending =
    let which = same_pending _ _ e c.requires.pending.1 pending in
    let same : c.in-Ok.frame ≡ record_of e =
    c.in-Ok.ensures ∙ c.bytes.ensures ∙ c.requires.pending.2 ∙ ap record_of which in
    adds _ e _ c.in-Ok.frame c.requires.kept.tail same _ _ _ _ c.in-Ok-appended.ensures.full
    (c.commit.ensures.outcome e pending) c.length-place.ensures (c.commit.ensures.office e pending)
    (none_in _ _ c.requires.none)

pub returns-in-Ok-appended-clause-any_moment : goal.returns-in-Ok-appended-clause-any_moment
returns-in-Ok-appended-clause-any_moment g c e pending =
    let which = same_pending _ _ e c.requires.pending.1 pending in
    let same : c.in-Ok.frame ≡ record_of e =
    c.in-Ok.ensures ∙ c.bytes.ensures ∙ c.requires.pending.2 ∙ ap record_of which in
    as_record same (c.append-appended.ensures.any_moment _ _ c.requires.kept)

pub returns-in-Ok-appended-clause-cause : goal.returns-in-Ok-appended-clause-cause
returns-in-Ok-appended-clause-cause g c = record {
  later = c.append-appended.ensures.cause.later;
  rose = λ failed. absurd (no_disk_fault c.args.core.now.office
      c.requires.pending.0.moment c.requires.pending.0.command
      (sym (c.commit.ensures.outcome _ c.requires.pending.1) ∙ failed));
}

pub returns-in-Err-JournalFull-clause-ended : goal.returns-in-Err-JournalFull-clause-ended
returns-in-Err-JournalFull-clause-ended g c e pending =
    let which = same_pending _ _ e c.requires.pending.1 pending in
    let same : c.in-Ok.frame ≡ record_of e =
    c.in-Ok.ensures ∙ c.bytes.ensures ∙ c.requires.pending.2 ∙ ap record_of which in
    let is : c.append-appended.result ≡ Err
    (JournalFull c.in-Err-JournalFull.tail c.in-Err-JournalFull.needed) = search rules in
    let full = full_known _ _ _ _ is c.append-appended.ensures.full in
    fills _ e _ c.in-Ok.frame c.requires.kept.tail same _ _ _ _ full.0 full.1 full.2 refl
    (none_in _ _ c.requires.none)

pub returns-in-Err-NotKept-clause-kept : goal.returns-in-Err-NotKept-clause-kept
returns-in-Err-NotKept-clause-kept g c =
    let e = c.requires.pending.0 in
    let same : c.in-Ok.frame ≡ record_of e =
    c.in-Ok.ensures ∙ c.bytes.ensures ∙ c.requires.pending.2 in
    let is : c.append-appended.result ≡ Err NotKept = search rules in
    kept_of g.D.Disk.senses _ _ _ _ c.requires.none refl
    (appended g.D.Disk.senses _ _ _ _ _ _ same is
    (c.append-appended.ensures.leaves _ _ c.requires.kept))

pub returns-in-Err-NotKept-clause-any_moment : goal.returns-in-Err-NotKept-clause-any_moment
returns-in-Err-NotKept-clause-any_moment g c e pending =
    let which = same_pending _ _ e c.requires.pending.1 pending in
    let same : c.in-Ok.frame ≡ record_of e =
    c.in-Ok.ensures ∙ c.bytes.ensures ∙ c.requires.pending.2 ∙ ap record_of which in
    as_record same (c.append-appended.ensures.any_moment _ _ c.requires.kept)

pub returns-in-Err-InDoubt-clause-kept : goal.returns-in-Err-InDoubt-clause-kept
returns-in-Err-InDoubt-clause-kept g c =
    let e = c.requires.pending.0 in
    let same : c.in-Ok.frame ≡ record_of e =
    c.in-Ok.ensures ∙ c.bytes.ensures ∙ c.requires.pending.2 in
    let is : c.append-appended.result ≡ Err InDoubt = search rules in
    record {
      entry = e;
      pending = c.requires.pending.1;
      spelled = c.requires.pending.2;
      doubts = appended g.D.Disk.senses _ _ _ _ _ _ same is
          (c.append-appended.ensures.leaves _ _ c.requires.kept);
    }

pub returns-in-Err-InDoubt-clause-any_moment : goal.returns-in-Err-InDoubt-clause-any_moment
returns-in-Err-InDoubt-clause-any_moment g c e pending =
    let which = same_pending _ _ e c.requires.pending.1 pending in
    let same : c.in-Ok.frame ≡ record_of e =
    c.in-Ok.ensures ∙ c.bytes.ensures ∙ c.requires.pending.2 ∙ ap record_of which in
    as_record same (c.append-appended.ensures.any_moment _ _ c.requires.kept)
