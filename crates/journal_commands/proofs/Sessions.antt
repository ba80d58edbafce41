-- What a session leaves, from what its parts leave.
use Rattle.std.proofs.Common.{◌≡◌, ℕ, [], ap, subst, sym, ◌∙◌}
use Rattle.std.specs.Prelude.{Option, None}
use Rattle.office_outside.specs.Disk.{All, LeavesOnly}
use Rattle.office_outside.specs.Senses.{DiskSenses}
use Rattle.record_form.specs.declared.Entry.{Entry}
use Rattle.office_history.specs.History.{Office}
use Rattle.office_keep.specs.Files.{OfficeIsWhole, StandsFor}
use Rattle.office_keep.specs.Office.{OfficeOn, StandsSettled}
use Rattle.message_session.specs.Sessions.{EndsSo}
use Rattle.message_session.specs.declared.SessionEnd.{SessionEnd}
use Rattle.office_counter.specs.Laws.{Extends, IsOwned}
use Rattle.office_session.specs.Messages.{AnswersMessage, refusal_text}
use Rattle.own_counter.specs.Own.{OwnAsks, OwnOn, own_on, standing_of}
use Rattle.own_counter.specs.Requests.{AddNoOther, turns_of}
use Rattle.own_counter.specs.Runs.{IsBetween}
use Rattle.journal_commands.specs.Serving.{IsServed, SessionOutside, with_counter}

-- with nothing in doubt each image stands for the history
pub as_opened : {D : Type 0} (S : DiskSenses D) (office : OfficeOn D) →
    office.doubt ≡ None → All (StandsSettled office.office office.doubt) (S.images office.disk) →
    All (StandsFor office.office) (S.images office.disk)
as_opened S office none all = λ file image.
    let P : Option Entry → Type 0 = λ doubt. StandsSettled office.office doubt file in
    let s = subst P none (all file image) in
    let Q : Office → Type 0 = λ o. StandsFor o file in
    subst Q s.1 s.2

-- before its first change a counter has no places
pub none_owned : (o : Office) (faults : ℕ) →
    IsOwned (record { office = o; own = []; faults = faults })
none_owned o faults = record { rise = tt; within = tt }

-- the parts of a session that was served, put together
module _ {D : Type 0} (S : DiskSenses D) (office : OfficeOn D) (end : SessionEnd)
    (old new : SessionOutside) (disk : D) (last : OwnOn D) (back : OfficeOn D) where
  pub as_served :
      (ends : EndsSo (AnswersMessage (OwnAsks S)) refusal_text end
      (with_counter old (own_on office [])) (with_counter new last)) →
      AddNoOther (turns_of (AnswersMessage (OwnAsks S)) refusal_text end
      (with_counter old (own_on office [])) (with_counter new last) ends) office last.kept →
      back ≡ last.kept → disk ≡ back.disk → OfficeIsWhole back.office →
      Extends office.office last.kept.office → IsOwned (standing_of S last) →
      All (StandsFor office.office) (S.images office.disk) →
      All (StandsSettled back.office back.doubt) (S.images back.disk) →
      LeavesOnly S office.disk last.kept.disk (IsBetween office.office last.kept.office) →
      IsServed S office end old new disk
  as_served ends no_other given handed whole grows owned stood stands moments =
      let P : D → Type 0 = λ d.
      LeavesOnly S office.disk d (IsBetween office.office last.kept.office) in
      let Q : D → Type 0 = λ d.
      All (StandsSettled last.kept.office last.kept.doubt) (S.images d) in
      let R : OfficeOn D → Type 0 = λ o. OfficeIsWhole o.office in
      let T : OfficeOn D → Type 0 = λ o. All (StandsSettled o.office o.doubt) (S.images o.disk) in
      let is_back : disk ≡ last.kept.disk = handed ∙ ap (λ (o : OfficeOn D). o.disk) given in
      record {
        last = last;
        ends = ends;
        handed_back = is_back;
        whole = subst R given whole;
        grows = grows;
        no_other = no_other;
        owned = owned;
        stood = stood;
        stands = subst Q (sym is_back) (subst T given stands);
        moments = subst P (sym is_back) moments;
      }
