-- What a session over a journal's file does.
use Rattle.std.specs.Prelude.{◌≡◌, ℕ, List, [], Option}
use Rattle.office_outside.specs.Disk.{All, IsQuiet, LeavesOnly}
use Rattle.office_outside.specs.Senses.{DiskSenses}
use Rattle.office_keep.specs.Files.{OfficeIsWhole, StandsFor}
use Rattle.office_keep.specs.Office.{OfficeOn, StandsSettled}
use Rattle.message_session.specs.Sessions.{EndsSo, SessionWorld}
use Rattle.message_session.specs.declared.SessionEnd.{SessionEnd}
use Rattle.office_counter.specs.Laws.{Extends, IsOwned}
use Rattle.office_session.specs.Messages.{AnswersMessage, refusal_text}
use Rattle.own_counter.specs.Own.{OwnAsks, OwnOn, own_on, standing_of}
use Rattle.own_counter.specs.Requests.{AddNoOther, turns_of}
use Rattle.own_counter.specs.Runs.{IsBetween}
use Rattle.office_keep.specs.Opening.{IsFoundOn, Opens}
use Rattle.journal_commands.specs.declared.serving.PipeEnd.{PipeEnd}
use Rattle.journal_commands.specs.declared.serving.PipeEnd.TheVariants.{Served, Unopened}

-- What a session speaks to beside its counter, at one moment: the bytes that its source has left,
-- its clock's readings to come, and the bytes that its sink holds.
pub record SessionOutside : Type 0 where
  pub left : Option (List ℕ)
  pub to_come : ℕ → Option ℕ
  pub held : Option (List ℕ)

abbrev pub session_outside : Option (List ℕ) → (ℕ → Option ℕ) → Option (List ℕ) → SessionOutside
session_outside left to_come held = record { left = left; to_come = to_come; held = held }

-- all that a session speaks to
abbrev pub with_counter : {H : Type 0} → SessionOutside → H → SessionWorld H
with_counter sides counter =
    record { left = sides.left; to_come = sides.to_come; handler = counter; held = sides.held }

-- A session over an office in which nothing is in doubt, asked of a counter that owns it: it ended
-- so. The history grew by entries that the session's messages ask for, and no other, and holds each
-- change that was acknowledged once. Each image of the disk
-- that is handed back stands for the last history, or for it with the one entry in doubt, and at
-- each moment a stop left a history between the first and the last, or one with one entry more.
pub record IsServed {D : Type 0} (S : DiskSenses D) (office : OfficeOn D) (end : SessionEnd)
    (old new : SessionOutside) (disk : D) : Type 0 where
  pub last : OwnOn D
  pub ends : EndsSo (AnswersMessage (OwnAsks S)) refusal_text end
      (with_counter old (own_on office [])) (with_counter new last)
  pub handed_back : disk ≡ last.kept.disk
  pub whole : OfficeIsWhole last.kept.office
  pub grows : Extends office.office last.kept.office
  pub no_other : AddNoOther (turns_of (AnswersMessage (OwnAsks S)) refusal_text
      end (with_counter old (own_on office [])) (with_counter new last) ends) office last.kept
  pub owned : IsOwned (standing_of S last)
  pub stood : All (StandsFor office.office) (S.images office.disk)
  pub stands : All (StandsSettled last.kept.office last.kept.doubt) (S.images disk)
  pub moments : LeavesOnly S office.disk disk (IsBetween office.office last.kept.office)

-- What each end says: a session was served over the office that was opened, or nothing was touched
-- but the disk, on which no image came up.
abbrev pub EndsServing : {D : Type 0} → DiskSenses D → PipeEnd → SessionOutside → SessionOutside → D
    → D → Type 0
EndsServing S (Served end) old new before after =
    Opens S (λ office. IsServed S office end old new after) before
EndsServing S (Unopened why) old new before after =
    IsFoundOn S why before × IsQuiet S before after × (new ≡ old)
