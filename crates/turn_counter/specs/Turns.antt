-- What one asking in a turn does.
use Rattle.std.specs.Prelude.{◌≡◌, ℕ, ◌≤◌, ◌++◌, Option}
use Rattle.slo_limits.specs.declared.TheConstants.{MAX_MINUTE}
use Rattle.turn_desk.specs.Ledgers.{has_risen, left_in_doubt}
use Rattle.turn_desk.specs.Passes.{PassState, faults_after}
use Rattle.office_outside.specs.Disk.{All, LeavesOnly}
use Rattle.office_outside.specs.Senses.{DiskSenses}
use Rattle.record_form.specs.declared.Outcome.{Outcome}
use Rattle.record_form.specs.declared.Request.{Request}
use Rattle.office_counter.specs.Laws.{Extends}
use Rattle.office_keep.specs.Files.{OfficeIsWhole}
use Rattle.office_keep.specs.Office.{IsBlamed, LeavesBy, OfficeOn, Performs, SettlesBy}
use Rattle.office_keep.specs.Office.{StandsSettled}
use Rattle.own_counter.specs.Own.{places_with}
use Rattle.turn_counter.specs.Seen.{ledger_of, office_seen}

-- a request, and the reading of the clock for it
pub record Asked : Type 0 where
  pub reading : ℕ
  pub request : Request

-- What the office does in a turn, from the office that was taken out to the one that is put back:
-- how the request ended, what a stop may leave before the turn, at each moment in it and after it,
-- and when the disk is blamed.
pub record Acts {D : Type 0} (S : DiskSenses D) (old : OfficeOn D) (reading : ℕ) (request : Request)
    (outcome : Outcome) (place : Option ℕ) (new : OfficeOn D) : Type 0 where
  pub ended : Performs old reading request outcome place new
  pub stood : All (StandsSettled old.office old.doubt) (S.images old.disk)
  pub any_moment : LeavesOnly S old.disk new.disk (LeavesBy old reading request new)
  pub stands : All (StandsSettled new.office new.doubt) (S.images new.disk)
  pub after_settling : SettlesBy S old reading request new
  pub cause : IsBlamed (S.faults old.disk) (S.faults new.disk) outcome
  pub origin : old.office.origin ≤ MAX_MINUTE
  pub was_whole : OfficeIsWhole old.office
  pub whole : OfficeIsWhole new.office

-- One asking by a pass. The office that was taken out goes on from what the pass had seen, and the
-- pass has then seen the office that was put back. The place of the entry that the request added
-- joins the pass's own, and so does what it left in doubt. The pass counts the turn as a fault
-- exactly where the disk's count rose. What it stands for stays.
pub record TurnAsks {D : Type 0} (S : DiskSenses D) (old : PassState) (reading : ℕ)
    (request : Request) (outcome : Outcome) (new : PassState) : Type 0 where
  pub taken : OfficeOn D
  pub put : OfficeOn D
  pub place : Option ℕ
  pub goes_on : Extends (office_seen old) taken.office
  pub acts : Acts S taken reading request outcome place put
  pub seen : office_seen new ≡ put.office
  pub own : new.own ≡ places_with place old.own
  pub raised : new.raised
      ≡ old.raised ++ left_in_doubt (ledger_of S taken) (ledger_of S put)
  pub counted : new.faults ≡ faults_after old.faults
      (has_risen (S.faults taken.disk) (S.faults put.disk))
  pub desk : new.desk ≡ old.desk
  pub root : new.root ≡ old.root
  pub opening : new.opening ≡ old.opening
  pub parts : new.parts ≡ old.parts
  pub has_split : new.has_split ≡ old.has_split
