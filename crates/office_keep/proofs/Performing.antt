-- A request by its kind.
use Rattle.std.proofs.Common.{◌≡◌, ◌⊎◌, inl, ℕ, List, Option, ⊎_elim, refl, sym, subst, arith}
use Rattle.office_outside.specs.Disk.{LeavesOnly}
use Rattle.office_outside.specs.Senses.{DiskSenses}
use Rattle.record_form.specs.declared.Command.{Command}
use Rattle.record_form.specs.declared.Outcome.{Outcome}
use Rattle.record_form.specs.declared.Outcome.TheVariants.{NoMemory}
use Rattle.record_form.specs.declared.Query.{Query}
use Rattle.record_form.specs.declared.Request.{Request}
use Rattle.record_form.specs.declared.Request.TheVariants.{Ask, Change}
use Rattle.office_history.specs.Answers.{Answers}
use Rattle.office_history.specs.History.{Office}
use Rattle.office_keep.specs.Office.{Changes, IsBlamed, Leaves, LeavesBy, OfficeOn, Performs}
use Rattle.office_keep.specs.Office.{SettlesBy, StandsSettled, unsettled}
use Rattle.office_keep.proofs.Blame.{answer_no_fault}
use Rattle.office_outside.proofs.Moments.{quiet_still}

-- what stood there is among what a stop may leave
pub stays_by : {D : Type 0} (old new : OfficeOn D) (reading : ℕ) (request : Request)
    (file : List ℕ) → StandsSettled old.office old.doubt file →
    LeavesBy old reading request new file
stays_by old new reading (Ask query) file stood = stood
stays_by old new reading (Change command) file stood = unsettled stood

-- where nothing is done nothing is settled
pub settles_nothing : {D : Type 0} (S : DiskSenses D) (o : OfficeOn D) (reading : ℕ)
    (request : Request) → SettlesBy S o reading request o
settles_nothing S o reading (Ask query) = refl
settles_nothing S o reading (Change command) =
    inl (record { office = refl; doubt = refl }, quiet_still)

pub settles_change : {D : Type 0} (S : DiskSenses D) (old new : OfficeOn D) (reading : ℕ)
    (request : Request) (command : Command) → request ≡ Change command →
    SettlesBy S old reading (Change command) new → SettlesBy S old reading request new
settles_change S old new reading request command is settles =
    subst (λ (r : Request). SettlesBy S old reading r new) (sym is) settles

pub performs_change : {D : Type 0} (old new : OfficeOn D) (reading : ℕ) (request : Request)
    (command : Command) (outcome : Outcome) (place : Option ℕ) → request ≡ Change command →
    Changes old reading command outcome place new → Performs old reading request outcome place new
performs_change old new reading request command outcome place is changes =
    subst (λ (r : Request). Performs old reading r outcome place new) (sym is) changes

pub leaves_change : {D : Type 0} {S : DiskSenses D} (old new : OfficeOn D) (reading : ℕ)
    (request : Request) (command : Command) → request ≡ Change command →
    LeavesOnly S old.disk new.disk (Leaves old reading command new) →
    LeavesOnly S old.disk new.disk (LeavesBy old reading request new)
leaves_change {S} old new reading request command is leaves =
    subst (λ (r : Request). LeavesOnly S old.disk new.disk (LeavesBy old reading r new))
    (sym is) leaves

-- an answer blames no disk
pub answers_blame_none : (before : ℕ) (o : Office) (moment : ℕ) (query : Query)
    (outcome : Outcome) → Answers o moment query outcome ⊎ (outcome ≡ NoMemory) →
    IsBlamed before before outcome
answers_blame_none before o moment query outcome told = record {
  later = omega arith;
  rose = λ failed. absurd (⊎_elim
      (λ answer. answer_no_fault o moment query outcome answer failed)
      (λ lack. cc (lack, failed))
      told);
}
