-- What the statuses of `serve` say.
use Rattle.std.proofs.Common.{◌≡◌, ℕ, List, arith}
use Rattle.std.specs.Prelude.{Option, Some, Result, Ok, Err}
use Rattle.office_keep.specs.Opening.{IsBad, Opens}
use Rattle.office_keep.specs.declared.KeepFault.{KeepFault}
use Rattle.office_doors.specs.declared.Visit.{Visit}
use Rattle.office_serving.specs.Serving.{ServingWorld, IsServed}
use Rattle.office_serving.specs.Workers.{DeskSenses}
use Rattle.office_serving.specs.declared.ServeEnd.{ServeEnd}
use Rattle.office_serving.specs.declared.ServeEnd.TheVariants as serving
use Rattle.journal_commands.specs.Doors.{EndsServer}
use Rattle.office_run.specs.Serve.{SettledServer, SettledServing}
use Rattle.office_run.specs.declared.ending.TheConstants.{BAD_FILE, DONE, REFUSED}
use Rattle.office_run.proofs.StatusLemmas.{unopened_bad, unopened_not_done}
use Rattle.office_run.proofs.StatusLemmas.{unopened_not_refused}
use Rattle.office_outside.specs.Senses.{DiskSenses}

module _ (status : ℕ) (said said_after : Option (List ℕ)) (tellings tellings_after : ℕ) where
  serving_bad : (end : ServeEnd) →
      SettledServing end status said said_after tellings tellings_after → status ≡ BAD_FILE → ⊥
  serving_bad serving.Done s e = omega (arith, s.0, e)
  serving_bad serving.WriteFault s e = omega (arith, s.0, e)
  serving_bad serving.DoorsFault s e = omega (arith, s.0, e)
  serving_bad serving.NoMemory s e = omega (arith, s.0, e)

  pub server_unrefused : (end : Result ServeEnd KeepFault) →
      SettledServer end status said said_after tellings tellings_after → status ≡ REFUSED → ⊥
  server_unrefused (Ok serving.Done) s e = omega (arith, s.0, e)
  server_unrefused (Ok serving.WriteFault) s e = omega (arith, s.0, e)
  server_unrefused (Ok serving.DoorsFault) s e = omega (arith, s.0, e)
  server_unrefused (Ok serving.NoMemory) s e = omega (arith, s.0, e)
  server_unrefused (Err why) s e =
      unopened_not_refused status said said_after tellings tellings_after why s e

module _ {D A I O C : Type 0} (S : DiskSenses D) (worker : DeskSenses A I O C) (port status : ℕ)
    (said said_after : Option (List ℕ)) (tellings tellings_after : ℕ)
    (old new : ServingWorld A (Visit I O C)) (before after : D) where
  pub server_bad : (end : Result ServeEnd KeepFault) →
      SettledServer end status said said_after tellings tellings_after →
      EndsServer S worker port end old new before after →
      status ≡ BAD_FILE → (file : List ℕ) → S.content before ≡ Some file → IsBad file
  server_bad (Ok end) s ends e file read =
      absurd (serving_bad status said said_after tellings tellings_after end s e)
  server_bad (Err why) s ends e file read =
      unopened_bad status said said_after tellings tellings_after S before why s ends.0 e file read

  pub server_done : (end : Result ServeEnd KeepFault) →
      SettledServer end status said said_after tellings tellings_after →
      EndsServer S worker port end old new before after → status ≡ DONE →
      Opens S (λ office. IsServed S worker port office serving.Done old new after) before
  server_done (Ok serving.Done) s ends e = ends
  server_done (Ok serving.WriteFault) s ends e = absurd (omega (arith, s.0, e))
  server_done (Ok serving.DoorsFault) s ends e = absurd (omega (arith, s.0, e))
  server_done (Ok serving.NoMemory) s ends e = absurd (omega (arith, s.0, e))
  server_done (Err why) s ends e =
      absurd (unopened_not_done status said said_after tellings tellings_after why s e)
