-- What the serving of a journal's file to visitors does.
use Rattle.std.specs.Prelude.{◌≡◌, ℕ, Result, Ok, Err}
use Rattle.office_outside.specs.Disk.{IsQuiet}
use Rattle.office_outside.specs.Senses.{DiskSenses}
use Rattle.office_keep.specs.Opening.{IsFoundOn, Opens}
use Rattle.office_keep.specs.declared.KeepFault.{KeepFault}
use Rattle.office_doors.specs.declared.Visit.{Visit}
use Rattle.office_serving.specs.Serving.{ServingWorld, IsServed}
use Rattle.office_serving.specs.Workers.{DeskSenses}
use Rattle.office_serving.specs.declared.ServeEnd.{ServeEnd}

-- What each end says: the office that was opened was served at the port; or no door was asked for,
-- `ready` was told nothing, and no image came up.
abbrev pub EndsServer : {D A I O C : Type 0} → DiskSenses D → DeskSenses A I O C → ℕ
    → Result ServeEnd KeepFault → ServingWorld A (Visit I O C) → ServingWorld A (Visit I O C) → D
    → D → Type 0
EndsServer S worker port (Ok end) old new before after =
    Opens S (λ office. IsServed S worker port office end old new after) before
EndsServer S worker port (Err why) old new before after =
    IsFoundOn S why before × IsQuiet S before after × (new ≡ old)
