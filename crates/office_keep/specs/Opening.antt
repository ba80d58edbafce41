-- What the opening of a journal's file finds.
use Rattle.std.specs.Prelude.{◌≡◌, ◌⊎◌, ℕ, List, Some, None}
use Rattle.office_outside.specs.Disk.{IsQuiet, OnlyAsRead}
use Rattle.office_outside.specs.Senses.{DiskSenses}
use Rattle.slo_journal.specs.Front.{HasNoHeader}
use Rattle.office_keep.specs.Files.{IsDamagedAt, OfficeIsWhole, StandsFor}
use Rattle.office_keep.specs.Office.{OfficeOn}
use Rattle.office_keep.specs.declared.fault.KeepFault.{KeepFault}
use Rattle.office_keep.specs.declared.fault.KeepFault.TheVariants.{AlreadyThere, NotAJournal}
use Rattle.office_keep.specs.declared.fault.KeepFault.TheVariants.{Damaged, DiskFault, NoMemory}

-- The file has no header, or is damaged at some place.
abbrev pub IsBad : List ℕ → Type 0
IsBad file = HasNoHeader file ⊎ ((at : ℕ) × IsDamagedAt at file)

-- So the file on this disk, which isn't opened, was found to be, where the disk tells it. That a
-- journal stands there already is no reason.
abbrev pub IsFoundOn : {D : Type 0} → DiskSenses D → KeepFault → D → Type 0
IsFoundOn S NotAJournal disk = (file : List ℕ) → S.content disk ≡ Some file → HasNoHeader file
IsFoundOn S (Damaged at) disk =
    (file : List ℕ) → S.content disk ≡ Some file → IsDamagedAt at file
IsFoundOn S DiskFault disk = Unit {0}
IsFoundOn S NoMemory disk = Unit {0}
IsFoundOn S AlreadyThere disk = ⊥

-- The file was opened: where the disk tells it, it stands for this office, which is whole, with
-- nothing in doubt. No image came up till then, and a stop leaves just what was read.
pub record IsOpened {D : Type 0} (S : DiskSenses D) (before : D) (office : OfficeOn D) :
    Type 0 where
  pub none : office.doubt ≡ None
  pub whole : OfficeIsWhole office.office
  pub read : (file : List ℕ) → S.content before ≡ Some file → StandsFor office.office file
  pub quiet : IsQuiet S before office.disk
  pub only : OnlyAsRead (S.content before) (S.images office.disk)

-- The file was opened, and of the office over it this is so.
pub record Opens {D : Type 0} (S : DiskSenses D) (Is : OfficeOn D → Type 0) (before : D) :
    Type 0 where
  pub office : OfficeOn D
  pub opened : IsOpened S before office
  pub so : Is office
