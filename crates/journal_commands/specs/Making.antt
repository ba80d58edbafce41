-- What the making of a journal does to the disk, to the clock and to the output.
use Rattle.std.specs.Prelude.{◌≡◌, ◌⊎◌, ◌<◌, ◌≤◌, ℕ, List, [], ◌∷◌, ◌++◌, codes, take}
use Rattle.std.specs.Prelude.{Option, Some, None}
use Rattle.std.specs.Fmt.{decimal}
use Rattle.office_outside.specs.Disk.{All, IsQuiet}
use Rattle.office_outside.specs.Told.{Gained, GainedPrefix}
use Rattle.office_outside.specs.Senses.{DiskSenses}
use Rattle.message_session.specs.Sessions.{Reads}
use Rattle.office_history.specs.History.{Office}
use Rattle.slo_journal.specs.Front.{HasNoHeader, IsHeader, IsMaking}
use Rattle.office_keep.specs.Files.{StandsFor}
use Rattle.journal_commands.specs.declared.making.InitEnd.{InitEnd}
use Rattle.journal_commands.specs.declared.making.InitEnd.TheVariants.{Done, OriginAboveClock}
use Rattle.journal_commands.specs.declared.making.InitEnd.TheVariants.{AlreadyThere, DiskFault}
use Rattle.journal_commands.specs.declared.making.InitEnd.TheVariants.{WriteFault, NoMemory}

-- The origin that was asked for, or else the clock's reading.
abbrev pub origin_by : Option ℕ → ℕ → ℕ
origin_by None reading = reading
origin_by (Some origin) reading = origin

-- The line that tells an origin.
abbrev pub origin_line : ℕ → List ℕ
origin_line origin = codes "origin " ++ (decimal origin ++ 10 ∷ [])

-- The office whose history begins at this minute and has no entries.
abbrev pub new_office : ℕ → Office
new_office origin = record { origin = origin; history = [] }

-- A header stands at the front of the file.
abbrev pub HasHeader : List ℕ → Type 0
HasHeader file = (origin : ℕ) × IsHeader origin (take 13 file)

-- The file had no header where the disk tells it, and each image now stands for the new office.
pub record IsMade {D : Type 0} (S : DiskSenses D) (origin : ℕ) (old new : D) : Type 0 where
  pub none_before : (file : List ℕ) → S.content old ≡ Some file → HasNoHeader file
  pub stands : All (StandsFor (new_office origin)) (S.images new)

-- A header stood in the file, where the disk tells it, and no image came up.
pub record IsThere {D : Type 0} (S : DiskSenses D) (old new : D) : Type 0 where
  pub header : (file : List ℕ) → S.content old ≡ Some file → HasHeader file
  pub quiet : IsQuiet S old new

-- What the making of a journal speaks to, at one moment: the disk, the clock's readings to come,
-- and the bytes that the output holds.
pub record JournalWorld (D : Type 0) : Type 0 where
  pub disk : D
  pub to_come : ℕ → Option ℕ
  pub held : Option (List ℕ)

abbrev pub journal_world : {D : Type 0} → D → (ℕ → Option ℕ) → Option (List ℕ) → JournalWorld D
journal_world disk to_come held = record { disk = disk; to_come = to_come; held = held }

-- What each end says, where the clock gave this reading. An origin above it is refused, and the
-- disk isn't touched. The output gains the origin's line, and nothing else.
abbrev pub EndsMaking : {D : Type 0} → DiskSenses D → ℕ → ℕ → InitEnd → JournalWorld D
    → JournalWorld D → Type 0
EndsMaking S origin reading Done old new =
    (origin ≤ reading) × IsMade S origin old.disk new.disk
    × Gained (origin_line origin) old.held new.held
EndsMaking S origin reading OriginAboveClock old new =
    (reading < origin) × (new.disk ≡ old.disk) × (new.held ≡ old.held)
EndsMaking S origin reading AlreadyThere old new =
    (origin ≤ reading) × IsThere S old.disk new.disk × (new.held ≡ old.held)
EndsMaking S origin reading DiskFault old new =
    (origin ≤ reading) × (new.held ≡ old.held)
EndsMaking S origin reading WriteFault old new =
    (origin ≤ reading) × IsMade S origin old.disk new.disk
    × GainedPrefix (origin_line origin) old.held new.held
EndsMaking S origin reading NoMemory old new =
    (origin ≤ reading) × (new.disk ≡ old.disk) × (new.held ≡ old.held)

-- No image came up; or the file had no header, and from some moment on each image has none, or
-- stands for the origin and no records.
abbrev pub QuietOrMaking : {D : Type 0} → DiskSenses D → ℕ → D → D → Type 0
QuietOrMaking S origin old new = IsQuiet S old new ⊎ IsMaking S origin old new

-- A journal is made, or not: the clock gave one reading, and by it and by how it ended this is so.
pub record Makes {D : Type 0} (S : DiskSenses D) (asked : Option ℕ) (end : InitEnd)
    (old new : JournalWorld D) : Type 0 where
  pub reading : ℕ
  pub reads : Reads reading old.to_come new.to_come
  pub ends : EndsMaking S (origin_by asked reading) reading end old new
  -- at each moment, however it ended; a journal that was there is left as it was
  pub moments : QuietOrMaking S (origin_by asked reading) old.disk new.disk
