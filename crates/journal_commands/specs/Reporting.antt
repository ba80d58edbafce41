-- What the printing of a report over a journal's file does.
use Rattle.std.specs.Prelude.{◌≡◌, ◌⊎◌, ◌<◌, ◌≤◌, ℕ, List, Option, Some, None}
use Rattle.office_outside.specs.Disk.{All, IsQuiet}
use Rattle.office_outside.specs.Told.{Gained, GainedPrefix}
use Rattle.office_outside.specs.Senses.{DiskSenses}
use Rattle.message_session.specs.Sessions.{Reads}
use Rattle.office_history.specs.History.{Office, end_of, moment_of}
use Rattle.office_keep.specs.Files.{OfficeIsWhole, StandsFor}
use Rattle.office_report.specs.Report.{IsReport}
use Rattle.journal_commands.specs.Making.{JournalWorld}
use Rattle.office_keep.specs.Opening.{IsFoundOn}
use Rattle.journal_commands.specs.declared.reporting.PrintEnd.{PrintEnd}
use Rattle.journal_commands.specs.declared.reporting.PrintEnd.TheVariants.{Done, OutOfRange}
use Rattle.journal_commands.specs.declared.reporting.PrintEnd.TheVariants.{WriteFault, NoMemory}
use Rattle.journal_commands.specs.declared.reporting.ReportEnd.{ReportEnd}
use Rattle.journal_commands.specs.declared.reporting.ReportEnd.TheVariants.{Opened, Unopened}

-- The minute that was asked for, or else the moment of what is read at the clock's reading.
abbrev pub minute_by : Option ℕ → Office → ℕ → ℕ
minute_by None o reading = moment_of o reading
minute_by (Some at) o reading = at

-- A report can be made at this minute: it isn't below the origin, isn't above the moment of what is
-- read at the clock's reading, and is below the end of the office's range.
pub record IsInRange (o : Office) (reading at : ℕ) : Type 0 where
  pub begun : o.origin ≤ at
  pub past : at ≤ moment_of o reading
  pub below : at < end_of o.origin

-- It can't: the minute is below the origin, above the moment, or not below the end.
abbrev pub IsOutOfRange : Office → ℕ → ℕ → Type 0
IsOutOfRange o reading at =
    (at < o.origin) ⊎ ((moment_of o reading < at) ⊎ (end_of o.origin ≤ at))

-- The output gained so much of the report over this office at the minute that was asked for.
pub record IsPrinted (Gains : List ℕ → Option (List ℕ) → Option (List ℕ) → Type 0)
    (asked : Option ℕ) (reading : ℕ) (old new : Option (List ℕ)) (o : Office) : Type 0 where
  pub in_range : IsInRange o reading (minute_by asked o reading)
  pub text : List ℕ
  pub exact : IsReport o (minute_by asked o reading) text
  pub gained : Gains text old new

-- The minute that was asked for is out of this office's range, and the output gained nothing.
pub record IsUnprinted (asked : Option ℕ) (reading : ℕ) (old new : Option (List ℕ)) (o : Office) :
    Type 0 where
  pub out_of_range : IsOutOfRange o reading (minute_by asked o reading)
  pub silent : new ≡ old

-- what each end of the printing says of the office that was opened
abbrev pub EndsOver : Option ℕ → ℕ → PrintEnd → Option (List ℕ) → Option (List ℕ) → Office → Type 0
EndsOver asked reading Done old new o = IsPrinted Gained asked reading old new o
EndsOver asked reading WriteFault old new o = IsPrinted GainedPrefix asked reading old new o
EndsOver asked reading OutOfRange old new o = IsUnprinted asked reading old new o
EndsOver asked reading NoMemory old new o = new ≡ old

-- The file was opened: where the disk tells it, it stands for an office that is whole, as does each
-- image of the disk that is handed back. Of this office this is so.
pub record OpensTo {D : Type 0} (S : DiskSenses D) (Is : Office → Type 0) (old new : D) :
    Type 0 where
  pub office : Office
  pub whole : OfficeIsWhole office
  pub read : (file : List ℕ) → S.content old ≡ Some file → StandsFor office file
  pub stands : All (StandsFor office) (S.images new)
  pub so : Is office

-- What each end says, where the clock gave this reading. Where the file wasn't opened, the output
-- gained nothing.
abbrev pub EndsReporting : {D : Type 0} → DiskSenses D → Option ℕ → ℕ → ReportEnd → JournalWorld D →
    JournalWorld D → Type 0
EndsReporting S asked reading (Opened end) old new =
    OpensTo S (EndsOver asked reading end old.held new.held) old.disk new.disk
EndsReporting S asked reading (Unopened why) old new =
    IsFoundOn S why old.disk × (new.held ≡ old.held)

-- A report is printed, or not: the clock gave one reading, and by it and by how it ended this is
-- so.
pub record Reports {D : Type 0} (S : DiskSenses D) (asked : Option ℕ) (end : ReportEnd)
    (old new : JournalWorld D) : Type 0 where
  pub reading : ℕ
  pub reads : Reads reading old.to_come new.to_come
  pub ends : EndsReporting S asked reading end old new
  -- no image came up, however it ended
  pub quiet : IsQuiet S old.disk new.disk
