-- What the upgrade of the office in a journal's file does to the disk, to the clock and to the
-- output.
use Rattle.std.specs.Prelude.{◌≡◌, ◌⊎◌, ℕ, List, [], ◌∷◌, ◌++◌, codes, length, true}
use Rattle.std.specs.Prelude.{Option, Some, None}
use Rattle.std.specs.Fmt.{decimal}
use Rattle.office_outside.specs.Disk.{All, IsQuiet, LeavesOnly}
use Rattle.office_outside.specs.Told.{Gained, GainedPrefix}
use Rattle.office_outside.specs.Senses.{DiskSenses}
use Rattle.message_session.specs.Sessions.{Reads}
use Rattle.record_form.specs.declared.Command.TheVariants.{Upgrade}
use Rattle.record_form.specs.declared.Entry.{Entry}
use Rattle.record_form.specs.declared.Outcome.{Outcome}
use Rattle.record_form.specs.declared.Outcome.TheVariants as outcomes
use Rattle.record_form.specs.declared.Request.TheVariants.{Change}
use Rattle.office_history.specs.History.{Office, end_of, moment_of, tail_of}
use Rattle.office_history.specs.Versions.{is_upgraded}
use Rattle.office_counter.specs.Steps.{Comes, needed_for, with_made}
use Rattle.office_keep.specs.Files.{StandsFor}
use Rattle.office_keep.specs.Office.{IsTimely, OfficeOn, WithOrWithout, entry_at}
use Rattle.office_keep.specs.Opening.{IsFoundOn, Opens}
use Rattle.journal_commands.specs.Making.{JournalWorld}
use Rattle.journal_commands.specs.declared.migrating.UpgradeEnd.{UpgradeEnd}
use Rattle.journal_commands.specs.declared.migrating.UpgradeEnd.TheVariants.{Upgraded, Already}
use Rattle.journal_commands.specs.declared.migrating.UpgradeEnd.TheVariants.{OutOfRange}
use Rattle.journal_commands.specs.declared.migrating.UpgradeEnd.TheVariants.{JournalFull}
use Rattle.journal_commands.specs.declared.migrating.UpgradeEnd.TheVariants.{DiskFault}
use Rattle.journal_commands.specs.declared.migrating.UpgradeEnd.TheVariants.{WriteFault, NoMemory}
use Rattle.journal_commands.specs.declared.migrating.MigrateEnd.{MigrateEnd}
use Rattle.journal_commands.specs.declared.migrating.MigrateEnd.TheVariants.{Opened, Unopened}

-- The line that tells where the upgrade stands in the history.
abbrev pub upgraded_line : ℕ → List ℕ
upgraded_line entry = codes "upgraded " ++ (decimal entry ++ 10 ∷ [])

-- The line for an office that was upgraded before.
abbrev pub already_line : List ℕ
already_line = codes "already upgraded\n"

-- The upgrade, asked for at this reading of the clock, came to this outcome over the office and
-- made this entry, or none; and each image of the disk stands for the office with it.
pub record CameTo {D : Type 0} (S : DiskSenses D) (o : Office) (reading : ℕ) (outcome : Outcome)
    (made : Option Entry) (disk : D) : Type 0 where
  pub comes : Comes o reading (Change Upgrade) outcome made
  pub stands : All (StandsFor (with_made o made)) (S.images disk)

-- What each end of the change says, whatever is told of it. Where the disk failed, each image
-- stands for the office, or for it with the upgrade; where memory was refused, for the office.
abbrev pub EndsChange : {D : Type 0} → DiskSenses D → Office → ℕ → UpgradeEnd → D → Type 0
EndsChange S o reading Upgraded disk =
    CameTo S o reading (outcomes.Changed (Some (length o.history)))
    (Some (entry_at o reading Upgrade)) disk
EndsChange S o reading Already disk = CameTo S o reading (outcomes.Changed None) None disk
EndsChange S o reading OutOfRange disk =
    CameTo S o reading (outcomes.ClockRange (end_of o.origin) (moment_of o reading)) None disk
EndsChange S o reading JournalFull disk =
    CameTo S o reading
    (outcomes.JournalFull (needed_for o (entry_at o reading Upgrade)) (tail_of o.history)) None disk
EndsChange S o reading DiskFault disk =
    IsTimely o reading × All (WithOrWithout o reading Upgrade) (S.images disk)
EndsChange S o reading WriteFault disk = ⊥
EndsChange S o reading NoMemory disk = All (StandsFor o) (S.images disk)

-- how an upgrade ends that came to this outcome, before it is told; it comes to no other
abbrev pub end_by : Outcome → Option UpgradeEnd
end_by (outcomes.Changed (Some entry)) = Some Upgraded
end_by (outcomes.Changed None) = Some Already
end_by (outcomes.ClockRange end moment) = Some OutOfRange
end_by (outcomes.JournalFull needed tail) = Some JournalFull
end_by outcomes.DiskFault = Some DiskFault
end_by outcomes.NoMemory = Some NoMemory
end_by _ = None

-- What each end of the upgrade says. The output gained the line of an office that is upgraded, now
-- or before, and nothing else; where it failed, a prefix of this line.
abbrev pub EndsUpgrade : {D : Type 0} → DiskSenses D → Office → ℕ → UpgradeEnd
    → Option (List ℕ) → Option (List ℕ) → D → Type 0
EndsUpgrade S o reading Upgraded old new disk =
    EndsChange S o reading Upgraded disk × Gained (upgraded_line (length o.history)) old new
EndsUpgrade S o reading Already old new disk =
    EndsChange S o reading Already disk × Gained already_line old new
EndsUpgrade S o reading OutOfRange old new disk =
    EndsChange S o reading OutOfRange disk × (new ≡ old)
EndsUpgrade S o reading JournalFull old new disk =
    EndsChange S o reading JournalFull disk × (new ≡ old)
EndsUpgrade S o reading DiskFault old new disk =
    EndsChange S o reading DiskFault disk × (new ≡ old)
EndsUpgrade S o reading WriteFault old new disk =
    (EndsChange S o reading Upgraded disk × GainedPrefix (upgraded_line (length o.history)) old new)
    ⊎ (EndsChange S o reading Already disk × GainedPrefix already_line old new)
EndsUpgrade S o reading NoMemory old new disk = EndsChange S o reading NoMemory disk × (new ≡ old)

-- The upgrade of an office that was opened ended so. At each moment since then a stop left the
-- office, or it with the upgrade.
pub record Upgrades {D : Type 0} (S : DiskSenses D) (reading : ℕ) (end : UpgradeEnd)
    (held held_after : Option (List ℕ)) (after : D) (office : OfficeOn D) : Type 0 where
  pub ends : EndsUpgrade S office.office reading end held held_after after
  pub stood : All (StandsFor office.office) (S.images office.disk)
  pub moments : LeavesOnly S office.disk after (WithOrWithout office.office reading Upgrade)

-- What each end says, where the clock gave this reading. Where the file wasn't opened, the output
-- gained nothing, and no image came up.
abbrev pub EndsMigrating : {D : Type 0} → DiskSenses D → ℕ → MigrateEnd → JournalWorld D
    → JournalWorld D → Type 0
EndsMigrating S reading (Opened end) old new =
    Opens S (Upgrades S reading end old.held new.held new.disk) old.disk
EndsMigrating S reading (Unopened why) old new =
    IsFoundOn S why old.disk × IsQuiet S old.disk new.disk × (new.held ≡ old.held)

-- A journal's office is upgraded, or not: the clock gave one reading, and by it and by how it ended
-- this is so.
pub record Migrates {D : Type 0} (S : DiskSenses D) (end : MigrateEnd) (old new : JournalWorld D) :
    Type 0 where
  pub reading : ℕ
  pub reads : Reads reading old.to_come new.to_come
  pub ends : EndsMigrating S reading end old new

-- Each image of the disk stands for one office, which is upgraded: the one that was opened, or it
-- with the upgrade.
pub record IsLeftUpgraded {D : Type 0} (S : DiskSenses D) (after : D) (office : OfficeOn D) :
    Type 0 where
  pub made : Option Entry
  pub upgraded : is_upgraded (with_made office.office made).history ≡ true
  pub stands : All (StandsFor (with_made office.office made)) (S.images after)

-- No entry was made: each image of the disk stands for the office that was opened.
abbrev pub IsLeftAsItWas : {D : Type 0} → DiskSenses D → D → OfficeOn D → Type 0
IsLeftAsItWas S after office = All (StandsFor office.office) (S.images after)
