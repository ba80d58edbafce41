-- How `migrate` ends, in statuses and lines, and what its statuses say.
use Rattle.std.specs.Prelude.{◌≡◌, ◌⊎◌, ℕ, List, Option, codes}
use Rattle.office_outside.specs.Senses.{DiskSenses}
use Rattle.office_keep.specs.Opening.{Opens}
use Rattle.journal_commands.specs.Migrating.{IsLeftAsItWas, IsLeftUpgraded, Upgrades}
use Rattle.journal_commands.specs.declared.UpgradeEnd.{UpgradeEnd}
use Rattle.journal_commands.specs.declared.UpgradeEnd.TheVariants as upgrade
use Rattle.journal_commands.specs.declared.MigrateEnd.{MigrateEnd}
use Rattle.journal_commands.specs.declared.MigrateEnd.TheVariants.{Opened, Unopened}
use Rattle.office_run.specs.Runs.{EndsSaying, EndsWith}
use Rattle.office_run.specs.Unopened.{SettledUnopened}
use Rattle.office_run.specs.declared.ending.TheConstants as statuses

-- The line for a clock whose moment isn't below the end of the office's range.
abbrev pub out_of_range_line : List ℕ
out_of_range_line = codes "slo_office: clock out of range\n"

-- The line for a journal without room.
abbrev pub journal_full_line : List ℕ
journal_full_line = codes "slo_office: journal full\n"

-- Each end of the upgrade has its status, and the faults sink tells its line; where the office is
-- upgraded, now or before, it tells nothing.
abbrev pub SettledUpgrade : UpgradeEnd → ℕ → Option (List ℕ) → Option (List ℕ) → ℕ → ℕ → Type 0
SettledUpgrade upgrade.Upgraded status old new before now = (status ≡ statuses.DONE) × (new ≡ old)
SettledUpgrade upgrade.Already status old new before now = (status ≡ statuses.DONE) × (new ≡ old)
SettledUpgrade upgrade.OutOfRange status old new before now =
    EndsSaying statuses.REFUSED out_of_range_line status old new before now
SettledUpgrade upgrade.JournalFull status old new before now =
    EndsSaying statuses.REFUSED journal_full_line status old new before now
SettledUpgrade upgrade.DiskFault status old new before now =
    EndsWith statuses.DISK_FAULT status old new before now
SettledUpgrade upgrade.WriteFault status old new before now =
    EndsWith statuses.WRITE_FAULT status old new before now
SettledUpgrade upgrade.NoMemory status old new before now =
    EndsWith statuses.NO_MEMORY status old new before now

-- The upgrade of an office that was opened ends so, and a journal that wasn't opened so.
abbrev pub SettledMigrate : MigrateEnd → ℕ → Option (List ℕ) → Option (List ℕ) → ℕ → ℕ → Type 0
SettledMigrate (Opened end) status old new before now = SettledUpgrade end status old new before now
SettledMigrate (Unopened why) status old new before now =
    SettledUnopened why status old new before now

-- The office that was opened was upgraded, or had been before, and the output tells which. Each
-- image of the disk stands for one office, which is upgraded.
abbrev pub IsMigrated : {D : Type 0} → DiskSenses D → ℕ → Option (List ℕ) → Option (List ℕ) → D → D
    → Type 0
IsMigrated S reading held held_after before after = Opens S (λ office.
    (Upgrades S reading upgrade.Upgraded held held_after after office
    ⊎ Upgrades S reading upgrade.Already held held_after after office)
    × IsLeftUpgraded S after office) before

-- The moment wasn't below the end of the range of the office that was opened, or its journal had no
-- room. Each image of the disk stands for the office as it was.
abbrev pub IsUnmigrated : {D : Type 0} → DiskSenses D → ℕ → Option (List ℕ) → Option (List ℕ) → D
    → D → Type 0
IsUnmigrated S reading held held_after before after = Opens S (λ office.
    (Upgrades S reading upgrade.OutOfRange held held_after after office
    ⊎ Upgrades S reading upgrade.JournalFull held held_after after office)
    × IsLeftAsItWas S after office) before
