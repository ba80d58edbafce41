-- What the statuses of `migrate` say.
use Rattle.std.proofs.Common.{◌≡◌, ℕ, List, arith, inl, inr}
use Rattle.std.specs.Prelude.{Option, Some}
use Rattle.office_outside.specs.Senses.{DiskSenses}
use Rattle.office_keep.specs.Opening.{IsBad, Opens}
use Rattle.office_keep.specs.Office.{OfficeOn}
use Rattle.journal_commands.specs.Making.{JournalWorld}
use Rattle.journal_commands.specs.Migrating.{EndsMigrating}
use Rattle.journal_commands.specs.declared.MigrateEnd.{MigrateEnd}
use Rattle.journal_commands.specs.declared.MigrateEnd.TheVariants.{Opened, Unopened}
use Rattle.journal_commands.specs.declared.UpgradeEnd.TheVariants as upgrade
use Rattle.journal_commands.proofs.Upgrading.{left_full, left_late, left_made, left_there}
use Rattle.office_run.specs.Migrate.{IsMigrated, IsUnmigrated, SettledMigrate}
use Rattle.office_run.specs.declared.ending.TheConstants.{BAD_FILE, DONE, REFUSED}
use Rattle.office_run.proofs.StatusLemmas.{unopened_bad, unopened_not_done}
use Rattle.office_run.proofs.StatusLemmas.{unopened_not_refused}

-- what is so of the office that was opened
module _ {D : Type 0} (S : DiskSenses D) where
  opens_more : (Is So : OfficeOn D → Type 0) (before : D) → ((o : OfficeOn D) → Is o → So o) →
      Opens S Is before → Opens S So before
  opens_more Is So before more opens = record {
    office = opens.office;
    opened = opens.opened;
    so = more opens.office opens.so;
  }

module _ {D : Type 0} (S : DiskSenses D) (reading status : ℕ)
    (old new : Option (List ℕ)) (before now : ℕ) (first last : JournalWorld D) where
  pub migrate_bad : (end : MigrateEnd) → SettledMigrate end status old new before now →
      EndsMigrating S reading end first last →
      status ≡ BAD_FILE → (file : List ℕ) → S.content first.disk ≡ Some file → IsBad file
  migrate_bad (Opened upgrade.Upgraded) s ends e file read = absurd (omega (arith, s.0, e))
  migrate_bad (Opened upgrade.Already) s ends e file read = absurd (omega (arith, s.0, e))
  migrate_bad (Opened upgrade.OutOfRange) s ends e file read = absurd (omega (arith, s.0, e))
  migrate_bad (Opened upgrade.JournalFull) s ends e file read = absurd (omega (arith, s.0, e))
  migrate_bad (Opened upgrade.DiskFault) s ends e file read = absurd (omega (arith, s.0, e))
  migrate_bad (Opened upgrade.WriteFault) s ends e file read = absurd (omega (arith, s.0, e))
  migrate_bad (Opened upgrade.NoMemory) s ends e file read = absurd (omega (arith, s.0, e))
  migrate_bad (Unopened why) s ends e file read =
      unopened_bad status old new before now S first.disk why s ends.0 e file read

  pub migrate_refused : (end : MigrateEnd) → SettledMigrate end status old new before now →
      EndsMigrating S reading end first last → status ≡ REFUSED →
      IsUnmigrated S reading first.held last.held first.disk last.disk
  migrate_refused (Opened upgrade.Upgraded) s ends e = absurd (omega (arith, s.0, e))
  migrate_refused (Opened upgrade.Already) s ends e = absurd (omega (arith, s.0, e))
  migrate_refused (Opened upgrade.OutOfRange) s ends e =
      opens_more S _ _ first.disk
      (λ office u. (inl u, left_late S reading first.held last.held last.disk office u)) ends
  migrate_refused (Opened upgrade.JournalFull) s ends e =
      opens_more S _ _ first.disk
      (λ office u. (inr u, left_full S reading first.held last.held last.disk office u)) ends
  migrate_refused (Opened upgrade.DiskFault) s ends e = absurd (omega (arith, s.0, e))
  migrate_refused (Opened upgrade.WriteFault) s ends e = absurd (omega (arith, s.0, e))
  migrate_refused (Opened upgrade.NoMemory) s ends e = absurd (omega (arith, s.0, e))
  migrate_refused (Unopened why) s ends e =
      absurd (unopened_not_refused status old new before now why s e)

  pub migrate_done : (end : MigrateEnd) → SettledMigrate end status old new before now →
      EndsMigrating S reading end first last → status ≡ DONE →
      IsMigrated S reading first.held last.held first.disk last.disk
  migrate_done (Opened upgrade.Upgraded) s ends e =
      opens_more S _ _ first.disk
      (λ office u. (inl u, left_made S reading first.held last.held last.disk office u)) ends
  migrate_done (Opened upgrade.Already) s ends e =
      opens_more S _ _ first.disk
      (λ office u. (inr u, left_there S reading first.held last.held last.disk office u)) ends
  migrate_done (Opened upgrade.OutOfRange) s ends e = absurd (omega (arith, s.0, e))
  migrate_done (Opened upgrade.JournalFull) s ends e = absurd (omega (arith, s.0, e))
  migrate_done (Opened upgrade.DiskFault) s ends e = absurd (omega (arith, s.0, e))
  migrate_done (Opened upgrade.WriteFault) s ends e = absurd (omega (arith, s.0, e))
  migrate_done (Opened upgrade.NoMemory) s ends e = absurd (omega (arith, s.0, e))
  migrate_done (Unopened why) s ends e =
      absurd (unopened_not_done status old new before now why s e)
