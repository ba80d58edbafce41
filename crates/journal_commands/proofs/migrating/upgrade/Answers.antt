use Rattle.std.proofs.Common.{◌≡◌, ◌∙◌, ap, inl, refl, rules}
use Rattle.office_outside.proofs.Moments.{leaves_still}
use Rattle.journal_commands.specs.Migrating.{upgraded_line}
use Rattle.journal_commands.proofs.Sessions.{as_opened}
use Rattle.journal_commands.proofs.Upgrading.{told_made, told_no_disk, told_rose, told_there}
use Rattle.journal_commands.proofs.migrating.upgrade.Goals as goal

-- without memory for the line the office is left as it was opened
pub returns-in_default-clause-upgrades : goal.returns-in_default-clause-upgrades
returns-in_default-clause-upgrades g c =
    let office = c.args.office.now in
    let stood =
    as_opened g.D.Disk.senses office c.requires.none c.disk_stands.ensures.stands in
    record {
      ends = (stood, refl);
      stood = stood;
      moments = leaves_still {S = g.D.Disk.senses} g.met.D.Disk.only_now
          (λ file image. inl (stood file image));
    }

pub returns-in-Upgraded-clause-upgrades : goal.returns-in-Upgraded-clause-upgrades
returns-in-Upgraded-clause-upgrades g c =
    let office = c.args.office.now in
    let line : c.as_str.result.now ≡ upgraded_line c.length.result = search rules in
    record {
      ends =
          told_made g.D.Disk.senses office.office c.args.reading _ _ c.change-end.new.office.disk _
          _ c.change-end.result c.tell.result c.in-Upgraded.is
          (line ∙ ap upgraded_line c.length.ensures) c.change-end.ensures.ends c.tell.ensures.told;
      stood = as_opened g.D.Disk.senses office c.requires.none c.disk_stands.ensures.stands;
      moments = c.change-end.ensures.moments;
    }

pub returns-in-Already-clause-upgrades : goal.returns-in-Already-clause-upgrades
returns-in-Already-clause-upgrades g c =
    let office = c.args.office.now in
    record {
      ends =
          told_there g.D.Disk.senses office.office c.args.reading _ _ c.change-end.new.office.disk _
          _ c.change-end.result c.tell-in-Already.result c.in-Already.is refl
          c.change-end.ensures.ends c.tell-in-Already.ensures.told;
      stood = as_opened g.D.Disk.senses office c.requires.none c.disk_stands.ensures.stands;
      moments = c.change-end.ensures.moments;
    }

-- what the output tells, or failed to, is no fault of the disk
pub returns-in-Upgraded-clause-disk : goal.returns-in-Upgraded-clause-disk
returns-in-Upgraded-clause-disk g c failed =
    absurd (told_no_disk c.change-end.result c.tell.result _ _ _ (λ e. cc (c.in-Upgraded.is, e))
    c.tell.ensures.told failed)

pub returns-in-Already-clause-disk : goal.returns-in-Already-clause-disk
returns-in-Already-clause-disk g c failed =
    absurd (told_no_disk c.change-end.result c.tell-in-Already.result _ _ _
    (λ e. cc (c.in-Already.is, e)) c.tell-in-Already.ensures.told failed)

pub returns-in-Upgraded-clause-write : goal.returns-in-Upgraded-clause-write
returns-in-Upgraded-clause-write g c failed =
    told_rose c.change-end.result c.tell.result _ _ _ (λ e. cc (c.in-Upgraded.is, e))
    c.tell.ensures.told failed

pub returns-in-Already-clause-write : goal.returns-in-Already-clause-write
returns-in-Already-clause-write g c failed =
    told_rose c.change-end.result c.tell-in-Already.result _ _ _ (λ e. cc (c.in-Already.is, e))
    c.tell-in-Already.ensures.told failed
