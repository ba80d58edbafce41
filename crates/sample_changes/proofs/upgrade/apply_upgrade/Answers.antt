use Rattle.std.proofs.Common.{arith}
use Rattle.sample_changes.proofs.Upgrades.{upgrade_entries, upgrade_reflected, upgrade_sound}
use Rattle.sample_changes.proofs.upgrade.apply_upgrade.Goals as goal

pub returns-clause-reflects : goal.returns-clause-reflects
returns-clause-reflects c o next = upgrade_reflected c.args.derived.now o c.args.moment next

pub returns-clause-sound : goal.returns-clause-sound
returns-clause-sound c = upgrade_sound c.args.derived.now c.requires.next.0 c.args.moment
    c.requires.sound c.requires.next.1
