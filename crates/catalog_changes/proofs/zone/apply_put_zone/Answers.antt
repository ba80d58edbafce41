use Rattle.catalog_changes.proofs.ChangeLemmas.{zone_reflects, zone_sound}
use Rattle.catalog_changes.proofs.zone.apply_put_zone.Goals as goal

pub returns-clause-reflects : goal.returns-clause-reflects
returns-clause-reflects c o next = zone_reflects c.args.derived.now o c.args.moment c.args.name
    c.args.bytes c.args.zone c.push.new.self next c.push.ensures.kept

pub returns-clause-sound : goal.returns-clause-sound
returns-clause-sound c =
    zone_sound c.args.derived.now c.requires.next.0 c.args.moment c.args.name c.args.bytes
    c.args.zone c.push.new.self c.requires.sound c.requires.next.1
