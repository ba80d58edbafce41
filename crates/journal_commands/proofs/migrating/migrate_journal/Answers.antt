use Rattle.std.proofs.Common.{refl, subst, sym}
use Rattle.journal_commands.specs.Migrating.{Upgrades}
use Rattle.journal_commands.proofs.migrating.migrate_journal.Goals as goal

pub returns-in-Ok-clause-migrates : goal.returns-in-Ok-clause-migrates
returns-in-Ok-clause-migrates g c =
    let read = c.minute-reading in
    let end = c.upgrade-end in
    record {
      reading = read.result;
      reads = record { first = read.ensures.first; later = read.ensures.rest };
      ends = record {
        office = c.in-Ok.office;
        opened = c.in-Ok.ensures.opened;
        so =
            subst (λ (disk : g.row.D.Denot). Upgrades g.D.Disk.senses read.result end.result
            (g.K.Sink.held c.args.output.now) (g.K.Sink.held end.new.output) disk c.in-Ok.office)
            (sym c.into_disk.ensures) end.ensures.upgrades;
      };
    }

pub returns-in-Err-clause-migrates : goal.returns-in-Err-clause-migrates
returns-in-Err-clause-migrates g c =
    let read = c.minute-reading in
    record {
      reading = read.result;
      reads = record { first = read.ensures.first; later = read.ensures.rest };
      ends = (c.in-Err.ensures.found, c.in-Err.ensures.quiet_err, refl);
    }
