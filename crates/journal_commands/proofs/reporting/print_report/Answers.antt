use Rattle.std.proofs.Common.{refl, subst, sym}
use Rattle.office_outside.specs.Disk.{All, IsQuiet}
use Rattle.office_history.specs.History.{Office}
use Rattle.office_keep.specs.Files.{StandsFor}
use Rattle.journal_commands.specs.Making.{JournalWorld, journal_world}
use Rattle.journal_commands.specs.Reporting.{EndsOver}
use Rattle.journal_commands.proofs.Sessions.{as_opened}
use Rattle.journal_commands.proofs.reporting.print_report.Goals as goal

pub returns-in-Ok-clause-reports : goal.returns-in-Ok-clause-reports
returns-in-Ok-clause-reports g c =
    let D = g.D.Disk in
    let read = c.minute-reading in
    let printed = c.print_over-end in
    let office = c.in-Ok.office in
    let opened = c.in-Ok.ensures.opened in
    let given = c.give_back-core.ensures in
    let old : JournalWorld g.row.D.Denot =
    journal_world c.args.disk (g.C.Clock.to_come c.args.clock.now)
    (g.K.Sink.held c.args.output.now) in
    let new : JournalWorld g.row.D.Denot =
    journal_world c.give_back-core.result.1 (g.C.Clock.to_come read.new.self)
    (g.K.Sink.held printed.new.output) in
    let Over : Office → Type 0 = λ o.
    EndsOver c.args.at read.result printed.result old.held new.held o in
    let Quiet : g.row.D.Denot → Type 0 = λ disk. IsQuiet D.senses c.args.disk disk in
    let Stands : g.row.D.Denot → Type 0 = λ disk.
    All (StandsFor office.office) (D.senses.images disk) in
    record {
      reading = read.result;
      reads = record { first = read.ensures.first; later = read.ensures.rest };
      ends = record {
        office = office.office;
        whole = opened.whole;
        read = opened.read;
        stands = subst Stands (sym given.disk)
            (as_opened D.senses office opened.none c.disk_stands.ensures.stands);
        so = subst Over given.office printed.ensures.ends;
      };
      quiet = subst Quiet (sym given.disk) opened.quiet;
    }

pub returns-in-Err-clause-reports : goal.returns-in-Err-clause-reports
returns-in-Err-clause-reports g c =
    let read = c.minute-reading in
    record {
      reading = read.result;
      reads = record { first = read.ensures.first; later = read.ensures.rest };
      ends = (c.in-Err.ensures.found, refl);
      quiet = c.in-Err.ensures.quiet_err;
    }
