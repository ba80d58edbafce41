use Rattle.std.proofs.Common.{refl, subst, sym}
use Rattle.office_outside.specs.Disk.{All, IsQuiet}
use Rattle.office_history.specs.History.{Office}
use Rattle.office_export.specs.Export.{Exports}
use Rattle.office_keep.specs.Files.{StandsFor}
use Rattle.journal_commands.proofs.Sessions.{as_opened}
use Rattle.journal_commands.proofs.exporting.export_journal.Goals as goal

pub returns-in-Ok-clause-exports : goal.returns-in-Ok-clause-exports
returns-in-Ok-clause-exports g c =
    let D = g.D.Disk in
    let exported = c.export_over-end in
    let office = c.in-Ok.office in
    let opened = c.in-Ok.ensures.opened in
    let given = c.give_back-core.ensures in
    let Over : Office → Type 0 = λ o. Exports o c.args.part exported.result
    (g.K.Sink.held c.args.output.now) (g.K.Sink.held exported.new.output) in
    let Quiet : g.row.D.Denot → Type 0 = λ disk. IsQuiet D.senses c.args.disk disk in
    let Stands : g.row.D.Denot → Type 0 = λ disk.
    All (StandsFor office.office) (D.senses.images disk) in
    record {
      ends = record {
        office = office.office;
        whole = opened.whole;
        read = opened.read;
        stands = subst Stands (sym given.disk)
            (as_opened D.senses office opened.none c.disk_stands.ensures.stands);
        so = subst Over given.office exported.ensures.exports;
      };
      quiet = subst Quiet (sym given.disk) opened.quiet;
    }

pub returns-in-Err-clause-exports : goal.returns-in-Err-clause-exports
returns-in-Err-clause-exports g c = record {
  ends = (c.in-Err.ensures.found, refl);
  quiet = c.in-Err.ensures.quiet_err;
}
