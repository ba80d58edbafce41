use Rattle.std.proofs.Common.{refl}
use Rattle.journal_commands.proofs.doors.serve_journal.Goals as goal

pub returns-in-Ok-clause-ends : goal.returns-in-Ok-clause-ends
returns-in-Ok-clause-ends g c =
    record {
      office = c.in-Ok.office;
      opened = c.in-Ok.ensures.opened;
      so = c.serve-end.ensures.served;
    }

pub returns-in-Err-clause-ends : goal.returns-in-Err-clause-ends
returns-in-Err-clause-ends g c = (c.in-Err.ensures.found, c.in-Err.ensures.quiet_err, refl)
