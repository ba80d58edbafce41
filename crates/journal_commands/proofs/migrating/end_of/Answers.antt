use Rattle.journal_commands.proofs.Upgrading.{no_other}
use Rattle.journal_commands.proofs.migrating.end_of.Goals as goal

pub unreachable-requires : goal.unreachable-requires
unreachable-requires c =
    no_other c.args.outcome.now c.requires c.in_default.not-Changed c.in_default.not-ClockRange
    c.in_default.not-JournalFull c.in_default.not-DiskFault c.in_default.not-NoMemory
