use Rattle.counters_command.proofs.UnderwayLemmas.{unread}
use Rattle.counters_command.proofs.running.write_rows.Goals as goal

pub returns-in-Err-NoMemory-clause-ends : goal.returns-in-Err-NoMemory-clause-ends
returns-in-Err-NoMemory-clause-ends g c = unread c.args.sli _ (g.K.Sink.held c.args.output.now)
