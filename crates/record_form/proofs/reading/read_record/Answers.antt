use Rattle.std.proofs.Common.{arith}
use Rattle.record_form.proofs.HistoryLemmas.{each_record, entry_in_range, if_record}
use Rattle.record_form.proofs.reading.read_record.Goals as goal

pub returns-clause-record : goal.returns-clause-record
returns-clause-record c = λ e. if_record c.args.bytes.now e c.read_whole.result
    (λ i. omega (arith, c.type_inv.bytes i)) c.read_whole.ensures

pub returns-clause-each_record : goal.returns-clause-each_record
returns-clause-each_record c =
    λ e is. each_record c.args.bytes.now e c.read_whole.result is c.read_whole.ensures

pub returns-clause-in_range : goal.returns-clause-in_range
returns-clause-in_range c = entry_in_range c.args.bytes.now c.read_whole.result
    (λ i. omega (arith, c.type_inv.bytes i)) c.read_whole.ensures
