use Rattle.zone_calendar.proofs.AgreementLemmas.{table_of-agrees, table_of-refused}
use Rattle.zone_calendar.proofs.read.read_table.Goals as goal

pub returns-in-Ok-clause-ok : goal.returns-in-Ok-clause-ok
returns-in-Ok-clause-ok c =
    rw (c.in-Ok.ensures.value, c.of.ensures) (table_of-agrees c.in-Ok.table c.in-Ok.ensures.agrees)

pub returns-in-Err-clause-bad : goal.returns-in-Err-clause-bad
returns-in-Err-clause-bad c =
    λ bad. table_of-refused c.in-Err.error _ c.in-Err.ensures.err (c.fault_of.ensures (cc))
