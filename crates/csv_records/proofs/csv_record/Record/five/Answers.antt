use Rattle.std.proofs.Common.{◌∙◌, sym, ap}
use Rattle.csv_records.specs.Columns.{five_fields}
use Rattle.csv_records.proofs.Fields.{five_are}
use Rattle.csv_records.proofs.csv_record.Record.five.Goals as goal

pub returns-clause-fields : goal.returns-clause-fields
returns-clause-fields c =
    five_are _ _ _ _ _ _ (sym c.len.ensures ∙ c.if-len-ne5.false) c.in_ok-get.ensures
    c.in_ok-get-2.ensures c.in_ok-get-3.ensures c.in_ok-get-4.ensures c.in_ok-get-5.ensures

pub returns-clause-five : goal.returns-clause-five
returns-clause-five c = sym (ap five_fields (returns-clause-fields c))
