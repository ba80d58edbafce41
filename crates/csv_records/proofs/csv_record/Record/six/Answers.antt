use Rattle.std.proofs.Common.{◌∙◌, sym, ap}
use Rattle.csv_records.specs.Columns.{six_fields}
use Rattle.csv_records.proofs.Fields.{six_are}
use Rattle.csv_records.proofs.csv_record.Record.six.Goals as goal

pub returns-clause-fields : goal.returns-clause-fields
returns-clause-fields c =
    six_are _ _ _ _ _ _ _ (sym c.len.ensures ∙ c.if-len-ne6.false) c.in_ok-get.ensures
    c.in_ok-get-2.ensures c.in_ok-get-3.ensures c.in_ok-get-4.ensures c.in_ok-get-5.ensures
    c.in_ok-get-6.ensures

pub returns-clause-six : goal.returns-clause-six
returns-clause-six c = sym (ap six_fields (returns-clause-fields c))
