use Rattle.std.proofs.Common.{sym}
use Rattle.csv.specs.Reading.{default_config, strip_bom}
use Rattle.csv_records.proofs.Counts.{csv_records-few}
use Rattle.csv_records.proofs.Rest.{all_left}
use Rattle.csv_records.proofs.reader.RecordReader.new.Goals as goal

pub returns-clause-records : goal.returns-clause-records
returns-clause-records c =
    let made = c.from_reader-text.ensures in
    rw (made.state, made.source) (sym (all_left default_config (strip_bom c.args.text.now)))

pub returns-clause-few : goal.returns-clause-few
returns-clause-few c = rw (returns-clause-records c) (csv_records-few c.args.text.now)
