use Rattle.std.proofs.Common.{ap, arith, length, List, true, subst}
use Rattle.csv_records.specs.Records.{Fields, Takes, csv_records}
use Rattle.wire_routes.specs.RowByRow.{Adds, rows_behind, rows_from}
use Rattle.wire_routes.specs.Samples.{row_of}
use Rattle.wire_routes.proofs.RowLemmas.{one_more}
use Rattle.wire_routes.proofs.samples.read_records.Goals as goal

pub records-init : goal.records-init
records-init c =
    let all = c.new-reader.ensures.records in
    record {
      so_far = ap (λ (rs : List Fields). rows_behind c.args.rows.now (rows_from c.args.number rs))
          all;
      few = (let as_many = ap (λ (rs : List Fields). length rs) all in omega (arith, as_many));
    }

pub records-preserved : goal.records-preserved
records-preserved c =
    let taken : Takes true c.records.reader c.read.new.into c.read.new.self =
    subst (λ b. Takes b c.records.reader c.read.new.into c.read.new.self) c.if-branch.true
    c.in_ok-read.ensures.reads in
    let added : Adds true (row_of c.read.new.into) c.records.rows c.add_row.new.rows =
    subst (λ b. Adds b (row_of c.read.new.into) c.records.rows c.add_row.new.rows)
    c.if-not-branch.false c.in_ok-add_row.ensures in
    record {
      so_far = one_more c.records.rows c.add_row.new.rows c.records.next c.records.reader
          c.read.new.into c.read.new.self
          (rows_behind c.args.rows.now (rows_from c.args.number (csv_records c.args.text.now)))
          c.records.invariant.so_far taken added;
      few = (let fewer = ap (λ (rs : List Fields). length rs) taken in
          let few = c.records.invariant.few in omega arith);
    }
