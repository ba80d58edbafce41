use Rattle.std.proofs.Common.{◌++◌, All, List, ap, arith, length, subst, sym}
use Rattle.csv_records.specs.Records.{Fields, csv_records}
use Rattle.budget_command.specs.Records.{IsCounted}
use Rattle.budget_command.proofs.CurrentLemmas.{after-holds}
use Rattle.budget_command.proofs.TableLemmas.{so_far-behind, so_far-push, tallied-more}
use Rattle.budget_command.proofs.table.fill_records.Goals as goal

pub records-init : goal.records-init
records-init c =
    let records = csv_records c.args.part.now in
    record {
      so_far = λ before all.
          so_far-behind before records c.new-reader.result c.args.number c.args.table.now
          c.new-reader.ensures.records all;
      fit = c.requires.fit;
      tallied = c.requires.tallied;
      numbered = (let all = ap (λ (rs : List Fields). length rs) c.new-reader.ensures.records in
          omega arith);
    }

pub records-preserved : goal.records-preserved
records-preserved c =
    let records = csv_records c.args.part.now in
    let old = c.records.table in
    let new = c.take_record.new.self in
    let taken = c.in-Ok.ensures.taken in
    let row = taken.row in
    let is = rw c.in-Ok-true.field-0-test at c.in-Ok-true.ensures.reads in
    let after = taken.taken.rows in
    record {
      so_far = λ before all.
          so_far-push (before ++ records) c.records.reader c.records.next old new c.read.new.into
          c.read.new.self (c.records.invariant.so_far before all) is taken;
      fit = record {
        counted = subst (All IsCounted) (sym after)
            (after-holds IsCounted old.book.rows row c.records.invariant.fit.counted taken.counted);
        few = c.in-Ok.ensures.few;
      };
      tallied = (let more = tallied-more old new row taken.taken in
          let tallied = c.records.invariant.tallied in omega arith);
      numbered = (let fewer = ap (λ (rs : List Fields). length rs) is in
          let numbered = c.records.invariant.numbered in omega arith);
    }
