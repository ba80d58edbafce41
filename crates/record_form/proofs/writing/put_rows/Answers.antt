use Rattle.std.proofs.Common.{◌++◌, [], length, subst}
use Rattle.std.proofs.lemmas.List.{take_all}
use Rattle.std.specs.Int.{w16}
use Rattle.std.specs.List.{AllByRecursion}
use Rattle.record_form.specs.Form.{number}
use Rattle.record_form.specs.Records.{row}
use Rattle.record_form.specs.Ranges.{FitsRow}
use Rattle.record_form.proofs.RecordLemmas.{row_exact}
use Rattle.record_form.proofs.LoopLemmas.{wrote_one, fits_one, rows_written}
use Rattle.record_form.proofs.writing.put_rows.Goals as goal

pub returns-clause-bytes : goal.returns-clause-bytes
returns-clause-bytes c = rows_written c.args.out.now.items c.loop-row.out.items c.args.rows.now
    c.loop-row.row-index c.loop-row-test.false c.loop-row.invariant.bytes

pub returns-clause-fits : goal.returns-clause-fits
returns-clause-fits c = (
  c.requires.0,
  subst (AllByRecursion FitsRow)
      (take_all c.loop-row.row-index c.args.rows.now c.loop-row-test.false)
      c.loop-row.invariant.fits,
)

pub loop-row-preserved : goal.loop-row-preserved
loop-row-preserved c = record {
  bytes = wrote_one row row_exact.front
      (c.args.out.now.items ++ (number w16).write (length c.args.rows.now) []) c.args.rows.now
      c.loop-row.row-index c.row-item.result c.loop-row.out.items c.put_row.new.out.items
      c.loop-row-test.true c.row-item.is c.loop-row.invariant.bytes c.in_ok-put_row.ensures.bytes;
  fits = fits_one FitsRow c.args.rows.now c.loop-row.row-index c.row-item.result
      c.loop-row-test.true c.row-item.is c.loop-row.invariant.fits c.in_ok-put_row.ensures.fits;
}
