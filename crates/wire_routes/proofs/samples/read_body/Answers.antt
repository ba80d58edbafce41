use Rattle.std.proofs.Common.{◌≡◌, List, Ok, Result, arith, refl, subst, sym, ℕ, ◌∙◌}
use Rattle.std.specs.Prelude.{OnOk}
use Rattle.csv_records.specs.Records.{csv_records}
use Rattle.csv_records.proofs.Counts.{csv_records-few}
use Rattle.sample_book.specs.declared.row.Row.{Row}
use Rattle.wire_routes.proofs.RowLemmas.{none_so_far, other_err}
use Rattle.wire_routes.proofs.samples.read_body.Goals as goal

pub read_records-requires : goal.read_records-requires
read_records-requires c =
    omega (arith, csv_records-few c.args.body.now, c.requires.short)

pub returns-then-not-begins_as_line : goal.returns-then-not-begins_as_line
returns-then-not-begins_as_line c =
    let records = csv_records c.args.body.now in
    let same = none_so_far c.args.rows.now records records c.requires.none refl in
    record {
      ok = subst (λ (all : Result (List Row) ℕ). OnOk c.read_records.result
          (all ≡ Ok c.read_records.new.rows)) same c.read_records.ensures.ok;
      fault = λ number e. sym same ∙ c.read_records.ensures.fault number e;
    }

pub returns-in-Err-clause-fault : goal.returns-in-Err-clause-fault
returns-in-Err-clause-fault c = λ number e.
    c.in-Err.ensures.fault number (other_err c.in-Err.fault _ e)
