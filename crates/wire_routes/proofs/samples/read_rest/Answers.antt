use Rattle.std.proofs.Common.{◌≡◌, List, Ok, Result, ap, arith, length, subst, sym, ℕ, ◌∙◌}
use Rattle.std.specs.Prelude.{OnOk}
use Rattle.csv_records.specs.Records.{Fields}
use Rattle.sample_book.specs.declared.row.Row.{Row}
use Rattle.wire_routes.proofs.RowLemmas.{lines_all, lines_then}
use Rattle.wire_routes.proofs.samples.read_rest.Goals as goal

pub read_records-requires : goal.read_records-requires
read_records-requires c =
    let as_many = ap (λ (rs : List Fields). length rs) c.in-Some.ensures.some in
    omega (arith, as_many, c.requires.lines.few, c.requires.short)

pub returns-in-Some : goal.returns-in-Some
returns-in-Some c =
    let same = lines_then c.args.body.now c.args.end.number c.args.end.at c.args.rows.now
    c.in-Some.rest.now c.requires.lines c.in-Some.ensures.some in
    record {
      ok = subst (λ (all : Result (List Row) ℕ). OnOk c.read_records.result
          (all ≡ Ok c.read_records.new.rows)) same c.read_records.ensures.ok;
      fault = λ number e. sym same ∙ c.read_records.ensures.fault number e;
    }

pub returns-in-None-clause-ok : goal.returns-in-None-clause-ok
returns-in-None-clause-ok c =
    lines_all c.args.body.now c.args.end.number c.args.end.at c.args.rows.now c.requires.lines
    c.in-None.ensures.none
