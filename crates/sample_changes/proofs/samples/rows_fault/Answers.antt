use Rattle.std.proofs.Common.{◌≡◌, ◌+◌, ◌++◌, ap, sym, ◌∙◌, arith, length, true, false, Some}
use Rattle.record_form.specs.declared.Refusal.{Refusal}
use Rattle.sample_book.specs.History.{is_put}
use Rattle.sample_book.specs.Puts.{verdicts}
use Rattle.sample_book.specs.Rows.{current_rows}
use Rattle.office_history.specs.Batches.{batch_fault, count, objective_days}
use Rattle.office_derived.specs.Tallies.{tally_of}
use Rattle.sample_changes.proofs.Judged.{batch_cells, batch_clean, batch_taken}
use Rattle.sample_changes.proofs.Judged.{days_decide, over_cells, over_taken}
use Rattle.sample_changes.proofs.Tallies.{verdicts_each}
use Rattle.sample_changes.proofs.samples.rows_fault.Goals as goal

pub batch_fault-requires-clause-each : goal.batch_fault-requires-clause-each
batch_fault-requires-clause-each c = ap length c.requires.judged
    ∙ verdicts_each c.args.derived.now.book.rows c.args.rows.now

pub returns-then-cell_limit-cells : goal.returns-then-cell_limit-cells
returns-then-cell_limit-cells c =
    let a = c.args in
    let d = a.derived.now in
    let tally : a.tally ≡ tally_of (verdicts d.book.rows a.rows.now) = c.requires.counted
    ∙ ap tally_of c.requires.judged in
    ap (λ (refusal : Refusal). Some refusal) c.limit.ensures
    ∙ over_cells d.upgraded (batch_fault d.upgraded d.origin a.moment d.catalog d.book.rows
    a.rows.now)
    (length (current_rows (d.book.rows ++ a.rows.now)))
    (d.accepted + count is_put (verdicts d.book.rows a.rows.now))
    (objective_days d.catalog (current_rows (d.book.rows ++ a.rows.now)))
    (batch_clean d.upgraded d.origin a.moment d.catalog d.book.rows a.rows.now a.verdicts.now
    c.batch_fault.result c.requires.judged c.batch_fault.ensures c.in-None.is)
    (omega (
      arith,
      batch_cells d.book.rows a.rows.now a.tally c.rows_are_current.ensures tally,
      c.cells.ensures,
      c.cell_limit.ensures.most,
      c.if-cell_limit-cells.true,
    ))

pub returns-then-row_limit-derived : goal.returns-then-row_limit-derived
returns-then-row_limit-derived c =
    let a = c.args in
    let d = a.derived.now in
    let tally : a.tally ≡ tally_of (verdicts d.book.rows a.rows.now) = c.requires.counted
    ∙ ap tally_of c.requires.judged in
    ap (λ (refusal : Refusal). Some refusal) c.limit-then-row_limit-derived.ensures
    ∙ over_taken d.upgraded (batch_fault d.upgraded d.origin a.moment d.catalog d.book.rows
    a.rows.now)
    (length (current_rows (d.book.rows ++ a.rows.now)))
    (d.accepted + count is_put (verdicts d.book.rows a.rows.now))
    (objective_days d.catalog (current_rows (d.book.rows ++ a.rows.now)))
    (batch_clean d.upgraded d.origin a.moment d.catalog d.book.rows a.rows.now a.verdicts.now
    c.batch_fault.result c.requires.judged c.batch_fault.ensures c.in-None.is)
    (omega (
      arith,
      batch_cells d.book.rows a.rows.now a.tally c.rows_are_current.ensures tally,
      c.cells.ensures,
      c.cell_limit.ensures.most,
      c.if-cell_limit-cells.false,
    ))
    (omega (
      arith,
      batch_taken d.accepted d.book.rows a.rows.now a.tally tally,
      c.row_limit.ensures.most,
      c.if-row_limit-derived.true,
    ))

pub returns-then-passes : goal.returns-then-passes
returns-then-passes c =
    ap (λ (refusal : Refusal). Some refusal) c.limit-then-passes.ensures
    ∙ days_decide c.args.derived.now c.args.moment c.args.rows.now c.args.verdicts.now c.args.tally
    c.batch_fault.result true c.requires.judged c.requires.counted c.rows_are_current.ensures
    c.batch_fault.ensures c.in-None.is
    (omega (
      arith,
      c.cells.ensures,
      c.cell_limit.ensures.most,
      c.if-cell_limit-cells.false,
    ))
    (omega (arith, c.row_limit.ensures.most, c.if-row_limit-derived.false))
    (sym c.in_ok-passes.ensures ∙ c.if-passes.true)

pub returns : goal.returns
returns c =
    days_decide c.args.derived.now c.args.moment c.args.rows.now c.args.verdicts.now c.args.tally
    c.batch_fault.result false c.requires.judged c.requires.counted c.rows_are_current.ensures
    c.batch_fault.ensures c.in-None.is
    (omega (
      arith,
      c.cells.ensures,
      c.cell_limit.ensures.most,
      c.if-cell_limit-cells.false,
    ))
    (omega (arith, c.row_limit.ensures.most, c.if-row_limit-derived.false))
    (sym c.in_ok-passes.ensures ∙ c.if-passes.false)
