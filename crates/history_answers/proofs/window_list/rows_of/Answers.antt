use Rattle.std.proofs.Common.{◌≤◌, ◌<◌, ◌∙◌, ℕ, List, Option, ap, arith, get_or}
use Rattle.std.proofs.Common.{length, refl, subst, sym}
use Rattle.record_form.specs.declared.BudgetRow.{BudgetRow}
use Rattle.office_history.specs.Answers.{budget_rows, counted_until}
use Rattle.kept_lines.specs.Sums.{samples_of}
use Rattle.history_answers.proofs.WindowLemmas.{open_at, row_more, row_to, rows_end}
use Rattle.history_answers.proofs.window_list.rows_of.Goals as goal

pub window_row-requires-clause-order : goal.window_row-requires-clause-order
window_row-requires-clause-order c =
    let starts = c.args.starts.now in
    let place = c.loop-place.place in
    let start : ℕ = get_or starts place 0 in
    let below : place < length starts = omega (arith, c.loop-place-test.true) in
    subst (λ (to : Option ℕ). start ≤ counted_until c.args.moment to) (sym c.end_at-end.ensures)
    (open_at c.args.moment starts c.args.next place start 0 below refl
    c.loop-place.invariant.begun).0

pub loop-place-preserved : goal.loop-place-preserved
loop-place-preserved c =
    let starts = c.args.starts.now in
    let place = c.loop-place.place in
    let start : ℕ = get_or starts place 0 in
    let below : place < length starts = omega (arith, c.loop-place-test.true) in
    let budgets : ℕ → Option ℕ → List BudgetRow = λ from to. budget_rows
    (samples_of c.args.derived.now.book) from (counted_until c.args.moment to) 0
    c.args.measures.now in
    record {
      rows = row_more budgets starts c.args.next place start 0 c.in_ok-row.row
          c.loop-place.rows.items c.push.new.self.items below refl
          (c.in_ok-row.ensures ∙ ap (row_to budgets start) c.end_at-end.ensures)
          c.in_ok-push.ensures.items c.loop-place.invariant.rows;
      begun = (open_at c.args.moment starts c.args.next place start 0 below refl
          c.loop-place.invariant.begun).1;
    }

pub returns : goal.returns
returns c =
    rows_end (λ from to. budget_rows (samples_of c.args.derived.now.book) from
    (counted_until c.args.moment to) 0 c.args.measures.now) c.args.starts.now c.args.next
    c.loop-place.place c.loop-place.rows.items
    (omega (arith, c.loop-place-test.false)) c.loop-place.invariant.rows
