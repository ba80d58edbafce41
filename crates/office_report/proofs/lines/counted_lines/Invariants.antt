use Rattle.std.proofs.Common.{◌≡◌, ◌++◌, drop, flat_map}
use Rattle.record_form.specs.declared.BudgetRow.{BudgetRow}
use Rattle.office_report.specs.Lines.{objective_lines, row_words}
use Rattle.office_report.proofs.lines.counted_lines.Given as goal

-- the lines so far and those of the rows that are left are those of all
abbrev pub invariant-loop-row : goal.invariant-loop-row
invariant-loop-row l =
    l.lines.items
    ++ flat_map
    (λ (row : BudgetRow). objective_lines l.states l.name row.objective (row_words row))
    (drop l.row-index l.rows)
    ≡ flat_map
    (λ (row : BudgetRow). objective_lines l.states l.name row.objective (row_words row)) l.rows
