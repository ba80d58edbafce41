use Rattle.std.proofs.Common.{◌≡◌, ◌∙◌, List, [], ◌++◌, nat_lt, IfOk, ap, subst, rules, append-nil}
use Rattle.slo_limits.specs.declared.TheConstants.{MAX_DAYS}
use Rattle.sample_book.specs.declared.Row.{Row}
use Rattle.sample_book.specs.Rows.{current_rows}
use Rattle.office_history.specs.Batches.{objective_days}
use Rattle.catalog_changes.proofs.days.passes_days.Goals as goal

pub returns : goal.returns
returns c =
    let rows : List Row = c.args.derived.now.book.rows in
    let current : current_rows rows ≡ rows = c.rows_are_current.ensures in
    let told : IfOk c.passes_days_limit.result (λ passes. passes ≡ nat_lt MAX_DAYS
    (objective_days c.args.catalog.now (current_rows (rows ++ [])))) = search rules in
    subst (λ (rs : List Row). IfOk c.passes_days_limit.result
    (λ passes. passes ≡ nat_lt MAX_DAYS (objective_days c.args.catalog.now rs)))
    (ap current_rows (append-nil rows) ∙ current) told
