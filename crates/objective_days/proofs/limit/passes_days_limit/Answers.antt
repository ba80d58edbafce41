use Rattle.std.proofs.Common.{◌≡◌, ◌++◌, List, nat_lt, subst}
use Rattle.slo_limits.specs.declared.TheConstants.{MAX_DAYS}
use Rattle.object_terms.specs.declared.Object.{Object}
use Rattle.sample_book.specs.Rows.{current_rows}
use Rattle.office_history.specs.Batches.{objective_days}
use Rattle.objective_days.proofs.limit.passes_days_limit.Goals as goal

pub returns : goal.returns
returns c = subst (λ (ms : List Object). c.days_pass.result ≡ nat_lt MAX_DAYS
    (objective_days ms (current_rows (c.args.book.now.rows ++ c.args.more.now))))
    c.members.ensures.all (c.days_pass.ensures c.args.more.now c.in_ok-new.ensures)
