use Rattle.std.proofs.Common.{ap, ◌∙◌}
use Rattle.std.specs.Prelude.{is_some}
use Rattle.objective_days.proofs.Current.{found_last}
use Rattle.objective_days.proofs.days.has_row_on.Goals as goal

pub returns : goal.returns
returns c = c.is_some.ensures ∙ ap is_some c.last_row_on.ensures
    ∙ found_last c.args.sli c.args.day c.args.book.now.rows
