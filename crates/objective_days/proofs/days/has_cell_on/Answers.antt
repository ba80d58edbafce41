use Rattle.objective_days.proofs.Current.{found_last_cell}
use Rattle.objective_days.proofs.days.has_cell_on.Goals as goal

pub returns : goal.returns
returns c = λ cells indexed. found_last_cell c.args.sli c.args.day c.last_on_day.result cells
    (c.last_on_day.ensures cells indexed)
