use Rattle.std.proofs.Common.{◌||◌}
use Rattle.objective_days.proofs.days.is_known.Goals as goal

pub returns : goal.returns
returns c = λ cells indexed i.
    c.has_row_on-of_book.ensures i || c.has_cell_on-of_index.ensures cells indexed i
