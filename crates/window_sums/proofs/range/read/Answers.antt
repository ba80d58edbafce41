use Rattle.std.proofs.Common.{◌*◌, ap, sym, ◌∙◌}
use Rattle.slo_terms.specs.Sums.{leaves_over}
use Rattle.sum_pages.specs.Pages.{leaf_at}
use Rattle.window_sums.specs.Ranges.{slots_of}
use Rattle.window_sums.proofs.RangeFacts.{unit-slot}
use Rattle.window_sums.proofs.range.read.Goals as goal

pub returns-in-Slot-clause-value : goal.returns-in-Slot-clause-value
returns-in-Slot-clause-value g c =
    c.read_leaf.ensures.value
    ∙ unit-slot (leaf_at c.args.pages.now) c.args.at
    ∙ ap (λ u. leaves_over (leaf_at c.args.pages.now)
    (c.args.at * slots_of u c.args.pages.now.per_hour) (slots_of u c.args.pages.now.per_hour))
    (sym c.in-Slot.is)
