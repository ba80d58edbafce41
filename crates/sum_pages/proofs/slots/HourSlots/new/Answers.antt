use Rattle.std.proofs.Math.Nat.{mul-div_cancel'}
use Rattle.sum_pages.proofs.PagesFacts.{hour-some}
use Rattle.sum_pages.proofs.slots.HourSlots.new.Goals as goal

pub nonzero_div-result : goal.nonzero_div-result
nonzero_div-result c = hour-some c.args.count c.requires

pub invariant_of-result : goal.invariant_of-result
invariant_of-result c = mul-div_cancel' c.args.count c.requires
