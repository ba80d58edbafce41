use Rattle.object_fields.proofs.CountLemmas.{only_none}
use Rattle.object_fields.proofs.shape.only_item.Goals as goal

pub returns-in-len2-up : goal.returns-in-len2-up
returns-in-len2-up c = only_none c.args.items.now c.in-len2-up.len_at_least
