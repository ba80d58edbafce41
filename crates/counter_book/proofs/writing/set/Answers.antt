use Rattle.std.proofs.Common.{◌∙◌, ap, Bool, Some, cond}
use Rattle.counter_book.specs.Book.{slot_at}
use Rattle.counter_book.proofs.MomentLemmas.{moment, is_moment-back}
use Rattle.counter_book.proofs.writing.set.Goals as goal

pub returns-in-Ok-clause-ok : goal.returns-in-Ok-clause-ok
returns-in-Ok-clause-ok c = λ s m.
    c.in-Ok.ensures.updates.0 (moment s m)
    ∙ ap (λ (b : Bool). cond b (Some c.args.value) (slot_at c.args.kept.now.entries s m))
    (is_moment-back s c.args.source m c.args.minute)
