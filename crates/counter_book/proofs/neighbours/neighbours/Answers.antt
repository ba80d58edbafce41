use Rattle.std.proofs.Common.{◌∙◌, sym}
use Rattle.counter_book.specs.Book.{slot_at}
use Rattle.counter_book.proofs.NearLemmas.{near-tail}
use Rattle.counter_book.proofs.neighbours.neighbours.Goals as goal

pub returns-in-Some : goal.returns-in-Some
returns-in-Some c =
    near-tail (slot_at c.args.kept.now.entries c.args.source) c.args.minute c.in-Some.tail
    (c.requires c.args.source c.in-Some.tail (sym c.tail_at.ensures ∙ c.in-Some.is))
    c.if-tail-minute.true
