use Rattle.std.proofs.Common.{◌∙◌, ap, option_map}
use Rattle.counter_book.specs.declared.reading.Kept.{Kept}
use Rattle.counter_book.specs.Book.{slot_at}
use Rattle.counter_book.proofs.NearLemmas.{near-looked}
use Rattle.counter_book.proofs.neighbours.look_around.Goals as goal

pub returns : goal.returns
returns c =
    near-looked (slot_at c.args.kept.now.entries c.args.source) c.args.minute _
    (c.count_of.ensures ∙ ap (option_map (λ (x : Kept). x.count)) c.before-earlier.ensures)
    c.look-there.ensures c.next-behind.ensures
