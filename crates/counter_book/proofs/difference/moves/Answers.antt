use Rattle.std.proofs.Common.{◌∙◌, ap, option_map}
use Rattle.counter_book.specs.declared.reading.Kept.{Kept}
use Rattle.counter_book.proofs.MoveLemmas.{moves-by}
use Rattle.counter_book.proofs.difference.moves.Goals as goal

pub returns-clause-moves : goal.returns-clause-moves
returns-clause-moves c = λ book around.
    let near = c.args.near.now in
    moves-by book c.args.reading.now near.before c.count_of-here.result near.next _ _ around.before
    (c.count_of-here.ensures ∙ ap (option_map (λ (x : Kept). x.count)) around.here) around.next
    (cc) (cc)
