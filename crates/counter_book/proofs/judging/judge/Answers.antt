use Rattle.std.proofs.Common.{◌∙◌, ap, sym, ◌≡◌, arith}
use Rattle.std.proofs.lemmas.Grind.{common_steps}
use Rattle.counter_book.specs.Book.{Book}
use Rattle.counter_book.specs.Standings.{standing_in, standing_of}
use Rattle.counter_book.proofs.judging.judge.Goals as goal

pub returns-in-Some-clause-judged : goal.returns-in-Some-clause-judged
returns-in-Some-clause-judged c =
    let r = c.args.reading.now in
    let book : Book = record {
      names = c.args.names.now;
      entries = c.args.kept.now.entries;
      puts = c.args.puts;
    } in
    let st : standing_in book r ≡ c.standing-standing.result =
    ap (λ x. standing_of x r) (sym c.requires.near.here) ∙ sym c.standing-standing.ensures in
    let mv = c.moves-moves.ensures.moves book c.requires.near in
    grind (arith, common_steps)
