use Rattle.std.proofs.Common.{ap, length, ◌∙◌}
use Rattle.line_forgetting.proofs.StretchLemmas.{all-judged}
use Rattle.line_forgetting.proofs.UnknownLemmas.{unknown-forgets}
use Rattle.line_forgetting.proofs.batch.forget_near_batch.Goals as goal

pub returns-then-knows_nothing_from-clause-forgets :
    goal.returns-then-knows_nothing_from-clause-forgets
returns-then-knows_nothing_from-clause-forgets c =
    unknown-forgets c.args.measure.now c.args.rows.now c.args.verdicts.now c.args.width
    c.args.earliest c.args.line.now c.requires.width c.requires.some c.requires.earliest
    (c.knows_nothing_from.ensures c.if-knows_nothing_from.true)

pub moves_of-moves-requires-clause-judged : goal.moves_of-moves-requires-clause-judged
moves_of-moves-requires-clause-judged c =
    ap length c.requires.verdicts ∙ all-judged c.args.book.now.rows c.args.rows.now
