use Rattle.std.proofs.Common.{rules}
use Rattle.generate_command.proofs.Plays.{played}
use Rattle.generate_command.proofs.playing.play.Goals as goal

pub returns-in-Done : goal.returns-in-Done
returns-in-Done g c =
    played g.T.Counter.asks c.args.bytes.items c.args.reading _ _ _ c.new-input.result.left
    c.new-clock.result c.new-answers.result.held _ _ c.new-input.ensures.left
    (search rules) c.new-answers.ensures.held c.in-Done.ensures.ends
