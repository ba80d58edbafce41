use Rattle.std.proofs.Common.{subst, List, ℕ}
use Rattle.generate_command.specs.Playing.{HasNone}
use Rattle.generate_command.proofs.playing.is_whole.Goals as goal

pub returns : goal.returns
returns c none =
    subst (λ (piece : List ℕ). HasNone piece c.args.answers.now) c.no_memory_body.ensures
    (c.has_none.ensures none)
