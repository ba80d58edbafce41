use Rattle.kept_lines.proofs.KnownLemmas.{all_know}
use Rattle.kept_lines.proofs.states.states_over.Goals as goal

pub returns-in_err-bindings-clause-know : goal.returns-in_err-bindings-clause-know
returns-in_err-bindings-clause-know c = all_know c.args.lines.now.kept
