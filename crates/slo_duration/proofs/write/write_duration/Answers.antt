use Rattle.slo_duration.proofs.BackLemmas.{duration_of-text}
use Rattle.slo_duration.proofs.write.write_duration.Goals as goal

pub returns-in_err-text-clause-back : goal.returns-in_err-text-clause-back
returns-in_err-text-clause-back c = duration_of-text c.args.value

pub returns-clause-back : goal.returns-clause-back
returns-clause-back c = duration_of-text c.args.value
