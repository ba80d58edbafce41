use Rattle.counter_laws.proofs.SampleLemmas.{samples-are}
use Rattle.counter_laws.proofs.laws.the_samples_are_the_differences.Goals as goal

pub returns : goal.returns
returns c = samples-are
