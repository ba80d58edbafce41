use Rattle.counter_laws.proofs.SumLemmas.{counts-are}
use Rattle.counter_laws.proofs.counting.the_counts_are_the_sums_of_the_differences.Goals as goal

pub returns : goal.returns
returns c = counts-are
