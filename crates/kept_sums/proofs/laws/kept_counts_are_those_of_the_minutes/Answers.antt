use Rattle.kept_sums.proofs.MinuteLemmas.{kept_counts}
use Rattle.kept_sums.proofs.laws.kept_counts_are_those_of_the_minutes.Goals as goal

pub returns : goal.returns
returns c = kept_counts
