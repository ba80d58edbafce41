use Rattle.window_sums.proofs.ShareLemmas.{sound-shares}
use Rattle.window_sums.proofs.laws.counts_of_rows_are_sound.Goals as goal

pub returns : goal.returns
returns c = λ method counts shares small same. sound-shares method counts shares small same
