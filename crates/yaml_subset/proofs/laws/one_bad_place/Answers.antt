use Rattle.yaml_subset.proofs.PlaceLemmas.{one_place}
use Rattle.yaml_subset.proofs.laws.one_bad_place.Goals as goal

pub returns : goal.returns
returns c = one_place
