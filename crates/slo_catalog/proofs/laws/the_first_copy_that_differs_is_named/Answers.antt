use Rattle.slo_catalog.proofs.DuplicateLemmas.{first_is_named}
use Rattle.slo_catalog.proofs.laws.the_first_copy_that_differs_is_named.Goals as goal

pub returns : goal.returns
returns c = first_is_named
