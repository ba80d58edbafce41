use Rattle.slo_catalog.proofs.DefineLemmas.{within_by}
use Rattle.slo_catalog.proofs.proposal.Proposal.admitted.Goals as goal

pub of-requires : goal.of-requires
of-requires c =
    within_by _ c.in-Ok.members c.admitted.result c.admitted.ensures c.in-Ok.is c.self.invariant
