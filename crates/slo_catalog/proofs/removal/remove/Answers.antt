use Rattle.slo_catalog.proofs.RemoveLemmas.{history_of}
use Rattle.slo_catalog.proofs.removal.remove.Goals as goal

pub returns-clause-history : goal.returns-clause-history
returns-clause-history c =
    history_of c.args.old.now c.args.kind c.args.name c.removed_by.result c.removed_by.ensures
