use Rattle.slo_catalog.proofs.DefineLemmas.{history_of}
use Rattle.slo_catalog.proofs.definition.define.Goals as goal

pub returns-clause-history : goal.returns-clause-history
returns-clause-history c =
    history_of c.args.old.now c.args.objects c.defined_by.result c.defined_by.ensures
