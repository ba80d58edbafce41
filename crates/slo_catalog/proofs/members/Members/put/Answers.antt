use Rattle.std.proofs.Common.{sym, subst}
use Rattle.catalog_terms.specs.Keys.{IsSorted}
use Rattle.slo_catalog.proofs.PutLemmas.{put_sorted}
use Rattle.slo_catalog.proofs.members.Members.put.Goals as goal

pub invariant_of-result : goal.invariant_of-result
invariant_of-result c = subst IsSorted (sym c.in_ok-put_in.ensures)
    (put_sorted c.args.member c.self.inside.list c.self.invariant)
