use Rattle.std.proofs.Common.{◌≡◌, drop}
use Rattle.catalog_terms.specs.NeedsOp.{needing_op}
use Rattle.catalog_terms.specs.References.{first_given}
use Rattle.slo_catalog.proofs.needs_op.first_in.Given as goal

abbrev pub invariant-loop-member : goal.invariant-loop-member
invariant-loop-member l = first_given (needing_op l.members) (drop l.member-index l.objects)
    ≡ first_given (needing_op l.members) l.objects
