use Rattle.std.proofs.Common.{◌≡◌, drop, find, not}
use Rattle.catalog_terms.specs.References.{is_resolved}
use Rattle.slo_catalog.proofs.reference.unresolved_in.Given as goal

abbrev pub invariant-loop-reference : goal.invariant-loop-reference
invariant-loop-reference l = find (λ r. not (is_resolved l.members r))
    (drop l.reference-index l.references) ≡ find (λ r. not (is_resolved l.members r)) l.references
