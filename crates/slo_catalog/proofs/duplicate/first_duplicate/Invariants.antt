use Rattle.std.proofs.Common.{◌≡◌, [], drop}
use Rattle.slo_catalog.proofs.DuplicateLemmas.{first_against}
use Rattle.slo_catalog.proofs.duplicate.first_duplicate.Given as goal

abbrev pub invariant-loop-member : goal.invariant-loop-member
invariant-loop-member l =
    first_against l.earlier (drop l.member-index l.objects) ≡ first_against [] l.objects
