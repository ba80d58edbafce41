use Rattle.std.proofs.Common.{◌≡◌, ◌≤◌, take}
use Rattle.catalog_terms.specs.Limits.{count_of_kind}
use Rattle.slo_catalog.proofs.limits.count_of_kind.Given as goal

-- the count so far
abbrev pub invariant-loop-member : goal.invariant-loop-member
invariant-loop-member l =
    record {
      told : l.count ≡ count_of_kind l.kind (take l.member-index l.members);
      within : l.count ≤ l.member-index;
    }
