use Rattle.std.proofs.Common.{◌≡◌, drop}
use Rattle.office_export.specs.Lines.{large_among}
use Rattle.office_export.proofs.sizes.first_among.Given as goal

-- none of the kinds so far has one that is too large
abbrev pub invariant-loop-kind : goal.invariant-loop-kind
invariant-loop-kind l =
    large_among l.catalog (drop l.kind-index l.kinds) ≡ large_among l.catalog l.kinds
