use Rattle.std.proofs.Common.{◌≡◌, drop, find, option_map}
use Rattle.export_terms.specs.Moves.{of_kind}
use Rattle.export_terms.specs.Sizes.{is_too_large, kind_and_name}
use Rattle.office_export.proofs.sizes.first_of_kind.Given as goal

-- none so far is too large
abbrev pub invariant-loop-member : goal.invariant-loop-member
invariant-loop-member l =
    option_map kind_and_name (find is_too_large (of_kind (drop l.member-index l.member-items)
    l.kind))
    ≡ option_map kind_and_name (find is_too_large (of_kind l.member-items l.kind))
