-- Objects whose canonical writing is too large for a request that defines it.
use Rattle.std.specs.Prelude.{ℕ, Bool, nat_lt, List, length, Option, option_map}
use Rattle.std.specs.List.{find}
use Rattle.slo_limits.specs.declared.TheConstants.{MAX_TEXT_BYTES}
use Rattle.yaml_terms.specs.Spelling.{writing}
use Rattle.object_terms.specs.declared.Kind.{Kind}
use Rattle.object_terms.specs.declared.Object.{Object}
use Rattle.object_terms.specs.Document.{written}
use Rattle.export_terms.specs.Moves.{export_kinds, in_order}

abbrev pub is_too_large : Object → Bool
is_too_large o = nat_lt MAX_TEXT_BYTES (length (writing 0 (written o)))

abbrev pub kind_and_name : Object → Kind × List ℕ
kind_and_name o = (o.kind, o.name)

-- the first object that is too large, in the order of the moves
abbrev pub first_too_large : List Object → Option (Kind × List ℕ)
first_too_large members =
    option_map kind_and_name (find is_too_large (in_order members export_kinds))
