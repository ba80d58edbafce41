-- Lines of rows, and what is too large, kind by kind.
use Rattle.std.specs.Prelude.{ℕ, List, [], map, find, Option, Some, None, option_map}
use Rattle.sample_book.specs.declared.Row.{Row}
use Rattle.object_terms.specs.declared.Kind.{Kind}
use Rattle.object_terms.specs.declared.Object.{Object}
use Rattle.office_history.specs.Lists.{first_some}
use Rattle.export_terms.specs.Moves.{of_kind}
use Rattle.export_terms.specs.Sizes.{is_too_large, kind_and_name}
use Rattle.export_terms.specs.Texts.{row_line}

-- the line of a row, if there is one
abbrev pub line_if : Option Row → List ℕ
line_if None = []
line_if (Some row) = row_line row

-- the first object of a kind that is too large
abbrev pub large_of_kind : List Object → Kind → Option (Kind × List ℕ)
large_of_kind members kind = option_map kind_and_name (find is_too_large (of_kind members kind))

-- the first of these kinds
abbrev pub large_among : List Object → List Kind → Option (Kind × List ℕ)
large_among members kinds = first_some (map (large_of_kind members) kinds)
