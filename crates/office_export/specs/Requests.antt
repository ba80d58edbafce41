-- Requests as they are made.
use Rattle.std.specs.Prelude.{ℕ, Bool, List, [], ◌++◌, Option, Some, None, option_map, slice_get}
use Rattle.std.specs.Prelude.{take, drop}
use Rattle.sample_book.specs.declared.Exclusion.{Exclusion}
use Rattle.sample_book.specs.declared.Row.{Row}
use Rattle.object_terms.specs.declared.Object.{Object}
use Rattle.record_form.specs.declared.Command.TheVariants as commands
use Rattle.office_history.specs.Zones.{bytes_named}
use Rattle.export_terms.specs.Moves.{definition}
use Rattle.export_terms.specs.Texts.{text_of}
use Rattle.office_export.specs.Steps.{text_if}

-- a head, where there is one, and the body behind it
abbrev pub text_by : Option (List ℕ) → List ℕ → List ℕ
text_by None body = []
text_by (Some head) body = head ++ body

-- the bytes of each kind of request, by the place of what it sends
abbrev pub zone_at : List (List ℕ × List ℕ) → List ℕ → List ℕ
zone_at zones name = text_if (option_map (commands.PutZone name) (bytes_named zones name))

abbrev pub object_at : List Object → ℕ → List ℕ
object_at members place = text_if (option_map definition (slice_get members place))

abbrev pub rows_at : List Row → ℕ → List ℕ
rows_at rows first = text_of (commands.Samples (take 1000 (drop first rows)))

abbrev pub exclusion_at : List (Exclusion × Bool) → ℕ → List ℕ
exclusion_at made place =
    text_if (option_map (λ kept. commands.Exclude kept.0) (slice_get made place))

abbrev pub lifting_at : List (Exclusion × Bool) → ℕ → List ℕ
lifting_at made place =
    text_if (option_map (λ kept. commands.Lift kept.0.id) (slice_get made place))
