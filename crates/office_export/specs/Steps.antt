-- The requests of an export, by the places of what they send.
use Rattle.std.specs.Prelude.{ℕ, ◌+◌, ◌-◌, zero, suc, Bool, cond, List, [], ◌∷◌, ◌++◌, map}
use Rattle.std.specs.Prelude.{take, drop, length, slice_get, Option, Some, None, option_map}
use Rattle.std.specs.Prelude.{is_some}
use Rattle.std.specs.List.{flat_map}
use Rattle.sample_book.specs.declared.Exclusion.{Exclusion}
use Rattle.sample_book.specs.declared.Row.{Row}
use Rattle.object_terms.specs.declared.Kind.{Kind}
use Rattle.object_terms.specs.declared.Object.{Object}
use Rattle.catalog_terms.specs.Keys.{is_kind}
use Rattle.record_form.specs.declared.Command.{Command}
use Rattle.record_form.specs.declared.Command.TheVariants as commands
use Rattle.office_history.specs.Catalog.{catalog_in}
use Rattle.office_history.specs.History.{Office, current_in, exclusions_in}
use Rattle.office_history.specs.Objectives.{slo_named}
use Rattle.office_history.specs.Versions.{is_upgraded}
use Rattle.office_history.specs.Zones.{bytes_named, zones_in}
use Rattle.export_terms.specs.Moves.{definition, export_kinds}
use Rattle.export_terms.specs.Texts.{text_of}
use Rattle.export_terms.specs.Zones.{zones_by_name}
use Rattle.office_export.specs.declared.step.Step.{Step}
use Rattle.office_export.specs.declared.step.Step.TheVariants.{Upgrade, Zone, Object as ObjectStep}
use Rattle.office_export.specs.declared.step.Step.TheVariants.{Rows, Put, Lift}

-- what an export sends: whether the office is upgraded, its zones, the members of its catalog, its
-- current rows, and its exclusions
pub record Content : Type 0 where
  pub upgraded : Bool
  pub zones : List (List ℕ × List ℕ)
  pub members : List Object
  pub rows : List Row
  pub made : List (Exclusion × Bool)

abbrev pub content : Bool → List (List ℕ × List ℕ) → List Object → List Row
    → List (Exclusion × Bool) → Content
content upgraded zones members rows made =
    record { upgraded = upgraded; zones = zones; members = members; rows = rows; made = made }

abbrev pub content_of : Office → Content
content_of o = content (is_upgraded o.history) (zones_in o.history) (catalog_in o.history)
    (current_in o.history) (exclusions_in o.history)

-- the change that a step sends, where what it sends is there
abbrev pub command_at : Content → Step → Option Command
command_at c Upgrade = Some commands.Upgrade
command_at c (Zone name) = option_map (commands.PutZone name) (bytes_named c.zones name)
command_at c (ObjectStep place) = option_map definition (slice_get c.members place)
command_at c (Rows first) = Some (commands.Samples (take 1000 (drop first c.rows)))
command_at c (Put place) = option_map (λ kept. commands.Exclude kept.0) (slice_get c.made place)
command_at c (Lift place) = option_map (λ kept. commands.Lift kept.0.id) (slice_get c.made place)

-- its bytes
abbrev pub text_if : Option Command → List ℕ
text_if None = []
text_if (Some c) = text_of c

abbrev pub text_at : Content → Step → List ℕ
text_at c step = text_if (command_at c step)

-- the upgrade, where there is one
abbrev pub upgrade_steps : Bool → List Step
upgrade_steps upgraded = cond upgraded (Upgrade ∷ []) []

-- the zones, by name
abbrev pub zone_steps : List (List ℕ × List ℕ) → List Step
zone_steps zones = map (λ z. Zone z.0) (zones_by_name zones)

-- the objects of a kind, by the places from this one on
abbrev pub steps_of_kind : Kind → ℕ → List Object → List Step
steps_of_kind kind place [] = []
steps_of_kind kind place (o ∷ os) = cond (is_kind o.kind kind)
    (ObjectStep place ∷ steps_of_kind kind (place + 1) os) (steps_of_kind kind (place + 1) os)

abbrev pub object_steps : List Object → List Kind → List Step
object_steps members kinds = flat_map (λ kind. steps_of_kind kind 0 members) kinds

-- the rows of which so many are left, from this place on (the first number is fuel, of which their
-- count is always enough)
abbrev pub row_steps : ℕ → ℕ → ℕ → List Step
row_steps zero first left = []
row_steps (suc fuel) first zero = []
row_steps (suc fuel) first (suc left) =
    Rows first ∷ row_steps fuel (first + 1000) (suc left - 1000)

-- an exclusion that stands at this place, where its SLO is there
abbrev pub exclusion_step : List Object → ℕ → Exclusion × Bool → List Step
exclusion_step members place kept = cond (is_some (slo_named members kept.0.slo))
    (Put place ∷ cond kept.1 [] (Lift place ∷ [])) []

-- the one that stands at this place, if there is one
abbrev pub step_if : List Object → ℕ → Option (Exclusion × Bool) → List Step
step_if members place None = []
step_if members place (Some kept) = exclusion_step members place kept

-- the exclusions, from this place on
abbrev pub exclusion_steps : List Object → ℕ → List (Exclusion × Bool) → List Step
exclusion_steps members place [] = []
exclusion_steps members place (k ∷ ks) =
    exclusion_step members place k ++ exclusion_steps members (place + 1) ks

-- all of them
abbrev pub steps_of : Content → List Step
steps_of c = upgrade_steps c.upgraded
    ++ (zone_steps c.zones
    ++ (object_steps c.members export_kinds
    ++ (row_steps (length c.rows) 0 (length c.rows)
    ++ exclusion_steps c.members 0 c.made)))
