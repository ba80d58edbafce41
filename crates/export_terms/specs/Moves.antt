-- The requests that make an office anew.
use Rattle.std.specs.Prelude.{ℕ, Bool, cond, List, [], ◌∷◌, ◌++◌, map, filter, is_some}
use Rattle.std.specs.List.{flat_map}
use Rattle.sample_book.specs.declared.Exclusion.{Exclusion}
use Rattle.yaml_terms.specs.Spelling.{writing}
use Rattle.object_terms.specs.declared.Kind.{Kind}
use Rattle.object_terms.specs.declared.Kind.TheVariants as kinds
use Rattle.object_terms.specs.declared.Object.{Object}
use Rattle.object_terms.specs.Document.{written}
use Rattle.catalog_terms.specs.Keys.{is_kind}
use Rattle.record_form.specs.declared.Command.{Command}
use Rattle.record_form.specs.declared.Command.TheVariants.{Define, PutZone, Samples, Exclude, Lift}
use Rattle.record_form.specs.declared.Command.TheVariants.{Upgrade}
use Rattle.office_history.specs.Catalog.{catalog_in}
use Rattle.office_history.specs.History.{Office, current_in, exclusions_in}
use Rattle.office_history.specs.Objectives.{slo_named}
use Rattle.office_history.specs.Versions.{is_upgraded}
use Rattle.office_history.specs.Zones.{zones_in}
use Rattle.export_terms.specs.Parts.{in_thousands}
use Rattle.export_terms.specs.Zones.{zones_by_name}

-- the kinds, each behind those that it refers to
abbrev pub export_kinds : List Kind
export_kinds = kinds.DataSource ∷ kinds.Service ∷ kinds.Sli ∷ kinds.AlertNotificationTarget
    ∷ kinds.AlertCondition ∷ kinds.AlertPolicy ∷ kinds.Slo ∷ []

-- the objects of a kind, by name
abbrev pub of_kind : List Object → Kind → List Object
of_kind members kind = filter (λ o. is_kind o.kind kind) members

-- the objects of these kinds, kind by kind
abbrev pub in_order : List Object → List Kind → List Object
in_order members ks = flat_map (of_kind members) ks

-- the upgrade, where there is one
abbrev pub upgrades : Bool → List Command
upgrades upgraded = cond upgraded (Upgrade ∷ []) []

abbrev pub zone_move : List ℕ × List ℕ → Command
zone_move z = PutZone z.0 z.1

-- an object is defined by its canonical writing
abbrev pub definition : Object → Command
definition o = Define (writing 0 (written o))

-- an exclusion is put, and lifted right behind where it isn't live
abbrev pub exclusion_moves : Exclusion × Bool → List Command
exclusion_moves kept = Exclude kept.0 ∷ cond kept.1 [] (Lift kept.0.id ∷ [])

-- the exclusions of SLOs that are in the catalog
abbrev pub of_members : List Object → List (Exclusion × Bool) → List (Exclusion × Bool)
of_members members made = filter (λ kept. is_some (slo_named members kept.0.slo)) made

-- What makes an office anew: its upgrade, its zones by name, its objects, each kind behind those
-- that it refers to, its current rows, a thousand at a time, and the exclusions of its SLOs.
abbrev pub moves : Office → List Command
moves o = upgrades (is_upgraded o.history)
    ++ (map zone_move (zones_by_name (zones_in o.history))
    ++ (map definition (in_order (catalog_in o.history) export_kinds)
    ++ (map Samples (in_thousands (current_in o.history))
    ++ flat_map exclusion_moves (of_members (catalog_in o.history) (exclusions_in o.history)))))
