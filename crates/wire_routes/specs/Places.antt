-- What a path names, by the table of routes. Nothing of a path is percent-decoded.
use Rattle.std.specs.Prelude.{◌≡◌, ℕ, true, List, ◌∷◌, ◌++◌, Option, Some, None, codes}
use Rattle.exact_fraction.specs.Label.{is_label}
use Rattle.exact_fraction.specs.ZoneName.{is_zone_name}
use Rattle.object_terms.specs.Scalars.{kind_word}
use Rattle.wire_routes.specs.Cuts.{number32}
use Rattle.wire_routes.specs.declared.place.Place.{Place}
use Rattle.wire_routes.specs.declared.place.Place.TheVariants.{Objects, Object, Zone, Samples}
use Rattle.wire_routes.specs.declared.place.Place.TheVariants.{Exclusion, Tick, Notices, Take}
use Rattle.wire_routes.specs.declared.place.Place.TheVariants.{Upgrade, Budgets, Burns, Alerts}
use Rattle.wire_routes.specs.declared.place.Place.TheVariants.{Entries}
use Rattle.wire_routes.specs.declared.place.Place.TheVariants.{Row, Exclusions, Zones, Status, Sums}
use Rattle.wire_routes.specs.declared.place.Place.TheVariants.{Windows}

-- the path is the place's, slashes (47) and all
abbrev pub IsPath : List ℕ → Place → Type 0
IsPath path Objects = path ≡ codes "/objects"
IsPath path (Object kind name) = (path ≡ codes "/objects/" ++ (kind_word kind ++ 47 ∷ name))
    × (is_label name ≡ true)
IsPath path (Zone name) = (path ≡ codes "/zones/" ++ name) × (is_zone_name name ≡ true)
IsPath path Samples = path ≡ codes "/samples"
IsPath path (Exclusion id) = (path ≡ codes "/exclusions/" ++ id) × (is_label id ≡ true)
IsPath path Tick = path ≡ codes "/tick"
IsPath path Notices = path ≡ codes "/notices"
IsPath path (Take number) = (digits : List ℕ)
    × (path ≡ codes "/notices/" ++ (digits ++ codes "/take")) × (number32 digits ≡ Some number)
IsPath path Upgrade = path ≡ codes "/upgrade"
IsPath path (Budgets slo) = (path ≡ codes "/budgets/" ++ slo) × (is_label slo ≡ true)
IsPath path (Burns slo objective) =
    (digits : List ℕ) × (path ≡ codes "/burns/" ++ (slo ++ 47 ∷ digits)) × (is_label slo ≡ true)
    × (number32 digits ≡ Some objective)
IsPath path (Alerts slo objective policy) =
    (digits : List ℕ) × (path ≡ codes "/alerts/" ++ (slo ++ 47 ∷ (digits ++ 47 ∷ policy)))
    × (is_label slo ≡ true) × (number32 digits ≡ Some objective) × (is_label policy ≡ true)
IsPath path Entries = path ≡ codes "/entries"
IsPath path (Row sli source minute) =
    (digits : List ℕ) × (path ≡ codes "/samples/" ++ (sli ++ 47 ∷ (source ++ 47 ∷ digits)))
    × (is_label sli ≡ true) × (is_label source ≡ true) × (number32 digits ≡ Some minute)
IsPath path Exclusions = path ≡ codes "/exclusions"
IsPath path Zones = path ≡ codes "/zones"
IsPath path Status = path ≡ codes "/status"
IsPath path (Sums slo objective) =
    (digits : List ℕ) × (path ≡ codes "/sums/" ++ (slo ++ 47 ∷ digits)) × (is_label slo ≡ true)
    × (number32 digits ≡ Some objective)
IsPath path (Windows slo) = (path ≡ codes "/windows/" ++ slo) × (is_label slo ≡ true)

-- the place that the path names, or that it names none
abbrev pub Finds : List ℕ → Option Place → Type 0
Finds path None = (p : Place) → IsPath path p → ⊥
Finds path (Some p) = IsPath path p
