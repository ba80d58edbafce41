-- The readers of the routes' paths.
use Rattle.std.specs.Prelude.{ℕ, cond, List, Option, Some, None, option_map, option_and_then, codes}
use Rattle.std.specs.Str.{bytes_eq}
use Rattle.exact_fraction.specs.Label.{label_of}
use Rattle.exact_fraction.specs.ZoneName.{zone_name_of}
use Rattle.object_terms.specs.Scalars.{all_kinds, kind_word, of_word}
use Rattle.wire_routes.specs.Cuts.{after_word, cut_at, number32}
use Rattle.wire_routes.specs.declared.place.Place.{Place}
use Rattle.wire_routes.specs.declared.place.Place.TheVariants.{Objects, Object, Zone, Samples}
use Rattle.wire_routes.specs.declared.place.Place.TheVariants.{Exclusion, Tick, Notices, Take}
use Rattle.wire_routes.specs.declared.place.Place.TheVariants.{Upgrade, Budgets, Burns, Alerts}
use Rattle.wire_routes.specs.declared.place.Place.TheVariants.{Entries}
use Rattle.wire_routes.specs.declared.place.Place.TheVariants.{Row, Exclusions, Zones, Status, Sums}
use Rattle.wire_routes.specs.declared.place.Place.TheVariants.{Windows}
use Rattle.wire_routes.specs.declared.place.Route.{Route}
use Rattle.wire_routes.specs.declared.place.Route.TheVariants as route

-- the route of a place
abbrev pub route_of : Place → Route
route_of Objects = route.Objects
route_of (Object kind name) = route.Object
route_of (Zone name) = route.Zone
route_of Samples = route.Samples
route_of (Exclusion id) = route.Exclusion
route_of Tick = route.Tick
route_of Notices = route.Notices
route_of (Take number) = route.Take
route_of Upgrade = route.Upgrade
route_of (Budgets slo) = route.Budgets
route_of (Burns slo objective) = route.Burns
route_of (Alerts slo objective policy) = route.Alerts
route_of Entries = route.Entries
route_of (Row sli source minute) = route.Row
route_of Exclusions = route.Exclusions
route_of Zones = route.Zones
route_of Status = route.Status
route_of (Sums slo objective) = route.Sums
route_of (Windows slo) = route.Windows

abbrev pub fixed_at : List ℕ → Place → List ℕ → Option Place
fixed_at word place path = cond (bytes_eq path word) (Some place) None

abbrev pub object_of : List ℕ → List ℕ → Option Place
object_of kind name = option_and_then (λ k. option_map (λ n. Object k n) (label_of name))
    (of_word kind_word all_kinds kind)

abbrev pub object_at : List ℕ → Option Place
object_at path = option_and_then (λ rest. option_and_then (λ p. object_of p.0 p.1) (cut_at 47 rest))
    (after_word (codes "/objects/") path)

abbrev pub zone_at : List ℕ → Option Place
zone_at path = option_and_then (λ rest. option_map (λ n. Zone n) (zone_name_of rest))
    (after_word (codes "/zones/") path)

abbrev pub exclusion_at : List ℕ → Option Place
exclusion_at path = option_and_then (λ rest. option_map (λ n. Exclusion n) (label_of rest))
    (after_word (codes "/exclusions/") path)

abbrev pub take_of : List ℕ → List ℕ → Option Place
take_of digits last =
    cond (bytes_eq last (codes "take")) (option_map (λ n. Take n) (number32 digits)) None

abbrev pub take_at : List ℕ → Option Place
take_at path = option_and_then (λ rest. option_and_then (λ p. take_of p.0 p.1) (cut_at 47 rest))
    (after_word (codes "/notices/") path)

abbrev pub budgets_at : List ℕ → Option Place
budgets_at path = option_and_then (λ rest. option_map (λ n. Budgets n) (label_of rest))
    (after_word (codes "/budgets/") path)

abbrev pub burns_of : List ℕ → List ℕ → Option Place
burns_of slo digits =
    option_and_then (λ s. option_map (λ n. Burns s n) (number32 digits)) (label_of slo)

abbrev pub burns_at : List ℕ → Option Place
burns_at path = option_and_then (λ rest. option_and_then (λ p. burns_of p.0 p.1) (cut_at 47 rest))
    (after_word (codes "/burns/") path)

abbrev pub alerts_of : List ℕ → List ℕ → List ℕ → Option Place
alerts_of slo digits policy =
    option_and_then (λ s. option_and_then (λ n. option_map (λ l. Alerts s n l) (label_of policy))
    (number32 digits)) (label_of slo)

abbrev pub alerts_in : List ℕ → List ℕ → Option Place
alerts_in slo rest = option_and_then (λ q. alerts_of slo q.0 q.1) (cut_at 47 rest)

abbrev pub alerts_at : List ℕ → Option Place
alerts_at path = option_and_then (λ rest. option_and_then (λ p. alerts_in p.0 p.1) (cut_at 47 rest))
    (after_word (codes "/alerts/") path)

abbrev pub row_of : List ℕ → List ℕ → List ℕ → Option Place
row_of sli source digits =
    option_and_then (λ s. option_and_then (λ u. option_map (λ n. Row s u n) (number32 digits))
    (label_of source)) (label_of sli)

abbrev pub row_in : List ℕ → List ℕ → Option Place
row_in sli rest = option_and_then (λ q. row_of sli q.0 q.1) (cut_at 47 rest)

abbrev pub row_at : List ℕ → Option Place
row_at path = option_and_then (λ rest. option_and_then (λ p. row_in p.0 p.1) (cut_at 47 rest))
    (after_word (codes "/samples/") path)

abbrev pub sums_of : List ℕ → List ℕ → Option Place
sums_of slo digits =
    option_and_then (λ s. option_map (λ n. Sums s n) (number32 digits)) (label_of slo)

abbrev pub sums_at : List ℕ → Option Place
sums_at path = option_and_then (λ rest. option_and_then (λ p. sums_of p.0 p.1) (cut_at 47 rest))
    (after_word (codes "/sums/") path)

abbrev pub windows_at : List ℕ → Option Place
windows_at path = option_and_then (λ rest. option_map (λ n. Windows n) (label_of rest))
    (after_word (codes "/windows/") path)

-- the place of that route that a path names
abbrev pub place_by : Route → List ℕ → Option Place
place_by route.Objects path = fixed_at (codes "/objects") Objects path
place_by route.Object path = object_at path
place_by route.Zone path = zone_at path
place_by route.Samples path = fixed_at (codes "/samples") Samples path
place_by route.Exclusion path = exclusion_at path
place_by route.Tick path = fixed_at (codes "/tick") Tick path
place_by route.Notices path = fixed_at (codes "/notices") Notices path
place_by route.Take path = take_at path
place_by route.Upgrade path = fixed_at (codes "/upgrade") Upgrade path
place_by route.Budgets path = budgets_at path
place_by route.Burns path = burns_at path
place_by route.Alerts path = alerts_at path
place_by route.Entries path = fixed_at (codes "/entries") Entries path
place_by route.Row path = row_at path
place_by route.Exclusions path = fixed_at (codes "/exclusions") Exclusions path
place_by route.Zones path = fixed_at (codes "/zones") Zones path
place_by route.Status path = fixed_at (codes "/status") Status path
place_by route.Sums path = sums_at path
place_by route.Windows path = windows_at path
