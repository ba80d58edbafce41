-- The table of the routes, as the router keeps it.
use Rattle.std.specs.Prelude.{ℕ, List, [], ◌∷◌, ◌++◌, codes}
use Rattle.matchit.specs.Rows.{RowsOf as TableOf, param_token, catch_all_token}
use Rattle.matchit.specs.Router.{RouteOf}
use Rattle.wire_routes.specs.declared.place.Route.{Route}
use Rattle.wire_routes.specs.declared.place.Route.TheVariants.{Objects, Object, Zone, Samples}
use Rattle.wire_routes.specs.declared.place.Route.TheVariants.{Exclusion, Tick, Notices, Take}
use Rattle.wire_routes.specs.declared.place.Route.TheVariants.{Upgrade, Budgets, Burns, Alerts}
use Rattle.wire_routes.specs.declared.place.Route.TheVariants.{Entries}
use Rattle.wire_routes.specs.declared.place.Route.TheVariants.{Row, Exclusions, Zones, Status, Sums}
use Rattle.wire_routes.specs.declared.place.Route.TheVariants.{Windows}

abbrev pub RouteTable : Type 0
RouteTable = TableOf (RouteOf Route)

-- a pattern with the text that it was read from, and the places of the parts' names in that text
abbrev pub route_at : List ℕ → List ℕ → List (ℕ × ℕ) → Route → List ℕ × RouteOf Route
route_at pattern text names value =
    (pattern, record { pattern = pattern; text = text; names = names; value = value })

abbrev pub alerts_route : List ℕ × RouteOf Route
alerts_route =
    route_at (codes "/alerts/" ++ (param_token ∷ codes "/"
    ++ (param_token ∷ codes "/" ++ (param_token ∷ []))))
    (codes "/alerts/{slo}/{objective}/{policy}") ((9, 12) ∷ (15, 24) ∷ (27, 33) ∷ []) Alerts

abbrev pub budgets_route : List ℕ × RouteOf Route
budgets_route =
    route_at (codes "/budgets/" ++ (param_token ∷ [])) (codes "/budgets/{slo}") ((10, 13) ∷ [])
    Budgets

abbrev pub burns_route : List ℕ × RouteOf Route
burns_route =
    route_at (codes "/burns/" ++ (param_token ∷ codes "/" ++ (param_token ∷ [])))
    (codes "/burns/{slo}/{objective}") ((8, 11) ∷ (14, 23) ∷ []) Burns

abbrev pub entries_route : List ℕ × RouteOf Route
entries_route = route_at (codes "/entries") (codes "/entries") [] Entries

abbrev pub exclusion_route : List ℕ × RouteOf Route
exclusion_route =
    route_at (codes "/exclusions/" ++ (param_token ∷ [])) (codes "/exclusions/{id}")
    ((13, 15) ∷ []) Exclusion

abbrev pub exclusions_route : List ℕ × RouteOf Route
exclusions_route = route_at (codes "/exclusions") (codes "/exclusions") [] Exclusions

abbrev pub take_route : List ℕ × RouteOf Route
take_route =
    route_at (codes "/notices/" ++ (param_token ∷ codes "/take")) (codes "/notices/{n}/take")
    ((10, 11) ∷ []) Take

abbrev pub notices_route : List ℕ × RouteOf Route
notices_route = route_at (codes "/notices") (codes "/notices") [] Notices

abbrev pub object_route : List ℕ × RouteOf Route
object_route =
    route_at (codes "/objects/" ++ (param_token ∷ codes "/" ++ (param_token ∷ [])))
    (codes "/objects/{kind}/{name}") ((10, 14) ∷ (17, 21) ∷ []) Object

abbrev pub objects_route : List ℕ × RouteOf Route
objects_route = route_at (codes "/objects") (codes "/objects") [] Objects

abbrev pub row_route : List ℕ × RouteOf Route
row_route =
    route_at (codes "/samples/" ++ (param_token ∷ codes "/"
    ++ (param_token ∷ codes "/" ++ (param_token ∷ []))))
    (codes "/samples/{sli}/{source}/{minute}") ((10, 13) ∷ (16, 22) ∷ (25, 31) ∷ []) Row

abbrev pub samples_route : List ℕ × RouteOf Route
samples_route = route_at (codes "/samples") (codes "/samples") [] Samples

abbrev pub status_route : List ℕ × RouteOf Route
status_route = route_at (codes "/status") (codes "/status") [] Status

abbrev pub sums_route : List ℕ × RouteOf Route
sums_route =
    route_at (codes "/sums/" ++ (param_token ∷ codes "/" ++ (param_token ∷ [])))
    (codes "/sums/{slo}/{objective}") ((7, 10) ∷ (13, 22) ∷ []) Sums

abbrev pub tick_route : List ℕ × RouteOf Route
tick_route = route_at (codes "/tick") (codes "/tick") [] Tick

abbrev pub upgrade_route : List ℕ × RouteOf Route
upgrade_route = route_at (codes "/upgrade") (codes "/upgrade") [] Upgrade

abbrev pub windows_route : List ℕ × RouteOf Route
windows_route =
    route_at (codes "/windows/" ++ (param_token ∷ [])) (codes "/windows/{slo}") ((10, 13) ∷ [])
    Windows

abbrev pub zone_route : List ℕ × RouteOf Route
zone_route =
    route_at (codes "/zones/" ++ (catch_all_token ∷ [])) (codes "/zones/{*name}") ((9, 13) ∷ [])
    Zone

abbrev pub zones_route : List ℕ × RouteOf Route
zones_route = route_at (codes "/zones") (codes "/zones") [] Zones

-- in the order of their patterns, a longer one before what it begins with
abbrev pub table : RouteTable
table =
    alerts_route ∷ budgets_route ∷ burns_route ∷ entries_route ∷ exclusion_route ∷ exclusions_route
    ∷ take_route ∷ notices_route ∷ object_route ∷ objects_route ∷ row_route ∷ samples_route
    ∷ status_route ∷ sums_route ∷ tick_route ∷ upgrade_route ∷ windows_route ∷ zone_route
    ∷ zones_route ∷ []
