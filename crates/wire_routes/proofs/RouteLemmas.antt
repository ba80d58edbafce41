-- A path of a place has the place's route, and no other place.
use Rattle.std.proofs.Common.{◌≡◌, ◌<◌, ℕ, false, List, [], ◌∷◌, ◌++◌, Option, Some, None, codes}
use Rattle.std.proofs.Common.{refl, sym, ap, ◌∙◌}
use Rattle.matchit.specs.Router.{RouteOf}
use Rattle.matchit.specs.Seek.{first, has_slash}
use Rattle.matchit.proofs.OnLiterals.{matchit_on_literals}
use Rattle.message_heads.specs.Targets.{path_of}
use Rattle.object_terms.specs.Scalars.{kind_word}
use Rattle.object_terms.specs.declared.kind.Kind.{Kind}
use Rattle.object_terms.specs.declared.kind.Kind.TheVariants as kinds
use Rattle.wire_routes.specs.declared.place.Route.{Route}
use Rattle.wire_routes.specs.declared.place.Place.{Place}
use Rattle.wire_routes.specs.declared.place.Place.TheVariants.{Objects, Object, Zone, Samples}
use Rattle.wire_routes.specs.declared.place.Place.TheVariants.{Exclusion, Tick, Notices, Take}
use Rattle.wire_routes.specs.declared.place.Place.TheVariants.{Upgrade, Budgets, Burns, Alerts}
use Rattle.wire_routes.specs.declared.place.Place.TheVariants.{Entries}
use Rattle.wire_routes.specs.declared.place.Place.TheVariants.{Row, Exclusions, Zones, Status, Sums}
use Rattle.wire_routes.specs.declared.place.Place.TheVariants.{Windows}
use Rattle.wire_routes.specs.Laws.{OneAnswer, SomeAnswer}
use Rattle.wire_routes.specs.Places.{Finds, IsPath}
use Rattle.wire_routes.specs.Readers.{place_by, route_of}
use Rattle.wire_routes.specs.Requests.{answer_of}
use Rattle.wire_routes.specs.Table.{table, alerts_route, budgets_route, burns_route}
use Rattle.wire_routes.specs.Table.{entries_route, exclusion_route, exclusions_route}
use Rattle.wire_routes.specs.Table.{notices_route, object_route, objects_route, row_route}
use Rattle.wire_routes.specs.Table.{samples_route, status_route, sums_route, take_route, tick_route}
use Rattle.wire_routes.specs.Table.{upgrade_route, windows_route, zone_route, zones_route}
use Rattle.wire_routes.proofs.CutLemmas.{IsPart, digits_part, label_part, word_part, zone_parts}
use Rattle.wire_routes.proofs.ReaderLemmas.{back, there}
use Rattle.wire_routes.proofs.SeekLemmas.{seek_last, seek_literal, seek_name, seek_rest}

-- the routes of paths that begin with a word and go on with parts

first_object : (x : ℕ) (k : List ℕ) (y : ℕ) (n : List ℕ) → x < 256 → has_slash (x ∷ k) ≡ false
    → y < 256 → has_slash (y ∷ n) ≡ false
    → first table (codes "/objects/" ++ ((x ∷ k) ++ 47 ∷ y ∷ n)) ≡ Some object_route.1
first_object x k y n a b c d =
    seek_literal (codes "/objects/") table ((x ∷ k) ++ 47 ∷ y ∷ n) object_route.1
    (seek_name x k (256 ∷ []) (y ∷ n) object_route.1 a b ∙ seek_last y n object_route.1 c d)

first_zone : (y : ℕ) (n : List ℕ) → y < 256
    → first table (codes "/zones/" ++ (y ∷ n)) ≡ Some zone_route.1
first_zone y n c =
    seek_literal (codes "/zones/") table (y ∷ n) zone_route.1 (seek_rest y n zone_route.1 c)

first_exclusion : (y : ℕ) (n : List ℕ) → y < 256 → has_slash (y ∷ n) ≡ false
    → first table (codes "/exclusions/" ++ (y ∷ n)) ≡ Some exclusion_route.1
first_exclusion y n c d = seek_literal (codes "/exclusions/") table (y ∷ n) exclusion_route.1
    (seek_last y n exclusion_route.1 c d)

first_take : (y : ℕ) (n : List ℕ) → y < 256 → has_slash (y ∷ n) ≡ false
    → first table (codes "/notices/" ++ ((y ∷ n) ++ codes "/take")) ≡ Some take_route.1
unfolding matchit_on_literals
first_take y n c d =
    seek_literal (codes "/notices/") table ((y ∷ n) ++ codes "/take") take_route.1
    (seek_name y n (codes "take") (codes "take") take_route.1 c d)

first_budgets : (y : ℕ) (n : List ℕ) → y < 256 → has_slash (y ∷ n) ≡ false
    → first table (codes "/budgets/" ++ (y ∷ n)) ≡ Some budgets_route.1
first_budgets y n c d =
    seek_literal (codes "/budgets/") table (y ∷ n) budgets_route.1
    (seek_last y n budgets_route.1 c d)

first_windows : (y : ℕ) (n : List ℕ) → y < 256 → has_slash (y ∷ n) ≡ false
    → first table (codes "/windows/" ++ (y ∷ n)) ≡ Some windows_route.1
first_windows y n c d =
    seek_literal (codes "/windows/") table (y ∷ n) windows_route.1
    (seek_last y n windows_route.1 c d)

first_burns : (x : ℕ) (k : List ℕ) (y : ℕ) (n : List ℕ) → x < 256 → has_slash (x ∷ k) ≡ false
    → y < 256 → has_slash (y ∷ n) ≡ false
    → first table (codes "/burns/" ++ ((x ∷ k) ++ 47 ∷ y ∷ n)) ≡ Some burns_route.1
first_burns x k y n a b c d =
    seek_literal (codes "/burns/") table ((x ∷ k) ++ 47 ∷ y ∷ n) burns_route.1
    (seek_name x k (256 ∷ []) (y ∷ n) burns_route.1 a b ∙ seek_last y n burns_route.1 c d)

first_sums : (x : ℕ) (k : List ℕ) (y : ℕ) (n : List ℕ) → x < 256 → has_slash (x ∷ k) ≡ false
    → y < 256 → has_slash (y ∷ n) ≡ false
    → first table (codes "/sums/" ++ ((x ∷ k) ++ 47 ∷ y ∷ n)) ≡ Some sums_route.1
first_sums x k y n a b c d =
    seek_literal (codes "/sums/") table ((x ∷ k) ++ 47 ∷ y ∷ n) sums_route.1
    (seek_name x k (256 ∷ []) (y ∷ n) sums_route.1 a b ∙ seek_last y n sums_route.1 c d)

first_alerts : (x : ℕ) (k : List ℕ) (y : ℕ) (n : List ℕ) (z : ℕ) (l : List ℕ)
    → x < 256 → has_slash (x ∷ k) ≡ false → y < 256 → has_slash (y ∷ n) ≡ false → z < 256
    → has_slash (z ∷ l) ≡ false
    → first table (codes "/alerts/" ++ ((x ∷ k) ++ 47 ∷ ((y ∷ n) ++ 47 ∷ z ∷ l)))
    ≡ Some alerts_route.1
first_alerts x k y n z l a b c d e f =
    seek_literal (codes "/alerts/") table ((x ∷ k) ++ 47 ∷ ((y ∷ n) ++ 47 ∷ z ∷ l)) alerts_route.1
    (seek_name x k (256 ∷ 47 ∷ 256 ∷ []) ((y ∷ n) ++ 47 ∷ z ∷ l) alerts_route.1 a b
    ∙ seek_name y n (256 ∷ []) (z ∷ l) alerts_route.1 c d ∙ seek_last z l alerts_route.1 e f)

first_row : (x : ℕ) (k : List ℕ) (y : ℕ) (n : List ℕ) (z : ℕ) (l : List ℕ)
    → x < 256 → has_slash (x ∷ k) ≡ false → y < 256 → has_slash (y ∷ n) ≡ false → z < 256
    → has_slash (z ∷ l) ≡ false
    → first table (codes "/samples/" ++ ((x ∷ k) ++ 47 ∷ ((y ∷ n) ++ 47 ∷ z ∷ l)))
    ≡ Some row_route.1
first_row x k y n z l a b c d e f =
    seek_literal (codes "/samples/") table ((x ∷ k) ++ 47 ∷ ((y ∷ n) ++ 47 ∷ z ∷ l)) row_route.1
    (seek_name x k (256 ∷ 47 ∷ 256 ∷ []) ((y ∷ n) ++ 47 ∷ z ∷ l) row_route.1 a b
    ∙ seek_name y n (256 ∷ []) (z ∷ l) row_route.1 c d ∙ seek_last z l row_route.1 e f)

first_objects : first table (codes "/objects") ≡ Some objects_route.1
unfolding matchit_on_literals
first_objects = refl

first_samples : first table (codes "/samples") ≡ Some samples_route.1
unfolding matchit_on_literals
first_samples = refl

first_tick : first table (codes "/tick") ≡ Some tick_route.1
unfolding matchit_on_literals
first_tick = refl

first_notices : first table (codes "/notices") ≡ Some notices_route.1
unfolding matchit_on_literals
first_notices = refl

first_upgrade : first table (codes "/upgrade") ≡ Some upgrade_route.1
unfolding matchit_on_literals
first_upgrade = refl

first_entries : first table (codes "/entries") ≡ Some entries_route.1
unfolding matchit_on_literals
first_entries = refl

first_exclusions : first table (codes "/exclusions") ≡ Some exclusions_route.1
unfolding matchit_on_literals
first_exclusions = refl

first_zones : first table (codes "/zones") ≡ Some zones_route.1
unfolding matchit_on_literals
first_zones = refl

first_status : first table (codes "/status") ≡ Some status_route.1
unfolding matchit_on_literals
first_status = refl

kind_part : (k : Kind) → IsPart (kind_word k)
kind_part kinds.DataSource = word_part _ refl refl
kind_part kinds.Service = word_part _ refl refl
kind_part kinds.Sli = word_part _ refl refl
kind_part kinds.Slo = word_part _ refl refl
kind_part kinds.AlertPolicy = word_part _ refl refl
kind_part kinds.AlertCondition = word_part _ refl refl
kind_part kinds.AlertNotificationTarget = word_part _ refl refl

-- the same with the parts by themselves

object_first : (k n : List ℕ) → IsPart k → IsPart n
    → first table (codes "/objects/" ++ (k ++ 47 ∷ n)) ≡ Some object_route.1
object_first k n a b =
    rw (a.is, b.is) (first_object a.first a.rest b.first b.rest a.byte a.router b.byte b.router)

burns_first : (k n : List ℕ) → IsPart k → IsPart n
    → first table (codes "/burns/" ++ (k ++ 47 ∷ n)) ≡ Some burns_route.1
burns_first k n a b =
    rw (a.is, b.is) (first_burns a.first a.rest b.first b.rest a.byte a.router b.byte b.router)

sums_first : (k n : List ℕ) → IsPart k → IsPart n
    → first table (codes "/sums/" ++ (k ++ 47 ∷ n)) ≡ Some sums_route.1
sums_first k n a b =
    rw (a.is, b.is) (first_sums a.first a.rest b.first b.rest a.byte a.router b.byte b.router)

alerts_first : (k n l : List ℕ) → IsPart k → IsPart n → IsPart l
    → first table (codes "/alerts/" ++ (k ++ 47 ∷ (n ++ 47 ∷ l))) ≡ Some alerts_route.1
alerts_first k n l a b c =
    rw (a.is, b.is, c.is) (first_alerts a.first a.rest b.first b.rest c.first c.rest a.byte a.router
    b.byte b.router c.byte c.router)

row_first : (k n l : List ℕ) → IsPart k → IsPart n → IsPart l
    → first table (codes "/samples/" ++ (k ++ 47 ∷ (n ++ 47 ∷ l))) ≡ Some row_route.1
row_first k n l a b c =
    rw (a.is, b.is, c.is) (first_row a.first a.rest b.first b.rest c.first c.rest a.byte a.router
    b.byte b.router c.byte c.router)

take_first : (n : List ℕ) → IsPart n
    → first table (codes "/notices/" ++ (n ++ codes "/take")) ≡ Some take_route.1
take_first n a = rw a.is (first_take a.first a.rest a.byte a.router)

exclusion_first : (n : List ℕ) → IsPart n
    → first table (codes "/exclusions/" ++ n) ≡ Some exclusion_route.1
exclusion_first n a = rw a.is (first_exclusion a.first a.rest a.byte a.router)

budgets_first : (n : List ℕ) → IsPart n
    → first table (codes "/budgets/" ++ n) ≡ Some budgets_route.1
budgets_first n a = rw a.is (first_budgets a.first a.rest a.byte a.router)

windows_first : (n : List ℕ) → IsPart n
    → first table (codes "/windows/" ++ n) ≡ Some windows_route.1
windows_first n a = rw a.is (first_windows a.first a.rest a.byte a.router)

-- a place's path has the place's route
located : (path : List ℕ) (p : Place) → IsPath path p
    → (r : RouteOf Route) × (first table path ≡ Some r) × (r.value ≡ route_of p)
located path Objects at = (objects_route.1, ap (first table) at ∙ first_objects, refl)
located path (Object k n) (at, legal) = (
  object_route.1,
  ap (first table) at ∙ object_first (kind_word k) n (kind_part k) (label_part n legal),
  refl,
)
located path (Zone n) (at, legal) =
    let (y, ys, is, small) = zone_parts n legal in (
      zone_route.1,
      ap (first table) (at ∙ ap (λ x. codes "/zones/" ++ x) is) ∙ first_zone y ys small,
      refl,
    )
located path Samples at = (samples_route.1, ap (first table) at ∙ first_samples, refl)
located path (Exclusion id) (at, legal) =
    (exclusion_route.1, ap (first table) at ∙ exclusion_first id (label_part id legal), refl)
located path Tick at = (tick_route.1, ap (first table) at ∙ first_tick, refl)
located path Notices at = (notices_route.1, ap (first table) at ∙ first_notices, refl)
located path (Take n) (digits, at, number) =
    (take_route.1, ap (first table) at ∙ take_first digits (digits_part digits n number), refl)
located path Upgrade at = (upgrade_route.1, ap (first table) at ∙ first_upgrade, refl)
located path (Budgets s) (at, legal) =
    (budgets_route.1, ap (first table) at ∙ budgets_first s (label_part s legal), refl)
located path (Burns s n) (digits, at, legal, number) = (
  burns_route.1,
  ap (first table) at
      ∙ burns_first s digits (label_part s legal) (digits_part digits n number),
  refl,
)
located path (Alerts s n l) (digits, at, legal, number, named) = (
  alerts_route.1,
  ap (first table) at ∙ alerts_first s digits l (label_part s legal)
      (digits_part digits n number) (label_part l named),
  refl,
)
located path Entries at = (entries_route.1, ap (first table) at ∙ first_entries, refl)
located path (Row s u n) (digits, at, legal, named, number) = (
  row_route.1,
  ap (first table) at ∙ row_first s u digits (label_part s legal) (label_part u named)
      (digits_part digits n number),
  refl,
)
located path Exclusions at = (exclusions_route.1, ap (first table) at ∙ first_exclusions, refl)
located path Zones at = (zones_route.1, ap (first table) at ∙ first_zones, refl)
located path Status at = (status_route.1, ap (first table) at ∙ first_status, refl)
located path (Sums s n) (digits, at, legal, number) = (
  sums_route.1,
  ap (first table) at
      ∙ sums_first s digits (label_part s legal) (digits_part digits n number),
  refl,
)
located path (Windows s) (at, legal) =
    (windows_route.1, ap (first table) at ∙ windows_first s (label_part s legal), refl)

same_route : (s r : RouteOf Route) → Some s ≡ Some r → s ≡ r
same_route s r e = cc e

-- what the router's answer and the route's reader make together
pub found_none : (path : List ℕ) → first table path ≡ None → (p : Place) → IsPath path p → ⊥
found_none path none p at = let (r, is, value) = located path p at in absurd (cc (none, is))

-- a place of the path is what its route's reader gives
read_of_route : (path : List ℕ) (r : RouteOf Route) (p : Place) → first table path ≡ Some r
    → IsPath path p → place_by r.value path ≡ Some p
read_of_route path r p is at =
    let (s, other, value) = located path p at in
    let same : route_of p ≡ r.value = sym value
    ∙ ap (λ x. x.value) (same_route s r (sym other ∙ is)) in
    rw (← same) (there path p at)

pub found_some : (path : List ℕ) (r : RouteOf Route) (o : Option Place) → first table path ≡ Some r
    → o ≡ place_by r.value path → Finds path o
found_some path r (Some p) is read = back r.value path p (sym read)
found_some path r None is read = λ p at. absurd (cc (read, read_of_route path r p is at))

-- a path has one place at most
one_place : (path : List ℕ) (p q : Place) → IsPath path p → IsPath path q → p ≡ q
one_place path p q at also =
    let (r, is, value) = located path p at in
    let a = read_of_route path r p is at in
    let b = read_of_route path r q is also in
    same p q (sym a ∙ b)
  where
    same : (p q : Place) → Some p ≡ Some q → p ≡ q
    same p q e = cc e

one_finding : (path : List ℕ) (o u : Option Place) → Finds path o → Finds path u → o ≡ u
one_finding path None None a b = refl
one_finding path None (Some q) a b = absurd (a q b)
one_finding path (Some p) None a b = absurd (b p a)
one_finding path (Some p) (Some q) a b = ap Some (one_place path p q a b)

some_finding : (path : List ℕ) → (o : Option Place) × Finds path o
some_finding path = by (first table path) refl
  where
    by : (f : Option (RouteOf Route)) → first table path ≡ f → (o : Option Place) × Finds path o
    by None e = (None, found_none path e)
    by (Some r) e = (place_by r.value path, found_some path r (place_by r.value path) e refl)

pub one_answer : OneAnswer
one_answer said a b (p, finds, is) (q, also, other) = is
    ∙ ap (λ o. answer_of o said) (one_finding (path_of said.target) p q finds also) ∙ sym other

pub some_answer : SomeAnswer
some_answer said =
    let (o, finds) = some_finding (path_of said.target) in
    (answer_of o said, (o, finds, refl))
