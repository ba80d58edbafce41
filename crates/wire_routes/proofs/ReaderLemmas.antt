-- The readers of the routes find exactly the places of their routes.
use Rattle.std.proofs.Common.{◌≡◌, ℕ, List, [], ◌∷◌, ◌++◌, Bool, true, false, cond, Some}
use Rattle.std.proofs.Common.{option_map, codes, sym, ap, ◌∙◌, refl, subst}
use Rattle.std.specs.Prelude.{◌==◌, option_and_then}
use Rattle.std.specs.List.{list_any}
use Rattle.std.specs.Str.{bytes_eq}
use Rattle.std.proofs.lemmas.Slice.Eq.{bytes_eq-Decides}
use Rattle.exact_fraction.specs.Label.{is_label, label_of}
use Rattle.exact_fraction.specs.ZoneName.{is_zone_name, zone_name_of}
use Rattle.object_terms.specs.Scalars.{all_kinds, kind_word, of_word}
use Rattle.object_terms.specs.declared.kind.Kind.{Kind}
use Rattle.object_terms.specs.declared.kind.Kind.TheVariants as kinds
use Rattle.wire_routes.specs.declared.place.Route.{Route}
use Rattle.wire_routes.specs.declared.place.Route.TheVariants as route
use Rattle.wire_routes.specs.declared.place.Place.{Place}
use Rattle.wire_routes.specs.declared.place.Place.TheVariants.{Objects, Object, Zone, Samples}
use Rattle.wire_routes.specs.declared.place.Place.TheVariants.{Exclusion, Tick, Notices, Take}
use Rattle.wire_routes.specs.declared.place.Place.TheVariants.{Upgrade, Budgets, Burns, Alerts}
use Rattle.wire_routes.specs.declared.place.Place.TheVariants.{Entries}
use Rattle.wire_routes.specs.declared.place.Place.TheVariants.{Row, Exclusions, Zones, Status, Sums}
use Rattle.wire_routes.specs.declared.place.Place.TheVariants.{Windows}
use Rattle.wire_routes.specs.Cuts.{after_word, cut_at, number32}
use Rattle.wire_routes.specs.Places.{IsPath}
use Rattle.wire_routes.specs.Readers.{route_of, fixed_at, object_of, object_at, zone_at}
use Rattle.wire_routes.specs.Readers.{exclusion_at, take_of, take_at, budgets_at, burns_of}
use Rattle.wire_routes.specs.Readers.{burns_at, alerts_of, alerts_in, alerts_at, row_of, row_in}
use Rattle.wire_routes.specs.Readers.{row_at, sums_of, sums_at, windows_at, place_by}
use Rattle.wire_routes.proofs.CutLemmas.{then_back, map_back, cond_back, after_back, cut_joined}
use Rattle.wire_routes.proofs.CutLemmas.{cut_back, label_part, digits_part}

-- the kind of a word
kind_back : (ks : List Kind) (word : List ℕ) (k : Kind) → of_word kind_word ks word ≡ Some k
    → word ≡ kind_word k
kind_back [] word k h = absurd (cc h)
kind_back (first ∷ ks) word k h = by (bytes_eq (kind_word first) word) refl h (kind_back ks word k)
  where
    by : (b : Bool) → bytes_eq (kind_word first) word ≡ b
        → cond b (Some first) (of_word kind_word ks word) ≡ Some k
        → (of_word kind_word ks word ≡ Some k → word ≡ kind_word k) → word ≡ kind_word k
    by true is found more =
        let e : first ≡ k = cc found in
        sym ((bytes_eq-Decides (kind_word first) word).0 is) ∙ ap kind_word e
    by false is found more = more found

kind_there : (k : Kind) → of_word kind_word all_kinds (kind_word k) ≡ Some k
kind_there kinds.DataSource = refl
kind_there kinds.Service = refl
kind_there kinds.Sli = refl
kind_there kinds.Slo = refl
kind_there kinds.AlertPolicy = refl
kind_there kinds.AlertCondition = refl
kind_there kinds.AlertNotificationTarget = refl

kind_plain : (k : Kind) → list_any (λ b. b == 47) (kind_word k) ≡ false
kind_plain kinds.DataSource = refl
kind_plain kinds.Service = refl
kind_plain kinds.Sli = refl
kind_plain kinds.Slo = refl
kind_plain kinds.AlertPolicy = refl
kind_plain kinds.AlertCondition = refl
kind_plain kinds.AlertNotificationTarget = refl

label_there : (x : List ℕ) → is_label x ≡ true → label_of x ≡ Some x
label_there x is = rw is refl

label_back : (x y : List ℕ) → label_of x ≡ Some y → (x ≡ y) × (is_label y ≡ true)
label_back x y h =
    let (is, same) = cond_back (is_label x) (Some x) y h in
    let e : x ≡ y = cc same in
    (e, rw (← e) is)

-- each place is found by its route's reader

object_there : (k : Kind) (n : List ℕ) → is_label n ≡ true
    → object_at (codes "/objects/" ++ (kind_word k ++ 47 ∷ n)) ≡ Some (Object k n)
object_there k n is = rw (
  cut_joined 47 (kind_word k) n (kind_plain k),
  kind_there k,
  label_there n is,
) refl

take_there : (digits : List ℕ) (n : ℕ) → number32 digits ≡ Some n
    → take_at (codes "/notices/" ++ (digits ++ codes "/take")) ≡ Some (Take n)
take_there digits n number =
    rw (cut_joined 47 digits (codes "take") (digits_part digits n number).plain, number) refl

burns_there : (slo digits : List ℕ) (n : ℕ) → is_label slo ≡ true → number32 digits ≡ Some n
    → burns_at (codes "/burns/" ++ (slo ++ 47 ∷ digits)) ≡ Some (Burns slo n)
burns_there slo digits n is number = rw (
  cut_joined 47 slo digits (label_part slo is).plain,
  label_there slo is,
  number,
) refl

alerts_there : (slo digits policy : List ℕ) (n : ℕ) → is_label slo ≡ true → number32 digits ≡ Some n
    → is_label policy ≡ true
    → alerts_at (codes "/alerts/" ++ (slo ++ 47 ∷ (digits ++ 47 ∷ policy)))
    ≡ Some (Alerts slo n policy)
alerts_there slo digits policy n is number legal =
    rw (
      cut_joined 47 slo (digits ++ 47 ∷ policy) (label_part slo is).plain,
      cut_joined 47 digits policy (digits_part digits n number).plain,
      label_there slo is,
      number,
      label_there policy legal,
    ) refl

row_there : (sli source digits : List ℕ) (n : ℕ) → is_label sli ≡ true → is_label source ≡ true
    → number32 digits ≡ Some n
    → row_at (codes "/samples/" ++ (sli ++ 47 ∷ (source ++ 47 ∷ digits))) ≡ Some (Row sli source n)
row_there sli source digits n is legal number =
    rw (
      cut_joined 47 sli (source ++ 47 ∷ digits) (label_part sli is).plain,
      cut_joined 47 source digits (label_part source legal).plain,
      label_there sli is,
      label_there source legal,
      number,
    ) refl

sums_there : (slo digits : List ℕ) (n : ℕ) → is_label slo ≡ true → number32 digits ≡ Some n
    → sums_at (codes "/sums/" ++ (slo ++ 47 ∷ digits)) ≡ Some (Sums slo n)
sums_there slo digits n is number = rw (
  cut_joined 47 slo digits (label_part slo is).plain,
  label_there slo is,
  number,
) refl

fixed_there : (word path : List ℕ) (p : Place) → path ≡ word → fixed_at word p path ≡ Some p
fixed_there word path p at = rw ((bytes_eq-Decides path word).1 at) refl

pub there : (path : List ℕ) (p : Place) → IsPath path p → place_by (route_of p) path ≡ Some p
there path Objects at = fixed_there (codes "/objects") path Objects at
there path (Object k n) (at, legal) = ap object_at at ∙ object_there k n legal
there path (Zone n) (at, legal) = ap zone_at at ∙ rw legal refl
there path Samples at = fixed_there (codes "/samples") path Samples at
there path (Exclusion id) (at, legal) = ap exclusion_at at ∙ rw legal refl
there path Tick at = fixed_there (codes "/tick") path Tick at
there path Notices at = fixed_there (codes "/notices") path Notices at
there path (Take n) (digits, at, number) = ap take_at at ∙ take_there digits n number
there path Upgrade at = fixed_there (codes "/upgrade") path Upgrade at
there path (Budgets s) (at, legal) = ap budgets_at at ∙ rw legal refl
there path (Burns s n) (digits, at, legal, number) = ap burns_at at
    ∙ burns_there s digits n legal number
there path (Alerts s n l) (digits, at, legal, number, named) = ap alerts_at at
    ∙ alerts_there s digits l n legal number named
there path Entries at = fixed_there (codes "/entries") path Entries at
there path (Row s u n) (digits, at, legal, named, number) = ap row_at at
    ∙ row_there s u digits n legal named number
there path Exclusions at = fixed_there (codes "/exclusions") path Exclusions at
there path Zones at = fixed_there (codes "/zones") path Zones at
there path Status at = fixed_there (codes "/status") path Status at
there path (Sums s n) (digits, at, legal, number) = ap sums_at at
    ∙ sums_there s digits n legal number
there path (Windows s) (at, legal) = ap windows_at at ∙ rw legal refl

-- what a reader finds is the path's

fixed_back : (word path : List ℕ) (place p : Place) → fixed_at word place path ≡ Some p
    → (path ≡ word) × (place ≡ p)
fixed_back word path place p h =
    let (same, e) = cond_back (bytes_eq path word) (Some place) p h in
    ((bytes_eq-Decides path word).0 same, cc e)

behind : (word path rest tail : List ℕ) → after_word word path ≡ Some rest → rest ≡ tail
    → path ≡ word ++ tail
behind word path rest tail begins is = after_back word path rest begins ∙ ap (λ x. word ++ x) is

object_back : (path : List ℕ) (p : Place) → object_at path ≡ Some p → IsPath path p
object_back path p h =
    let (rest, begins, more) = then_back (after_word (codes "/objects/") path)
    (λ rest. option_and_then (λ p. object_of p.0 p.1) (cut_at 47 rest)) p h in
    let (parts, cut, made) = then_back (cut_at 47 rest) (λ p. object_of p.0 p.1) p more in
    let (k, kind, named) = then_back (of_word kind_word all_kinds parts.0)
    (λ k. option_map (λ n. Object k n) (label_of parts.1)) p made in
    let (n, label, is) = map_back (label_of parts.1) (λ n. Object k n) p named in
    let (same, legal) = label_back parts.1 n label in
    subst (IsPath path) is (
      behind (codes "/objects/") path rest (kind_word k ++ 47 ∷ n) begins
          (cut_back 47 rest parts.0 parts.1 cut ∙ ap (λ x. x ++ 47 ∷ parts.1)
          (kind_back all_kinds parts.0 k kind) ∙ ap (λ x. kind_word k ++ 47 ∷ x) same),
      legal,
    )

zone_back : (path : List ℕ) (p : Place) → zone_at path ≡ Some p → IsPath path p
zone_back path p h =
    let (rest, begins, more) = then_back (after_word (codes "/zones/") path)
    (λ rest. option_map (λ n. Zone n) (zone_name_of rest)) p h in
    let (n, name, is) = map_back (zone_name_of rest) (λ n. Zone n) p more in
    let (legal, same) = cond_back (is_zone_name rest) (Some rest) n name in
    let e : rest ≡ n = cc same in
    subst (IsPath path) is (behind (codes "/zones/") path rest n begins e, rw (← e) legal)

-- a route of one label
labelled : (word path : List ℕ) (make : List ℕ → Place) (p : Place)
    → option_and_then (λ rest. option_map make (label_of rest)) (after_word word path) ≡ Some p
    → (n : List ℕ) × (make n ≡ p) × (path ≡ word ++ n) × (is_label n ≡ true)
labelled word path make p h =
    let (rest, begins, more) =
    then_back (after_word word path) (λ rest. option_map make (label_of rest)) p h in
    let (n, label, is) = map_back (label_of rest) make p more in
    let (same, legal) = label_back rest n label in
    (n, is, behind word path rest n begins same, legal)

take_back : (path : List ℕ) (p : Place) → take_at path ≡ Some p → IsPath path p
take_back path p h =
    let (rest, begins, more) = then_back (after_word (codes "/notices/") path)
    (λ rest. option_and_then (λ p. take_of p.0 p.1) (cut_at 47 rest)) p h in
    let (parts, cut, made) = then_back (cut_at 47 rest) (λ p. take_of p.0 p.1) p more in
    let (last, found) = cond_back (bytes_eq parts.1 (codes "take"))
    (option_map (λ n. Take n) (number32 parts.0)) p made in
    let (n, number, is) = map_back (number32 parts.0) (λ n. Take n) p found in
    let word = (bytes_eq-Decides parts.1 (codes "take")).0 last in
    subst (IsPath path) is (
      parts.0,
      behind (codes "/notices/") path rest (parts.0 ++ codes "/take") begins
          (cut_back 47 rest parts.0 parts.1 cut ∙ ap (λ x. parts.0 ++ 47 ∷ x) word),
      number,
    )

burns_back : (path : List ℕ) (p : Place) → burns_at path ≡ Some p → IsPath path p
burns_back path p h =
    let (rest, begins, more) = then_back (after_word (codes "/burns/") path)
    (λ rest. option_and_then (λ p. burns_of p.0 p.1) (cut_at 47 rest)) p h in
    let (parts, cut, made) = then_back (cut_at 47 rest) (λ p. burns_of p.0 p.1) p more in
    let (s, label, found) =
    then_back (label_of parts.0) (λ s. option_map (λ n. Burns s n) (number32 parts.1)) p made in
    let (n, number, is) = map_back (number32 parts.1) (λ n. Burns s n) p found in
    let (same, legal) = label_back parts.0 s label in
    subst (IsPath path) is (
      parts.1,
      behind (codes "/burns/") path rest (s ++ 47 ∷ parts.1) begins
          (cut_back 47 rest parts.0 parts.1 cut ∙ ap (λ x. x ++ 47 ∷ parts.1) same),
      legal,
      number,
    )

alerts_back : (path : List ℕ) (p : Place) → alerts_at path ≡ Some p → IsPath path p
alerts_back path p h =
    let (rest, begins, more) = then_back (after_word (codes "/alerts/") path)
    (λ rest. option_and_then (λ p. alerts_in p.0 p.1) (cut_at 47 rest)) p h in
    let (parts, cut, inner) = then_back (cut_at 47 rest) (λ p. alerts_in p.0 p.1) p more in
    let (ends, cut_again, made) =
    then_back (cut_at 47 parts.1) (λ q. alerts_of parts.0 q.0 q.1) p inner in
    let (s, label, numbered) = then_back (label_of parts.0) (λ s. option_and_then
    (λ n. option_map (λ l. Alerts s n l) (label_of ends.1)) (number32 ends.0)) p made in
    let (n, number, found) = then_back (number32 ends.0)
    (λ n. option_map (λ l. Alerts s n l) (label_of ends.1)) p numbered in
    let (l, policy, is) = map_back (label_of ends.1) (λ l. Alerts s n l) p found in
    let (same, legal) = label_back parts.0 s label in
    let (same_policy, named) = label_back ends.1 l policy in
    subst (IsPath path) is (
      ends.0,
      behind (codes "/alerts/") path rest (s ++ 47 ∷ (ends.0 ++ 47 ∷ l)) begins
          (cut_back 47 rest parts.0 parts.1 cut ∙ ap (λ x. x ++ 47 ∷ parts.1) same
          ∙ ap (λ x. s ++ 47 ∷ x) (cut_back 47 parts.1 ends.0 ends.1 cut_again
          ∙ ap (λ x. ends.0 ++ 47 ∷ x) same_policy)),
      legal,
      number,
      named,
    )

row_back : (path : List ℕ) (p : Place) → row_at path ≡ Some p → IsPath path p
row_back path p h =
    let (rest, begins, more) = then_back (after_word (codes "/samples/") path)
    (λ rest. option_and_then (λ p. row_in p.0 p.1) (cut_at 47 rest)) p h in
    let (parts, cut, inner) = then_back (cut_at 47 rest) (λ p. row_in p.0 p.1) p more in
    let (ends, cut_again, made) =
    then_back (cut_at 47 parts.1) (λ q. row_of parts.0 q.0 q.1) p inner in
    let (s, label, sourced) = then_back (label_of parts.0) (λ s. option_and_then
    (λ u. option_map (λ n. Row s u n) (number32 ends.1)) (label_of ends.0)) p made in
    let (u, source, found) = then_back (label_of ends.0)
    (λ u. option_map (λ n. Row s u n) (number32 ends.1)) p sourced in
    let (n, number, is) = map_back (number32 ends.1) (λ n. Row s u n) p found in
    let (same, legal) = label_back parts.0 s label in
    let (same_source, named) = label_back ends.0 u source in
    subst (IsPath path) is (
      ends.1,
      behind (codes "/samples/") path rest (s ++ 47 ∷ (u ++ 47 ∷ ends.1)) begins
          (cut_back 47 rest parts.0 parts.1 cut ∙ ap (λ x. x ++ 47 ∷ parts.1) same
          ∙ ap (λ x. s ++ 47 ∷ x) (cut_back 47 parts.1 ends.0 ends.1 cut_again
          ∙ ap (λ x. x ++ 47 ∷ ends.1) same_source)),
      legal,
      named,
      number,
    )

sums_back : (path : List ℕ) (p : Place) → sums_at path ≡ Some p → IsPath path p
sums_back path p h =
    let (rest, begins, more) = then_back (after_word (codes "/sums/") path)
    (λ rest. option_and_then (λ p. sums_of p.0 p.1) (cut_at 47 rest)) p h in
    let (parts, cut, made) = then_back (cut_at 47 rest) (λ p. sums_of p.0 p.1) p more in
    let (s, label, found) =
    then_back (label_of parts.0) (λ s. option_map (λ n. Sums s n) (number32 parts.1)) p made in
    let (n, number, is) = map_back (number32 parts.1) (λ n. Sums s n) p found in
    let (same, legal) = label_back parts.0 s label in
    subst (IsPath path) is (
      parts.1,
      behind (codes "/sums/") path rest (s ++ 47 ∷ parts.1) begins
          (cut_back 47 rest parts.0 parts.1 cut ∙ ap (λ x. x ++ 47 ∷ parts.1) same),
      legal,
      number,
    )

pub back : (r : Route) (path : List ℕ) (p : Place) → place_by r path ≡ Some p → IsPath path p
back route.Objects path p h =
    (let (at, is) = fixed_back (codes "/objects") path Objects p h in subst (IsPath path) is at)
back route.Object path p h = object_back path p h
back route.Zone path p h = zone_back path p h
back route.Samples path p h =
    (let (at, is) = fixed_back (codes "/samples") path Samples p h in subst (IsPath path) is at)
back route.Exclusion path p h =
    (let (n, is, at, legal) = labelled (codes "/exclusions/") path (λ n. Exclusion n) p h in
    subst (IsPath path) is (at, legal))
back route.Tick path p h =
    (let (at, is) = fixed_back (codes "/tick") path Tick p h in subst (IsPath path) is at)
back route.Notices path p h =
    (let (at, is) = fixed_back (codes "/notices") path Notices p h in subst (IsPath path) is at)
back route.Take path p h = take_back path p h
back route.Upgrade path p h =
    (let (at, is) = fixed_back (codes "/upgrade") path Upgrade p h in subst (IsPath path) is at)
back route.Budgets path p h = (let (n, is, at, legal) =
    labelled (codes "/budgets/") path (λ n. Budgets n) p h in subst (IsPath path) is (at, legal))
back route.Burns path p h = burns_back path p h
back route.Alerts path p h = alerts_back path p h
back route.Entries path p h =
    (let (at, is) = fixed_back (codes "/entries") path Entries p h in subst (IsPath path) is at)
back route.Row path p h = row_back path p h
back route.Exclusions path p h = (let (at, is) =
    fixed_back (codes "/exclusions") path Exclusions p h in subst (IsPath path) is at)
back route.Zones path p h =
    (let (at, is) = fixed_back (codes "/zones") path Zones p h in subst (IsPath path) is at)
back route.Status path p h =
    (let (at, is) = fixed_back (codes "/status") path Status p h in subst (IsPath path) is at)
back route.Sums path p h = sums_back path p h
back route.Windows path p h = (let (n, is, at, legal) =
    labelled (codes "/windows/") path (λ n. Windows n) p h in subst (IsPath path) is (at, legal))
