-- The names of zones by name are the names in their order.
use Rattle.std.proofs.Common.{◌≡◌, ◌∙◌, ℕ, List, [], ◌∷◌, map, refl, ap, nat_cmp, Ordering, Less}
use Rattle.std.proofs.Common.{Equal, Greater}
use Rattle.std.specs.Ordering.{match_ordering}
use Rattle.std.specs.Cmp.Lexicographic.{slice_cmp}
use Rattle.office_history.specs.Names.{names_in_order, with_name}
use Rattle.export_terms.specs.Zones.{with_zone, zones_by_name}

names_put : (z : List ℕ × List ℕ) (zs : List (List ℕ × List ℕ))
    → map (λ (y : List ℕ × List ℕ). y.0) (with_zone z zs)
    ≡ with_name z.0 (map (λ (y : List ℕ × List ℕ). y.0) zs)
names_put z [] = refl
names_put z (y ∷ ys) = by (slice_cmp nat_cmp z.0 y.0) (names_put z ys)
  where
    by : (r : Ordering) → map (λ (y : List ℕ × List ℕ). y.0) (with_zone z ys)
        ≡ with_name z.0 (map (λ (y : List ℕ × List ℕ). y.0) ys)
        → map (λ (y : List ℕ × List ℕ). y.0)
        (match_ordering r (z ∷ y ∷ ys) (z ∷ y ∷ ys) (y ∷ with_zone z ys))
        ≡ match_ordering r (z.0 ∷ y.0 ∷ map (λ (y : List ℕ × List ℕ). y.0) ys)
        (z.0 ∷ y.0 ∷ map (λ (y : List ℕ × List ℕ). y.0) ys)
        (y.0 ∷ with_name z.0 (map (λ (y : List ℕ × List ℕ). y.0) ys))
    by Less more = refl
    by Equal more = refl
    by Greater more = ap (λ ns. y.0 ∷ ns) more

pub names_by_name : (zs : List (List ℕ × List ℕ))
    → map (λ (y : List ℕ × List ℕ). y.0) (zones_by_name zs)
    ≡ names_in_order (map (λ (y : List ℕ × List ℕ). y.0) zs)
names_by_name [] = refl
names_by_name (z ∷ zs) = names_put z (zones_by_name zs) ∙ ap (with_name z.0) (names_by_name zs)
