-- Steps for names of zones in their order.
use Rattle.std.proofs.Common.{◌≡◌, ◌∙◌, ℕ, List, [], ◌∷◌, map, refl, sym, ap}
use Rattle.office_history.specs.Names.{names_in_order}
use Rattle.export_terms.specs.Zones.{zones_by_name}
use Rattle.export_terms.proofs.NameLemmas.{names_by_name}
use Rattle.office_export.specs.Steps.{zone_steps}
use Rattle.office_export.specs.declared.step.Step.TheVariants as steps

-- the steps of zones are those of the names in their order
pub steps_by_name : (zs : List (List ℕ × List ℕ))
    → map steps.Zone (names_in_order (map (λ (y : List ℕ × List ℕ). y.0) zs)) ≡ zone_steps zs
steps_by_name zs =
    ap (map steps.Zone) (sym (names_by_name zs)) ∙ through (zones_by_name zs)
  where
    through : (ys : List (List ℕ × List ℕ))
        → map steps.Zone (map (λ (y : List ℕ × List ℕ). y.0) ys)
        ≡ map (λ (y : List ℕ × List ℕ). steps.Zone y.0) ys
    through [] = refl
    through (y ∷ ys) = ap (λ ss. steps.Zone y.0 ∷ ss) (through ys)
