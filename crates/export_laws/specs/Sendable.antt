-- What is known of a catalog whose objects can be sent one after another.
use Rattle.std.specs.Prelude.{◌≡◌, ℕ, false, List, [], ◌∷◌, None, Ok}
use Rattle.std.specs.List.{AllByRecursion}
use Rattle.yaml_terms.specs.Text.{StandsFor}
use Rattle.yaml_terms.specs.Spelling.{meant, writing}
use Rattle.object_terms.specs.declared.Object.{Object}
use Rattle.object_terms.specs.Document.{objects_of, written}
use Rattle.object_terms.specs.Slo.{slo_in}
use Rattle.catalog_terms.specs.Keys.{IsSorted}
use Rattle.slo_catalog.specs.Whole.{CatalogIsWhole}
use Rattle.catalog_terms.specs.Define.{is_reserved}
use Rattle.office_history.specs.Starts.{begins_too_often}
use Rattle.office_history.specs.KnownZones.{unknown_zone_in}
use Rattle.object_laws.specs.Kinds.{kind_of}

-- the canonical writing of an object stands for it alone
pub record IsReadBack (o : Object) : Type 0 where
  pub stands : StandsFor (writing 0 (written o)) (meant (written o) ∷ [])
  pub alone : objects_of (meant (written o)) ≡ Ok (o ∷ [])

-- one member
pub record CanStand (zones : List (List ℕ)) (horizon : ℕ) (o : Object) : Type 0 where
  pub kind_is : kind_of o.body ≡ o.kind
  pub unreserved : is_reserved o ≡ false
  pub zone_is_known : unknown_zone_in zones (slo_in o.body) ≡ None
  pub begins_seldom : begins_too_often horizon o ≡ false

-- all of them
pub record CanBeSent (members : List Object) (zones : List (List ℕ)) (horizon : ℕ) : Type 0 where
  pub sorted : IsSorted members
  pub whole : CatalogIsWhole members
  pub each : AllByRecursion (CanStand zones horizon) members
  pub read_back : AllByRecursion IsReadBack members
