-- Where members stand in a sorted list.
use Rattle.std.specs.Prelude.{◌≡◌, ◌≤◌, ◌<◌, ℕ, List, length, take, drop, get_or}
use Rattle.std.specs.List.{AllByRecursion}
use Rattle.std.specs.declared.cmp.Ordering.{Ordering}
use Rattle.std.specs.declared.cmp.Ordering.TheVariants.{Less, Equal, Greater}
use Rattle.object_terms.specs.declared.kind.Kind.{Kind}
use Rattle.object_terms.specs.declared.object.Object.{Object}
use Rattle.catalog_terms.specs.Keys.{key_cmp}

-- whether an object comes before a kind and name, is of them, or comes behind them
abbrev pub to : Kind → List ℕ → Object → Ordering
to kind name o = key_cmp o.kind o.name kind name

-- the object at that place is of that kind and name, and those ahead of it come before them
pub record StandsAt (kind : Kind) (name : List ℕ) (os : List Object) (place : ℕ) : Type 0 where
  pub within : place < length os
  pub ahead : AllByRecursion (λ o. to kind name o ≡ Less) (take place os)
  pub here : (d : Object) → to kind name (get_or os place d) ≡ Equal

-- those ahead of that place come before that kind and name, and the others behind them
pub record BelongsAt (kind : Kind) (name : List ℕ) (os : List Object) (place : ℕ) : Type 0 where
  pub within : place ≤ length os
  pub ahead : AllByRecursion (λ o. to kind name o ≡ Less) (take place os)
  pub behind : AllByRecursion (λ o. to kind name o ≡ Greater) (drop place os)
