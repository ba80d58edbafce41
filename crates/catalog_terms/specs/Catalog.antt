-- The catalog of a history of definitions and removals.
use Rattle.std.specs.Prelude.{◌≡◌, ℕ, Bool, false, not, ◌&&◌, ◌↔◌, List, [], ◌∷◌, ◌++◌, filter}
use Rattle.std.specs.Str.{bytes_eq}
use Rattle.std.specs.List.{AllByRecursion, Contains}
use Rattle.std.specs.Ordering.{match_ordering}
use Rattle.object_terms.specs.declared.kind.Kind.{Kind}
use Rattle.object_terms.specs.declared.object.Object.{Object}
use Rattle.catalog_terms.specs.Keys.{is_kind, is_key, object_cmp, IsSorted}

-- what changes a catalog: an object is defined, or what has that kind and name is removed
pub data Change : Type 0 where
  Defined : Object → Change
  Removed : Kind → List ℕ → Change

-- whether a change is about that kind and name
abbrev pub is_about : Kind → List ℕ → Change → Bool
is_about kind name (Defined o) = is_key kind name o
is_about kind name (Removed k n) = is_kind kind k && bytes_eq name n

-- An object is a member after changes where one of them defines it, and no later one is about its
-- kind and name.
pub record IsMember (changes : List Change) (o : Object) : Type 0 where
  pub before : List Change
  pub later : List Change
  pub defined : changes ≡ before ++ Defined o ∷ later
  pub last : AllByRecursion (λ e. is_about o.kind o.name e ≡ false) later

-- the catalog of a history: its members, sorted by kind and name
pub record IsCatalog (changes : List Change) (objects : List Object) : Type 0 where
  pub sorted : IsSorted objects
  pub members : (o : Object) → Contains objects o ↔ IsMember changes o

-- an object at its place among sorted ones, where it replaces the one of its kind and name
abbrev pub with_member : Object → List Object → List Object
with_member o [] = o ∷ []
with_member o (p ∷ ps) =
    match_ordering (object_cmp o p) (o ∷ p ∷ ps) (o ∷ ps) (p ∷ with_member o ps)

-- one object after another
abbrev pub with_members : List Object → List Object → List Object
with_members [] os = os
with_members (o ∷ rest) os = with_members rest (with_member o os)

-- the objects but for the one of that kind and name
abbrev pub without : Kind → List ℕ → List Object → List Object
without kind name os = filter (λ o. not (is_key kind name o)) os
