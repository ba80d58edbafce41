-- Kinds and names: the keys of a catalog.
use Rattle.std.specs.Prelude.{◌≡◌, ℕ, Bool, ◌&&◌, cond, List, [], ◌∷◌, Option, Some, None}
use Rattle.std.specs.Str.{bytes_eq}
use Rattle.std.specs.List.{AllByRecursion}
use Rattle.std.specs.Ordering.{nat_cmp, ordering_then}
use Rattle.std.specs.declared.cmp.Ordering.{Ordering}
use Rattle.std.specs.declared.cmp.Ordering.TheVariants.{Less}
use Rattle.std.specs.Cmp.Lexicographic.{slice_cmp}
use Rattle.object_terms.specs.declared.kind.Kind.{Kind}
use Rattle.object_terms.specs.contracts.kind.KindPartialEq.TheImpl as kind_equality
use Rattle.object_terms.specs.contracts.kind.KindOrd.TheImpl as kind_order
use Rattle.object_terms.specs.declared.object.Object.{Object}

-- whether two kinds are one: the derived `==` of kinds
abbrev pub is_kind : Kind → Kind → Bool
is_kind = (kind_equality.ghosts).eq

-- which of two kinds comes first: the derived order of kinds, in which the type lists them
abbrev pub kind_cmp : Kind → Kind → Ordering
kind_cmp = (kind_order.ghosts).cmp

-- whether an object is of that kind and name
abbrev pub is_key : Kind → List ℕ → Object → Bool
is_key kind name o = is_kind o.kind kind && bytes_eq o.name name

-- the first of the objects that is of that kind and name
abbrev pub member_of : List Object → Kind → List ℕ → Option Object
member_of [] kind name = None
member_of (o ∷ os) kind name = cond (is_key kind name o) (Some o) (member_of os kind name)

-- kinds come in their order, and objects of one kind by the bytes of their names
abbrev pub key_cmp : Kind → List ℕ → Kind → List ℕ → Ordering
key_cmp k n l m = ordering_then (kind_cmp k l) (slice_cmp nat_cmp n m)

abbrev pub object_cmp : Object → Object → Ordering
object_cmp o p = key_cmp o.kind o.name p.kind p.name

-- the first object comes before the second
abbrev pub ComesBefore : Object → Object → Type 0
ComesBefore o p = object_cmp o p ≡ Less

-- each object comes before all that stand behind it; so no kind and name is there twice
abbrev pub IsSorted : List Object → Type 0
IsSorted [] = Unit {0}
IsSorted (o ∷ os) = AllByRecursion (ComesBefore o) os × IsSorted os
