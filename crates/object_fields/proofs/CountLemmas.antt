-- How many items a list has.
use Rattle.std.proofs.Common.{◌≡◌, ◌≤◌, List, [], ◌∷◌, length, None, refl, arith}
use Rattle.yaml_terms.specs.declared.Node.{Node}
use Rattle.object_terms.specs.Form.{count, only_in}
use Rattle.object_fields.specs.Reading.{trees_view}

pub count_trees : (ns : List Node) → count (trees_view ns) ≡ length ns
count_trees [] = refl
count_trees (n ∷ ns) = let e = count_trees ns in grind (arith, e)

-- a list of two or more has no only item
pub only_none : (ns : List Node) → 2 ≤ length ns → None ≡ only_in (trees_view ns)
only_none [] h = refl
only_none (n ∷ []) h = absurd (omega (arith, h))
only_none (n ∷ m ∷ ns) h = refl
