-- None, one or several values of a name.
use Rattle.std.specs.Prelude.{ℕ, List, [], ◌∷◌, Option, Some, None}
use Rattle.message_heads.specs.declared.fields.Named.{Named}
use Rattle.message_heads.specs.declared.fields.Named.TheVariants.{Absent, One, Several}

-- the one value, none where there is none or there are several
abbrev pub sort_of : List (List ℕ) → Option (Option (List ℕ))
sort_of [] = Some None
sort_of (v ∷ []) = Some (Some v)
sort_of _ = None

-- what was found under a name, as `sort_of` says it
abbrev pub named_of : Named → Option (Option (List ℕ))
named_of Absent = Some None
named_of (One v) = Some (Some v.now)
named_of Several = None
