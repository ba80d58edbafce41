-- Whose objectives a catalog has.
use Rattle.std.specs.Prelude.{ℕ, Bool, true, false, List, map, filter}
use Rattle.object_terms.specs.declared.Kind.{Kind}
use Rattle.object_terms.specs.declared.Kind.TheVariants as kinds
use Rattle.object_terms.specs.declared.Object.{Object}

abbrev pub is_slo : Kind → Bool
is_slo kinds.Slo = true
is_slo _ = false

-- the names of a catalog's SLOs, in its order: by their bytes
abbrev pub slo_names : List Object → List (List ℕ)
slo_names members = map (λ o. o.name) (filter (λ (o : Object). is_slo o.kind) members)
