-- The sums that a machine keeps, as they are seen: each objective beside its own.
use Rattle.std.specs.Prelude.{List, map}
use Rattle.std.specs.List.{flat_map}
use Rattle.object_terms.specs.declared.Object.{Object}
use Rattle.office_history.specs.declared.Measure.{Measure}
use Rattle.kept_sums.specs.Keys.{sums_for}
use Rattle.kept_sums.specs.Objectives.{KeptObjectives}
use Rattle.kept_sums.specs.declared.ObjectiveSums.{ObjectiveSums}
use Rattle.catalog_changes.specs.Wanted.{objectives_in}

-- an objective beside its sums
abbrev pub sums_beside : KeptObjectives → Measure → List ObjectiveSums
sums_beside kept m =
    map (λ (k : ObjectiveSums). record { measure = m; sums = k.sums }) (sums_for kept m)

-- each objective of the catalog beside its sums
abbrev pub sums_seen : List Object → KeptObjectives → List ObjectiveSums
sums_seen members kept = flat_map (sums_beside kept) (objectives_in members)
