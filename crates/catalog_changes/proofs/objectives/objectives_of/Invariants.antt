use Rattle.std.proofs.Common.{◌≡◌, ◌++◌, All, drop}
use Rattle.std.specs.List.{flat_map}
use Rattle.catalog_measures.specs.Measures.{IsMeasure}
use Rattle.office_history.specs.Objectives.{measures_named}
use Rattle.catalog_changes.proofs.objectives.objectives_of.Given as goal

-- the objectives so far and those of the SLOs that are left are those of all
abbrev pub invariant-loop-name : goal.invariant-loop-name
invariant-loop-name l = record {
  all :
      l.wanted.items ++ flat_map (measures_named l.catalog) (drop l.name-index l.name-items)
      ≡ flat_map (measures_named l.catalog) l.name-items;
  ranges : All IsMeasure l.wanted.items;
}
