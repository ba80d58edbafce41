use Rattle.std.proofs.Common.{◌≡◌, ◌++◌, drop, map}
use Rattle.office_history.specs.Objectives.{measure_of}
use Rattle.catalog_measures.proofs.measures.measures_with.Given as goal

-- the objectives so far and those that are left are all of them
abbrev pub invariant-loop-objective : goal.invariant-loop-objective
invariant-loop-objective l =
    l.measures.items
    ++ map (measure_of l.name l.slo l.reading) (drop l.objective-index l.objective-items)
    ≡ map (measure_of l.name l.slo l.reading) l.slo.objectives
