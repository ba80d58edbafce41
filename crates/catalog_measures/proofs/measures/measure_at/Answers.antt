use Rattle.std.proofs.Common.{◌≡◌, ◌∙◌, ap, List, option_map, slice_get, subst, sym, Some}
use Rattle.std.proofs.lemmas.Option.{slice_get-map}
use Rattle.catalog_measures.specs.Measures.{IsMeasure}
use Rattle.object_laws.specs.Ranges.{IsObjective}
use Rattle.object_terms.specs.declared.Objective.{Objective}
use Rattle.object_terms.specs.declared.Slo.{Slo}
use Rattle.sample_book.proofs.TallyLemmas.{all_at}
use Rattle.office_history.specs.declared.Measure.{Measure}
use Rattle.office_history.specs.Objectives.{measure_at, measure_of}
use Rattle.kept_sums.proofs.ObjectiveLemmas.{objective_at}
use Rattle.catalog_measures.proofs.CatalogLemmas.{measures_there}
use Rattle.catalog_measures.proofs.measures.measure_at.Goals as goal

pub returns-clause-ranges : goal.returns-clause-ranges
returns-clause-ranges c =
    let objective : Objective = c.in_ok-objective.objective.now in
    let slo : Slo = c.in_ok-slo.slo.now in
    let here : slice_get slo.objectives c.args.number ≡ Some objective =
    sym c.in_ok-objective.ensures in
    subst IsMeasure (sym c.measure_of.ensures)
    (c.objectives_give_measures.ensures c.args.name slo c.in_ok-reading.reading objective
    (all_at (IsObjective slo.budgeting_method) slo.objectives c.args.number objective
    c.in_ok-slo.ensures.ranges.each here))

pub returns-clause-objective : goal.returns-clause-objective
returns-clause-objective c =
    let slo : Slo = c.in_ok-slo.slo.now in
    let number = c.args.number in
    let made = measure_of c.args.name slo c.in_ok-reading.reading in
    let value : measure_at c.args.catalog.now c.args.name number ≡ Some c.measure_of.result =
    ap (λ (ms : List Measure). slice_get ms number)
    (measures_there c.args.catalog.now c.args.name slo c.in_ok-reading.reading
    (sym c.in_ok-slo.ensures.there) (sym c.in_ok-reading.ensures))
    ∙ slice_get-map made slo.objectives number
    ∙ ap (option_map made) (sym c.in_ok-objective.ensures)
    ∙ ap Some (sym c.measure_of.ensures) in
    objective_at c.args.catalog.now c.args.name number c.measure_of.result value
