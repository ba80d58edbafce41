use Rattle.std.proofs.Common.{◌≡◌, ◌∙◌, subst, sym, All, Some}
use Rattle.std.specs.List.{AllByRecursion}
use Rattle.std.proofs.lemmas.List.Elements.{recursion_from_All}
use Rattle.catalog_measures.specs.Measures.{IsMeasure}
use Rattle.object_laws.specs.Ranges as ranges
use Rattle.office_history.specs.Objectives.{measure_of, measures_named, reading_named, slo_named}
use Rattle.object_terms.specs.declared.Slo.{Slo}
use Rattle.kept_sums.specs.Objectives.{IsObjective}
use Rattle.kept_sums.proofs.ObjectiveLemmas.{all_objectives}
use Rattle.catalog_measures.proofs.CatalogLemmas.{all_made, measures_there}
use Rattle.catalog_measures.proofs.measures.measures_named.Goals as goal

pub returns-clause-ranges : goal.returns-clause-ranges
returns-clause-ranges c =
    let slo : Slo = c.in-Some.slo.now in
    let reading = c.in-Some-reading_named.reading in
    subst (All IsMeasure) (sym c.in_ok-measures.ensures)
    (all_made (ranges.IsObjective slo.budgeting_method) IsMeasure
    (measure_of c.args.name slo reading)
    (λ objective. c.objectives_give_measures.ensures c.args.name slo reading objective)
    slo.objectives c.in-Some.ensures.ranges.each)

pub returns-clause-objectives : goal.returns-clause-objectives
returns-clause-objectives c =
    let members = c.args.catalog.now in
    let slo : Slo = c.in-Some.slo.now in
    let reading = c.in-Some-reading_named.reading in
    let named : reading_named members slo.indicator ≡ Some reading =
    sym c.reading_named.ensures ∙ c.in-Some-reading_named.is in
    let there : slo_named members c.args.name ≡ Some slo = sym c.in-Some.ensures.there in
    subst (AllByRecursion (IsObjective members))
    (measures_there members c.args.name slo reading there named ∙ sym c.in_ok-measures.ensures)
    (recursion_from_All (IsObjective members) (measures_named members c.args.name)
    (all_objectives members c.args.name))
