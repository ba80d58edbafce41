use Rattle.catalog_measures.proofs.ByName.{measures}
use Rattle.catalog_measures.proofs.laws.measures_are_in_range.Goals as goal

pub returns-clause-target : goal.returns-clause-target
returns-clause-target c = λ members slo number m all e.
    (measures c.each_object_reads_back.ensures members slo number m all e).target

pub returns-clause-width : goal.returns-clause-width
returns-clause-width c = λ members slo number m all e.
    (measures c.each_object_reads_back.ensures members slo number m all e).width.divides

pub returns-clause-some : goal.returns-clause-some
returns-clause-some c = λ members slo number m all e.
    (measures c.each_object_reads_back.ensures members slo number m all e).width.some

pub returns-clause-slices : goal.returns-clause-slices
returns-clause-slices c = λ members slo number m all e.
    (measures c.each_object_reads_back.ensures members slo number m all e).slice_target
