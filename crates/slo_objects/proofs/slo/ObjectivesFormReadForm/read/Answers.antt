use Rattle.std.proofs.Common.{◌≡◌, true, rules, sym}
use Rattle.object_terms.specs.Form.{count}
use Rattle.object_fields.specs.Reading.{trees_view}
use Rattle.object_terms.specs.Slo.{is_objective_count, objective_item}
use Rattle.object_fields.proofs.ListLemmas.{reads_each}
use Rattle.slo_objects.proofs.slo.ObjectivesFormReadForm.read.Goals as goal

pub returns : goal.returns
returns c =
    let items = trees_view c.in-Some.items.now in
    let e : is_objective_count (count (trees_view c.in-Some.items.now)) ≡ true = search rules in
    rw (sym c.in-Some.ensures, e)
    (reads_each (objective_item c.args.self.now.method c.args.key.now) _ _ _ items
    c.each_objective.ensures)
