use Rattle.std.proofs.Common.{subst, sym}
use Rattle.std.proofs.lemmas.List.Elements.{All-from_recursion}
use Rattle.kept_sums.specs.Objectives.{IsObjective}
use Rattle.history_answers.proofs.budget_list.budget_rows.Goals as goal

pub sum_between-sum-requires-clause-objective : goal.sum_between-sum-requires-clause-objective
sum_between-sum-requires-clause-objective c =
    let members = c.args.derived.now.catalog in
    subst (IsObjective members) (sym c.measure-item.is)
    (All-from_recursion (IsObjective members) c.args.measures.now c.requires.objectives
    c.loop-measure.measure-index c.measure-item.result c.loop-measure-test.true)
