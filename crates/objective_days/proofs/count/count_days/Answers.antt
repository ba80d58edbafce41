use Rattle.std.proofs.Common.{◌≡◌, ◌≤◌, List, length, subst, sym}
use Rattle.slo_limits.specs.declared.TheConstants.{MAX_OBJECTS}
use Rattle.object_terms.specs.declared.Object.{Object}
use Rattle.office_history.specs.Batches.{objective_days}
use Rattle.objective_days.proofs.Passing.{few_members}
use Rattle.objective_days.proofs.count.count_days.Goals as goal

pub days_of_members-requires : goal.days_of_members-requires
days_of_members-requires c = record {
  few = subst (λ (ms : List Object). length ms ≤ MAX_OBJECTS) (sym c.members.ensures.all)
      (few_members c.args.catalog.now c.is_whole.ensures.within);
}

pub returns : goal.returns
returns c = subst (λ (ms : List Object). c.days_of_members.result
    ≡ objective_days ms c.args.book.now.rows) c.members.ensures.all c.days_of_members.ensures
