-- What the requests of a session come to.
use Rattle.std.specs.Prelude.{Bool, true, false, Option, None, if◌then◌else◌}
use Rattle.std.specs.Prelude.{is_none, slice_get}
use Rattle.office_outside.specs.Faults.{next_count}
use Rattle.record_form.specs.Words.{failure_of}
use Rattle.record_form.specs.declared.BudgetRow.{BudgetRow}
use Rattle.record_form.specs.declared.Outcome.{Outcome}
use Rattle.record_form.specs.declared.Outcome.TheVariants.{Budgets, DiskFault, NoMemory}
use Rattle.generate_command.specs.declared.tally.SessionTally.{SessionTally}

-- whether an outcome is answered with status 200
abbrev pub is_ok : Outcome → Bool
is_ok outcome = is_none (failure_of outcome)

-- whether an outcome came for want of memory, or by a failure of the disk
abbrev pub is_lack : Outcome → Bool
is_lack NoMemory = true
is_lack DiskFault = true
is_lack _ = false

-- the budget of objective 0 that was told last, the first one of its SLO
abbrev pub budget_told : Outcome → Option BudgetRow → Option BudgetRow
budget_told (Budgets at budgets entries) before = slice_get budgets 0
budget_told _ before = before

abbrev pub no_tally : SessionTally
no_tally = record { requests = 0; ok = 0; budget = None }

-- the tally with one more outcome; a count stops at the last value of its type
abbrev pub tally_with : Outcome → SessionTally → SessionTally
tally_with outcome tally = record {
  requests = next_count tally.requests;
  ok = if is_ok outcome then next_count tally.ok else tally.ok;
  budget = budget_told outcome tally.budget;
}
