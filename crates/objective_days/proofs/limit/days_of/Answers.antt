use Rattle.std.proofs.Common.{arith}
use Rattle.objective_days.proofs.Current.{days-brought}
use Rattle.objective_days.proofs.limit.days_of.Goals as goal

pub returns-clause-exact : goal.returns-clause-exact
returns-clause-exact c = λ more b. omega (
  arith,
  days-brought c.args.book.now.rows more c.args.new.now c.args.sli c.days_of-brought.result
      c.rows_are_current.ensures b (c.days_of-brought.ensures b.cells b.indexed),
  c.days_of-there.ensures,
)
