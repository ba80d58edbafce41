use Rattle.std.proofs.Common.{take}
use Rattle.objective_days.specs.Days.{BringDays}
use Rattle.objective_days.proofs.days.new_days.Given as goal

-- the days that the rows so far bring
abbrev pub invariant-loop-place : goal.invariant-loop-place
invariant-loop-place l = BringDays l.book.rows (take l.place l.rows) l.new
