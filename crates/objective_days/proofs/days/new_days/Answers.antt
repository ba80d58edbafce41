use Rattle.std.proofs.Common.{◌≡◌, ◌≤◌, List, arith, length, subst, take}
use Rattle.std.proofs.lemmas.Grind.{common_steps}
use Rattle.sample_book.specs.declared.Row.{Row}
use Rattle.objective_days.specs.Days.{BringDays}
use Rattle.objective_days.proofs.Current.{none_brought}
use Rattle.objective_days.proofs.days.new_days.Goals as goal

pub loop-place-init : goal.loop-place-init
loop-place-init c = none_brought c.args.book.now.rows c.new-new.result c.new-new.ensures.indexed

pub returns : goal.returns
returns c =
    let over : length c.args.rows.now ≤ c.loop-place.place =
    omega (arith, c.loop-place-test.false) in
    let all : take c.loop-place.place c.args.rows.now ≡ c.args.rows.now =
    grind (arith, common_steps) in
    subst (λ (rs : List Row). BringDays c.args.book.now.rows rs c.loop-place.new) all
    c.loop-place.invariant
