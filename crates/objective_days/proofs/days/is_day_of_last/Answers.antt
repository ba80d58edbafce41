use Rattle.std.proofs.Common.{◌/◌, ◌∙◌, arith, sym}
use Rattle.slo_limits.specs.declared.TheConstants.{MINUTES_A_DAY}
use Rattle.objective_days.proofs.Current.{last_has}
use Rattle.objective_days.proofs.days.is_day_of_last.Goals as goal

pub returns : goal.returns
returns c = λ is.
    last_has c.args.rows.now c.args.place c.index-rows-place.result c.args.row.now.sli
    (c.args.row.now.minute / MINUTES_A_DAY) (omega (arith, c.if-place-eq0.false)) c.requires
    c.index-rows-place.is (sym c.is_of_day.ensures ∙ is)
