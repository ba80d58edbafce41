use Rattle.std.proofs.Common.{◌∙◌, sym, subst}
use Rattle.std.specs.Int.{◌∣◌}
use Rattle.window_sums.specs.Slices.{width_of}
use Rattle.window_sums.proofs.DaysFacts.{DaysAreKept-none, no-days}
use Rattle.window_sums.proofs.WidthFacts.{hour-divides}
use Rattle.window_sums.proofs.window_sums.WindowSums.new.Goals as goal

pub new-requires-2 : goal.new-requires-2
new-requires-2 c = record {
  hour = subst (λ n. n ∣ 60) (sym c.slices_an_hour.ensures.value)
      (hour-divides (width_of c.args.method) c.requires.width);
}

pub invariant_of-result : goal.invariant_of-result
invariant_of-result c =
    DaysAreKept-none c.args.method c.new.result.entries c.new-2.result c.requires.width
    (c.new-2.ensures.per_hour ∙ c.slices_an_hour.ensures.value) c.new.ensures.empty
    c.new-2.ensures.days

pub returns-clause-days : goal.returns-clause-days
returns-clause-days c =
    no-days c.args.method c.new.result.entries c.new-2.result c.new.ensures.empty
    c.new-2.ensures.days
