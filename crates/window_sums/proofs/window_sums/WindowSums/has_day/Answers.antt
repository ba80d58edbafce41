use Rattle.std.proofs.Common.{ap, sym, ◌∙◌}
use Rattle.window_sums.specs.Slices.{has_day}
use Rattle.window_sums.proofs.DaysFacts.{day-in}
use Rattle.window_sums.proofs.window_sums.WindowSums.has_day.Goals as goal

pub returns-then-counts_events : goal.returns-then-counts_events
returns-then-counts_events c =
    c.has_day.ensures
    ∙ day-in c.self.inside.method c.self.inside.days.entries c.self.inside.pages
    (sym c.counts_events.ensures ∙ c.if-counts_events.true) c.args.day
    ∙ ap (λ s. has_day s c.args.day) c.self.view_is
