use Rattle.std.proofs.Common.{nat_le, rules, of_calls}
use Rattle.std.proofs.lemmas.Fn.{always_returns_same}
use Rattle.zone_calendar.proofs.WindowLemmas.{le_of, above_of, passes_below}
use Rattle.zone_calendar.proofs.windows.begun_by.Goals as goal

pub returns-clause-before : goal.returns-clause-before
returns-clause-before c =
    let point = c.partition_point.ensures.partitioned (λ start. nat_le start c.args.minute)
    (always_returns_same _ _ _ (λ a r f k. search (rules, of_calls)))
    (passes_below c.args.starts.now c.args.minute c.requires) in
    λ k below. le_of _ _ (point.0 k 0 (search rules) below)

pub returns-clause-after : goal.returns-clause-after
returns-clause-after c =
    let point = c.partition_point.ensures.partitioned (λ start. nat_le start c.args.minute)
    (always_returns_same _ _ _ (λ a r f k. search (rules, of_calls)))
    (passes_below c.args.starts.now c.args.minute c.requires) in
    λ k from within. above_of _ _ (point.1 k 0 from within)
