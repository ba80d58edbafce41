use Rattle.std.proofs.Common.{rules, of_calls}
use Rattle.std.proofs.lemmas.Fn.{always_returns_same}
use Rattle.sample_book.specs.Reaches.{begins_by}
use Rattle.sample_book.proofs.ReachLemmas.{partitioned}
use Rattle.sample_book.proofs.reaches.count_begun.Goals as goal

pub returns-clause-begun : goal.returns-clause-begun
returns-clause-begun c =
    c.partition_point.ensures.partitioned (begins_by c.args.slo c.args.minute)
    (always_returns_same _ _ _ (λ a r f k. search (rules, of_calls)))
    (partitioned c.args.slo c.args.minute c.args.reaches.now c.requires)
