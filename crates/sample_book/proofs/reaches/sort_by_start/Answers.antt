use Rattle.std.proofs.Common.{rules, of_calls}
use Rattle.std.proofs.lemmas.Fn.{always_returns_same}
use Rattle.sample_book.specs.Reaches.{start_of}
use Rattle.sample_book.proofs.reaches.sort_by_start.Goals as goal

pub returns-clause-sorted : goal.returns-clause-sorted
returns-clause-sorted c =
    c.sort_unstable_by_key.ensures.sorted start_of
    (always_returns_same _ _ _ (λ a r f k. search (rules, of_calls)))
