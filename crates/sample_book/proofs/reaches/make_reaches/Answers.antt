use Rattle.sample_book.proofs.ReachLemmas.{reaches_made}
use Rattle.sample_book.proofs.reaches.make_reaches.Goals as goal

pub returns-clause-reaches : goal.returns-clause-reaches
returns-clause-reaches c =
    reaches_made c.args.made.now c.list_live.new.reaches.items c.sort_by_start.new.reaches.items
    c.join_all.new.reaches.items c.list_live.ensures.listed c.sort_by_start.ensures.permutation
    c.sort_by_start.ensures.sorted c.join_all.ensures.joined
