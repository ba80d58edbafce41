use Rattle.sample_book.proofs.TallyLemmas.{IsCounting}
use Rattle.sample_book.proofs.tally.counts_at.Given as goal

-- the sums over the rows of the day that were passed
abbrev pub invariant-loop-next : goal.invariant-loop-next
invariant-loop-next l = IsCounting l.reading l.op l.value l.rows.rows l.sli l.minute l.next l.sum

abbrev pub decreases-loop-next : goal.decreases-loop-next
decreases-loop-next l = l.next
