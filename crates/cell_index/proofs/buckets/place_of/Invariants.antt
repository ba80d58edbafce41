use Rattle.cell_index.proofs.BucketLemmas.{IsSought}
use Rattle.cell_index.proofs.buckets.place_of.Given as goal

-- what was passed isn't the key
abbrev pub invariant-loop-next : goal.invariant-loop-next
invariant-loop-next l = IsSought l.keys l.buckets.blocks l.key l.next

abbrev pub decreases-loop-next : goal.decreases-loop-next
decreases-loop-next l = l.next
