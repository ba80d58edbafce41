use Rattle.cell_index.proofs.PairLemmas.{paired-none}
use Rattle.cell_index.proofs.pairs.PairTable.new.Goals as goal

pub invariant_of-result : goal.invariant_of-result
invariant_of-result c =
    paired-none c.new.result c.new-2.result c.new-3.result.keys c.new-3.ensures.empty
