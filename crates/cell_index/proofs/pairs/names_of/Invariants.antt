use Rattle.std.proofs.Common.{All, take}
use Rattle.cell_index.specs.Pairs.{HaveNames}
use Rattle.cell_index.proofs.pairs.names_of.Given as goal

-- the pairs so far have these names alone
abbrev pub invariant-loop-pair : goal.invariant-loop-pair
invariant-loop-pair l = All (HaveNames l.slis l.sources) (take l.pair-index l.pairs)
