use Rattle.std.proofs.Common.{All, take}
use Rattle.cell_index.specs.Keys.{IsNamed}
use Rattle.cell_index.proofs.cells.pairs_of.Given as goal

-- the keys so far have these pairs alone
abbrev pub invariant-loop-place : goal.invariant-loop-place
invariant-loop-place l = All (IsNamed l.pairs) (take l.place l.keys)
