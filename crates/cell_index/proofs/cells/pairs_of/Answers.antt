use Rattle.std.proofs.Common.{◌+◌, All, subst, sym, take}
use Rattle.cell_index.specs.Keys.{IsNamed}
use Rattle.cell_index.proofs.FirstPairs.{numbered-first, numbered-next}
use Rattle.cell_index.proofs.cells.pairs_of.Goals as goal

pub loop-place-preserved : goal.loop-place-preserved
loop-place-preserved c =
    let keys = c.args.keys.now in
    subst (λ n. All (IsNamed n) (take (c.loop-place.place + 1) keys)) (sym c.max-pairs.ensures)
    (numbered-next c.loop-place.pairs keys c.at.result c.loop-place.place c.at.ensures
    c.loop-place.invariant)

pub returns : goal.returns
returns c = numbered-first c.loop-place.pairs c.args.keys.now c.args.count c.loop-place.place
    c.loop-place-test.false c.loop-place.invariant
