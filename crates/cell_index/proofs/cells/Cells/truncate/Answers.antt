use Rattle.std.proofs.Common.{◌≡◌, ◌≤◌, ◌∙◌, ap, arith, length, min, take}
use Rattle.cell_index.proofs.FirstPairs.{cells-after, known-after}
use Rattle.cell_index.proofs.cells.Cells.truncate.Goals as goal

pub invariant_of-self : goal.invariant_of-self
invariant_of-self c =
    let within : c.min-count.result ≤ length c.self.inside.keys = omega (
      arith,
      c.min-count.ensures,
      c.len.ensures,
    ) in
    known-after c.self.inside.pairs c.truncate-2.new.self c.self.inside.keys c.truncate.new.self
    c.min-count.result c.pairs_of-pairs.result c.truncate-2.ensures c.truncate.ensures within
    c.pairs_of-pairs.ensures c.self.invariant.named

pub returns : goal.returns
returns c =
    let few : c.min-count.result ≡ min c.args.count (length c.self.inside.keys) =
    omega (arith, c.min-count.ensures, c.len.ensures) in
    cells-after c.self.inside.pairs c.truncate-2.new.self c.self.inside.keys c.truncate.new.self
    c.args.count c.min-count.result c.pairs_of-pairs.result c.truncate-2.ensures
    c.truncate.ensures few c.pairs_of-pairs.ensures
    ∙ ap (take c.args.count) c.self.view_is
