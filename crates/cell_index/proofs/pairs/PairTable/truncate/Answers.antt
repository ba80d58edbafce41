use Rattle.std.proofs.Common.{arith, ap, length, sym, take_all}
use Rattle.std.proofs.lemmas.List.{length-map}
use Rattle.cell_index.specs.Pairs.{pair_named}
use Rattle.cell_index.proofs.PairLemmas.{cut-after}
use Rattle.cell_index.proofs.pairs.PairTable.truncate.Goals as goal

pub returns-then-len-count : goal.returns-then-len-count
returns-then-len-count c =
    let keys = c.self.inside.pairs.keys in
    sym (take_all c.args.count c.args.self.now (omega (
      arith,
      c.if-len-count.true,
      c.len.ensures.len,
      ap length c.self.view_is,
      length-map keys (pair_named c.self.inside.slis c.self.inside.sources),
    )))

pub invariant_of-self : goal.invariant_of-self
invariant_of-self c =
    (cut-after c.self.inside.slis c.self.inside.sources c.truncate-2.new.self
    c.truncate-3.new.self c.names_of-slis.result.0 c.names_of-slis.result.1
    c.self.inside.pairs.keys c.truncate.new.self.keys c.as_slice.result.now c.args.count
    c.args.self.now c.truncate-2.ensures c.truncate-3.ensures c.truncate.ensures.keys
    c.as_slice.ensures.keys c.names_of-slis.ensures c.self.invariant c.self.view_is).paired

pub returns : goal.returns
returns c =
    (cut-after c.self.inside.slis c.self.inside.sources c.truncate-2.new.self
    c.truncate-3.new.self c.names_of-slis.result.0 c.names_of-slis.result.1
    c.self.inside.pairs.keys c.truncate.new.self.keys c.as_slice.result.now c.args.count
    c.args.self.now c.truncate-2.ensures c.truncate-3.ensures c.truncate.ensures.keys
    c.as_slice.ensures.keys c.names_of-slis.ensures c.self.invariant c.self.view_is).view
