use Rattle.std.proofs.Common.{refl}
use Rattle.cell_index.proofs.CellLemmas.{never_ok}
use Rattle.cell_index.proofs.PairLemmas.{IsTried, pair-refused, pair-tried}
use Rattle.cell_index.proofs.pairs.PairTable.number.Goals as goal
use Rattle.cell_index.proofs.pairs.PairTable.number.Goals.{After-add_pair}

-- names that grew, and a pair that may be new
tried : (c : After-add_pair) → IsTried c.give_numbers.new.slis c.give_numbers.new.sources
    c.add_pair.new.pairs.keys c.args.cell.now c.add_pair.result c.args.self.now
tried c = pair-tried c.self.inside.slis c.give_numbers.new.slis c.self.inside.sources
    c.give_numbers.new.sources c.self.inside.pairs.keys c.add_pair.new.pairs.keys
    c.args.cell.now c.in_ok-numbers.numbers c.args.self.now c.add_pair.result
    c.give_numbers.ensures.slis c.give_numbers.ensures.sources c.self.invariant
    (c.in_ok-numbers.ensures).numbers c.add_pair.ensures.ok c.add_pair.ensures.err
    c.add_pair.ensures.few c.add_pair.ensures.number c.self.view_is

pub invariant_of-self : goal.invariant_of-self
invariant_of-self c = (pair-refused c.self.inside.slis c.give_numbers.new.slis
    c.self.inside.sources c.give_numbers.new.sources c.self.inside.pairs.keys
    c.self.inside.pairs.keys c.args.self.now c.give_numbers.ensures.slis
    c.give_numbers.ensures.sources c.self.invariant refl c.self.view_is).paired

pub returns-in_err-numbers-clause-longer : goal.returns-in_err-numbers-clause-longer
returns-in_err-numbers-clause-longer c = (pair-refused c.self.inside.slis
    c.give_numbers.new.slis c.self.inside.sources c.give_numbers.new.sources
    c.self.inside.pairs.keys c.self.inside.pairs.keys c.args.self.now
    c.give_numbers.ensures.slis c.give_numbers.ensures.sources c.self.invariant refl
    c.self.view_is).longer

pub returns-in_err-numbers-clause-number : goal.returns-in_err-numbers-clause-number
returns-in_err-numbers-clause-number c =
    never_ok _ _ c.from_residual.result c.from_residual.ensures.1

pub returns-in_err-numbers-clause-distinct : goal.returns-in_err-numbers-clause-distinct
returns-in_err-numbers-clause-distinct c = (pair-refused c.self.inside.slis
    c.give_numbers.new.slis c.self.inside.sources c.give_numbers.new.sources
    c.self.inside.pairs.keys c.self.inside.pairs.keys c.args.self.now
    c.give_numbers.ensures.slis c.give_numbers.ensures.sources c.self.invariant refl
    c.self.view_is).paired.apart

pub invariant_of-self-2 : goal.invariant_of-self-2
invariant_of-self-2 c = (tried c).paired

pub returns-clause-longer : goal.returns-clause-longer
returns-clause-longer c = (tried c).longer

pub returns-clause-number : goal.returns-clause-number
returns-clause-number c = (tried c).here

pub returns-clause-distinct : goal.returns-clause-distinct
returns-clause-distinct c = (tried c).paired.apart
