use Rattle.sample_book.proofs.reaches.count_near.Goals as goal

pub returns-then-still-clause-within : goal.returns-then-still-clause-within
returns-then-still-clause-within c = (c.have_begun-still.ensures c.if-still.true).within

pub returns-then-still-clause-begun : goal.returns-then-still-clause-begun
returns-then-still-clause-begun c = (c.have_begun-still.ensures c.if-still.true).begun
