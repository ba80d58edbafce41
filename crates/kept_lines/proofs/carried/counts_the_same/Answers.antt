use Rattle.kept_lines.specs.Sums.{samples_of}
use Rattle.kept_lines.proofs.CarriedLemmas.{counted-leaves, pooled-leaves}
use Rattle.kept_lines.proofs.carried.counts_the_same.Goals as goal

pub returns-then-counted : goal.returns-then-counted
returns-then-counted c = λ yes.
    counted-leaves (samples_of c.args.book.now) c.args.a.now c.args.b.now
    (c.has_same_key-counted.ensures.0 c.if-counted.true)

pub returns-then-pooled : goal.returns-then-pooled
returns-then-pooled c = λ yes.
    let whole = c.are_whole.ensures yes in
    pooled-leaves (samples_of c.args.book.now) c.args.a.now c.args.b.now
    (c.has_same_key-pooled.ensures.0 c.if-pooled.true) whole.0 whole.1
