use Rattle.std.proofs.Common.{rules, arith}
use Rattle.std.proofs.lemmas.Bool.Decides.{nat_tests}
use Rattle.counter_book.proofs.NeighbourLemmas.{before-own, before-other, before-nothing}
use Rattle.counter_book.proofs.neighbours.before.Goals as goal

pub returns-in-Some : goal.returns-in-Some
returns-in-Some c =
    let r = c.range.ensures.in_range tt in
    let steps = c.in-Some.ensures.steps in
    before-own c.args.kept.now.entries c.args.source c.args.minute
    (c.in-Some.moment.now, c.in-Some.there.now)
    (record {
      below = (r.3 _ _ steps).0.1;
      there = (r.3 _ _ steps).1;
      last = λ q l some. r.4 _ _
          steps q (tt, l) some;
    })
    (grind (arith, nat_tests))

pub returns-in_default : goal.returns-in_default
returns-in_default c =
    let r = c.range.ensures.in_range tt in
    let steps = c.in-Some.ensures.steps in
    before-other c.args.kept.now.entries c.args.source c.args.minute
    (c.in-Some.moment.now, c.in-Some.there.now)
    (record {
      below = (r.3 _ _ steps).0.1;
      there = (r.3 _ _ steps).1;
      last = λ q l some. r.4 _ _
          steps q (tt, l) some;
    })
    (λ e. grind (arith, nat_tests))

pub returns-in_default-2 : goal.returns-in_default-2
returns-in_default-2 c =
    let r = c.range.ensures.in_range tt in
    before-nothing c.args.kept.now.entries c.args.source c.args.minute
    (λ q l. r.5 (search rules) q (tt, l))
