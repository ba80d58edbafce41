use Rattle.std.proofs.Common.{rules}
use Rattle.counter_book.specs.Book.{moment_cmp}
use Rattle.counter_book.proofs.NeighbourLemmas.{next-own, next-other, next-nothing, head_is}
use Rattle.counter_book.proofs.MomentLemmas.{moment}
use Rattle.counter_book.specs.declared.reading.Moment.{Moment}
use Rattle.counter_book.specs.declared.reading.Kept.{Kept}
use Rattle.std.specs.BTreeMap.Range.{IsEntryInRange, IsLeBy}
use Rattle.std.specs.declared.ops.Bound.TheVariants.{Excluded, Unbounded}
use Rattle.counter_book.proofs.neighbours.next.Goals as goal

pub returns-in-Some : goal.returns-in-Some
returns-in-Some c =
    let r = c.range.ensures.in_range tt in
    let steps = c.in-Some.ensures.steps in
    let e : Moment × Kept = (c.in-Some.moment.now, c.in-Some.there.now) in
    let h = head_is (λ x. IsEntryInRange moment_cmp (Excluded (moment c.args.source c.args.minute))
    Unbounded c.args.kept.now x) _ e _ steps r.1 in
    next-own c.args.kept.now.entries c.args.source c.args.minute e
    (record {
      above = h.0.0;
      there = h.1;
      first = λ q l some. head_is (λ x. IsLeBy moment_cmp x.0 q)
          _ e _ steps (r.2 q (l, tt) some);
    })
    c.if-moment-source.true

pub returns-in_default : goal.returns-in_default
returns-in_default c =
    let r = c.range.ensures.in_range tt in
    let steps = c.in-Some.ensures.steps in
    let e : Moment × Kept = (c.in-Some.moment.now, c.in-Some.there.now) in
    let h = head_is (λ x. IsEntryInRange moment_cmp (Excluded (moment c.args.source c.args.minute))
    Unbounded c.args.kept.now x) _ e _ steps r.1 in
    next-other c.args.kept.now.entries c.args.source c.args.minute e
    (record {
      above = h.0.0;
      there = h.1;
      first = λ q l some. head_is (λ x. IsLeBy moment_cmp x.0 q)
          _ e _ steps (r.2 q (l, tt) some);
    })
    c.if-moment-source.false

pub returns-in_default-2 : goal.returns-in_default-2
returns-in_default-2 c =
    let r = c.range.ensures.in_range tt in
    next-nothing c.args.kept.now.entries c.args.source c.args.minute
    (λ q l. r.5 (search rules) q (l, tt))
