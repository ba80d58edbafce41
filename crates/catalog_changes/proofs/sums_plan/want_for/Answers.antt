use Rattle.std.proofs.Common.{false, inl, inr, true}
use Rattle.catalog_changes.proofs.PlanningLemmas.{like_itself, own_still, pooled_still}
use Rattle.catalog_changes.proofs.sums_plan.want_for.Goals as goal

pub returns-then-excluded-clause-made : goal.returns-then-excluded-clause-made
returns-then-excluded-clause-made c = record {
  own = c.in_ok-want.ensures.made;
  pooled = c.requires.made.pooled;
}

pub returns-then-excluded-clause-here : goal.returns-then-excluded-clause-here
returns-then-excluded-clause-here c = inl c.in_ok-want.ensures.here

pub returns-then-excluded-clause-own : goal.returns-then-excluded-clause-own
returns-then-excluded-clause-own c = λ members is all.
    c.in_ok-want.ensures.only members (like_itself members false c.args.measure.now is) all

pub returns-then-excluded-clause-still : goal.returns-then-excluded-clause-still
returns-then-excluded-clause-still c = λ m has.
    own_still c.args.derived.now.book.exclusions c.args.plan.now.own c.want.new.list
    c.args.plan.now.pooled m c.in_ok-want.ensures.still has

pub returns-then-excluded-clause-pooled : goal.returns-then-excluded-clause-pooled
returns-then-excluded-clause-pooled c = λ members is all. all

pub returns-clause-made : goal.returns-clause-made
returns-clause-made c = record {
  own = c.requires.made.own;
  pooled = c.in_ok-want-2.ensures.made;
}

pub returns-clause-here : goal.returns-clause-here
returns-clause-here c =
    inr (c.in_ok-want-2.ensures.here, c.has_exclusions-excluded.ensures c.if-excluded.false)

pub returns-clause-still : goal.returns-clause-still
returns-clause-still c = λ m has.
    pooled_still c.args.derived.now.book.exclusions c.args.plan.now.own c.args.plan.now.pooled
    c.want-2.new.list m c.in_ok-want-2.ensures.still has

pub returns-clause-own : goal.returns-clause-own
returns-clause-own c = λ members is all. all

pub returns-clause-pooled : goal.returns-clause-pooled
returns-clause-pooled c = λ members is all.
    c.in_ok-want-2.ensures.only members (like_itself members true c.args.measure.now is) all
