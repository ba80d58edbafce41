use Rattle.std.proofs.Common.{◌≡◌, [], rules}
use Rattle.turn_desk.proofs.Gathering.{begins, goes_on, ends_root, ends_seen, ends_own, all_pop}
use Rattle.turn_desk.proofs.Gathering.{ends_all, ends_raised}
use Rattle.turn_desk.proofs.Gathering.{popped}
use Rattle.turn_desk.proofs.desk.Desk.gather.Goals as goal

pub loop-next-init : goal.loop-next-init
loop-next-init g c = record {
  stands = begins c.args.passes.items c.pop.new.self.items c.in-Some.pass c.in-Some.ensures.items;
  desk = popped (λ p. p.desk ≡ c.args.self.now) c.args.passes.items c.pop.new.self.items
      c.in-Some.pass c.in-Some.ensures.items c.requires.desk;
  rest = all_pop (λ p. p.desk ≡ c.args.self.now) c.args.passes.items c.pop.new.self.items
      c.in-Some.pass c.in-Some.ensures.items c.requires.desk;
}

pub loop-next-preserved : goal.loop-next-preserved
loop-next-preserved g c =
    let i = c.loop-next.invariant in
    let is = c.in-Some-pop.ensures.items in record {
      stands = goes_on c.args.passes.items c.loop-next.passes.items c.loop-next.pass
          c.pop-in-loop-next.new.self.items c.in-Some-pop.next c.join.new.pass i.stands is
          c.join.ensures.both c.join.ensures.one_root c.join.ensures.one_history;
      desk = search rules;
      rest = all_pop (λ p. p.desk ≡ c.args.self.now) c.loop-next.passes.items
          c.pop-in-loop-next.new.self.items c.in-Some-pop.next is i.rest;
    }

pub returns-clause-root : goal.returns-clause-root
returns-clause-root g c =
    let none : c.loop-next.passes.items ≡ [] = search rules in
    ends_root c.args.passes.items c.loop-next.passes.items c.loop-next.pass
    c.loop-next.invariant.stands none

pub returns-clause-seen : goal.returns-clause-seen
returns-clause-seen g c =
    let none : c.loop-next.passes.items ≡ [] = search rules in
    ends_seen c.args.passes.items c.loop-next.passes.items c.loop-next.pass
    c.loop-next.invariant.stands none

pub returns-clause-own : goal.returns-clause-own
returns-clause-own g c =
    let none : c.loop-next.passes.items ≡ [] = search rules in
    ends_own c.args.passes.items c.loop-next.passes.items c.loop-next.pass
    c.loop-next.invariant.stands none

pub returns-clause-raised : goal.returns-clause-raised
returns-clause-raised g c =
    let none : c.loop-next.passes.items ≡ [] = search rules in
    ends_raised c.args.passes.items c.loop-next.passes.items c.loop-next.pass
    c.loop-next.invariant.stands none

pub returns-clause-all : goal.returns-clause-all
returns-clause-all g c =
    let none : c.loop-next.passes.items ≡ [] = search rules in
    ends_all c.args.passes.items c.loop-next.passes.items c.loop-next.pass
    c.loop-next.invariant.stands none
