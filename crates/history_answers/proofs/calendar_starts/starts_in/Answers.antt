use Rattle.std.proofs.Common.{◌-◌, ℕ, List, Some, arith, reverse, subst, sym}
use Rattle.office_history.specs.Windows.{AreStartsIn, IsStartIn}
use Rattle.history_answers.specs.Starts.{IsLastFrom}
use Rattle.history_answers.proofs.StartLemmas.{none_before, none_yet, one_before}
use Rattle.history_answers.proofs.calendar_starts.starts_in.Goals as goal

pub starts-init : goal.starts-init
starts-init c = record {
  within = c.requires.order;
  short = omega arith;
  are = subst (λ (found : List ℕ).
      AreStartsIn (IsStartIn (Some c.args.zone.now) c.args.calendar.now c.args.step
      c.args.horizon) c.args.to c.args.to (reverse found)) (sym c.new-starts.ensures.items)
      (none_yet (IsStartIn (Some c.args.zone.now) c.args.calendar.now c.args.step c.args.horizon)
      c.args.to);
}

pub starts-preserved-in-Some : goal.starts-preserved-in-Some
starts-preserved-in-Some c =
    let all = IsStartIn (Some c.args.zone.now) c.args.calendar.now c.args.step c.args.horizon in
    let last = subst (IsLastFrom all c.args.from (c.starts.end - 1)) c.in-Some.is
    c.last_from.ensures in
    record {
      within = last.1;
      short = omega (arith, last.2, c.starts.invariant.short);
      are = one_before all c.args.from c.args.to c.starts.end c.in-Some.start
          c.starts.starts.items c.push.new.self.items c.in_ok-push-in-Some.ensures.items last
          c.starts-test.true c.starts.invariant.short c.starts.invariant.are;
    }

pub starts-preserved : goal.starts-preserved
starts-preserved c =
    let all = IsStartIn (Some c.args.zone.now) c.args.calendar.now c.args.step c.args.horizon in
    record {
      within = omega arith;
      short = c.requires.order;
      are = none_before all c.args.from c.args.to c.starts.end c.starts.starts.items
          (subst (IsLastFrom all c.args.from (c.starts.end - 1)) c.in-None.is c.last_from.ensures)
          c.starts-test.true c.starts.invariant.are;
    }

pub starts-smaller-in-Some : goal.starts-smaller-in-Some
starts-smaller-in-Some c =
    let all = IsStartIn (Some c.args.zone.now) c.args.calendar.now c.args.step c.args.horizon in
    let last = subst (IsLastFrom all c.args.from (c.starts.end - 1)) c.in-Some.is
    c.last_from.ensures in
    omega (arith, last.2, c.starts-test.true)
