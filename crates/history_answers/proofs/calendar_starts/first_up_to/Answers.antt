use Rattle.std.proofs.Common.{◌+◌, ◌-◌, ◌/◌, Some, arith, subst}
use Rattle.office_history.specs.Windows.{IsStartIn}
use Rattle.history_answers.specs.Starts.{IsLastFrom}
use Rattle.history_answers.proofs.calendar_starts.first_up_to.Goals as goal

pub halves-init : goal.halves-init
halves-init c = record {
  start = c.requires.start;
  later = c.requires.later;
  none = λ s is later. later;
}

pub halves-preserved-in-Some : goal.halves-preserved-in-Some
halves-preserved-in-Some c =
    let last = subst (IsLastFrom (IsStartIn (Some c.args.zone.now) c.args.calendar.now c.args.step
    c.args.horizon) c.args.from (c.halves.low + (c.halves.first - c.halves.low) / 2)) c.in-Some.is
    c.last_from.ensures in
    record { start = last.0; later = last.1; none = c.halves.invariant.none }

pub halves-smaller-in-Some : goal.halves-smaller-in-Some
halves-smaller-in-Some c =
    let last = subst (IsLastFrom (IsStartIn (Some c.args.zone.now) c.args.calendar.now c.args.step
    c.args.horizon) c.args.from (c.halves.low + (c.halves.first - c.halves.low) / 2)) c.in-Some.is
    c.last_from.ensures in
    omega (arith, last.2, c.halves.invariant.none c.in-Some.found last.0 last.1, c.halves-test.true)

pub halves-preserved : goal.halves-preserved
halves-preserved c =
    let none = subst (IsLastFrom (IsStartIn (Some c.args.zone.now) c.args.calendar.now c.args.step
    c.args.horizon) c.args.from (c.halves.low + (c.halves.first - c.halves.low) / 2)) c.in-None.is
    c.last_from.ensures in
    record {
      start = c.halves.invariant.start;
      later = c.halves.invariant.later;
      none = λ s is later. omega (arith, none s is later);
    }

pub returns : goal.returns
returns c = (
  c.halves.invariant.start,
  c.halves.invariant.later,
  λ s is later. omega (arith, c.halves.invariant.none s is later, c.halves-test.false),
)
