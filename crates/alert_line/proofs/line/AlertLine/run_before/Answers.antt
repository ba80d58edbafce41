use Rattle.std.proofs.Common.{◌≡◌, ◌≤◌, ◌<◌, ◌+◌, ℕ, Option, refl, sym, subst, ◌∙◌, arith, IfSome}
use Rattle.window_sums.specs.Slices.{leaf_at, width_of}
use Rattle.alert_line.specs.Cursor.{IsBehind}
use Rattle.alert_line.specs.Line.{condition_on}
use Rattle.alert_line.specs.Learnt.{IsRun}
use Rattle.alert_line.specs.declared.cursor.Cursor.{Cursor}
use Rattle.alert_line.proofs.RunLemmas.{Agrees-after, IsRun-next, IsRun-none, IsRun-over}
use Rattle.alert_line.proofs.RunLemmas.{alert-then, behind-later, condition-alert}
use Rattle.alert_line.proofs.RunLemmas.{known-condition, learnt-ahead, learnt-next, learnt-none}
use Rattle.alert_line.proofs.RunLemmas.{learnt-over, start-before, steps-next, unknown-part}
use Rattle.alert_line.proofs.line.AlertLine.run_before.Goals as goal

pub loop-at-init : goal.loop-at-init
loop-at-init g c =
    let before = c.args.self.now in
    let sums = c.args.sums.now in
    let start = c.start-start.result in
    record {
      begun = omega arith;
      within = subst (λ (n : ℕ). n ≤ c.args.minute) (sym c.start-start.ensures.value)
          (start-before before c.args.minute c.requires.minute.0);
      learnt = learnt-none before sums start;
      alert = record { rule = refl; target = refl; origin = refl };
      behind = subst (λ (o : Option Cursor). IfSome o (IsBehind before.rule
          (width_of sums.method) (leaf_at sums) start)) (sym c.requires.none) tt;
      run = IsRun-none (condition_on before sums) start;
      steps = omega arith;
    }

pub loop-at-preserved-then-told : goal.loop-at-preserved-then-told
loop-at-preserved-then-told g c =
    let before = c.args.self.now in
    let at = c.loop-at.self in
    let sums = c.args.sums.now in
    let start = c.start-start.result in
    let minute = c.loop-at.at in
    let known = c.known_alike-known.result.0 in
    let held = c.known_alike-known.result.1 in
    let inv = c.loop-at.invariant in
    let agrees = Agrees-after before at sums start minute inv.alert c.requires.agrees inv.learnt in
    let some : 0 < known = omega (arith, c.if-told.true) in
    let is : (u : ℕ) → minute ≤ u → u < minute + known → held ≡ condition_on before sums u =
    (λ u low high. known-condition before at sums u held inv.alert agrees
    (c.known_alike-known.ensures.known u low high)) in
    record {
      begun = omega (arith, inv.begun);
      within = c.known_alike-known.ensures.within;
      learnt = learnt-over before at sums start minute known held inv.begun c.requires.agrees
          c.known_alike-known.ensures.known inv.learnt;
      alert = inv.alert;
      behind = behind-later before.rule (width_of sums.method) (leaf_at sums) minute
          (minute + known) c.loop-at.cursor (omega arith) inv.behind;
      run = subst (IsRun (condition_on before sums) start (minute + known))
          (sym c.run_over-run.ensures)
          (IsRun-over (condition_on before sums) start minute c.loop-at.run known held some is
          inv.begun inv.run);
      steps = omega (
        arith,
        inv.steps,
        unknown-part before start minute (minute + known) (omega arith),
      );
    }

pub loop-at-preserved : goal.loop-at-preserved
loop-at-preserved g c =
    let before = c.args.self.now in
    let at = c.loop-at.self in
    let after = c.evaluate-holds.new.self in
    let sums = c.args.sums.now in
    let start = c.start-start.result in
    let minute = c.loop-at.at in
    let b = c.evaluate-holds.result in
    let inv = c.loop-at.invariant in
    let from = inv.begun in
    let is : b ≡ condition_on before sums minute = c.evaluate-holds.ensures.value
    ∙ condition-alert before at sums minute inv.alert in
    record {
      begun = omega (arith, inv.begun);
      within = omega (arith, c.loop-at-test.true);
      learnt = learnt-next before at after sums start minute b from is inv.learnt
          c.evaluate-holds.ensures.learnt.each;
      alert = alert-then before at after inv.alert c.evaluate-holds.ensures.learnt.alert;
      behind = subst (λ r. IfSome c.evaluate-holds.new.cursor (IsBehind r (width_of sums.method)
          (leaf_at sums) (minute + 1))) inv.alert.rule c.evaluate-holds.ensures.behind;
      run = subst (IsRun (condition_on before sums) start (minute + 1)) (sym c.next_run-run.ensures)
          (IsRun-next (condition_on before sums) start minute c.loop-at.run b from is inv.run);
      steps = steps-next before at start minute c.args.steps.now c.loop-at.steps
          c.evaluate-holds.new.steps from (learnt-ahead before at sums start minute inv.learnt)
          inv.steps c.evaluate-holds.ensures.steps;
    }

pub known_alike-known-requires-clause-begin : goal.known_alike-known-requires-clause-begin
known_alike-known-requires-clause-begin g c =
    let inv = c.loop-at.invariant in
    let from : c.args.self.now.origin ≤ c.loop-at.at =
    omega (arith, c.start-start.ensures.origin, inv.begun) in
    subst (λ (n : ℕ). n ≤ c.loop-at.at) (sym inv.alert.origin) from

pub returns-clause-agrees : goal.returns-clause-agrees
returns-clause-agrees g c =
    Agrees-after c.args.self.now c.loop-at.self c.args.sums.now c.start-start.result c.loop-at.at
    c.loop-at.invariant.alert c.requires.agrees c.loop-at.invariant.learnt
