use Rattle.std.proofs.Common.{ℕ, ◌≡◌, ◌≤◌, ◌+◌, ◌-◌, ◌*◌, true, ap, sym, subst, ◌∙◌, arith, IfSome}
use Rattle.std.proofs.Common.{nat_le, nat_lt, ◌&&◌, List, max, min, refl, rules, ◌<◌, ◌^◌}
use Rattle.burn_core.specs.Alert.{wait_of}
use Rattle.burn_core.specs.Timeline.{AreSpansOf, IsActive}
use Rattle.burn_core.proofs.TimelineLemmas.{AreSpansOf-same, active-law}
use Rattle.window_sums.specs.Slices.{leaf_at, width_of}
use Rattle.alert_line.specs.Cursor.{IsBehind}
use Rattle.alert_line.specs.Learnt.{IsLearnt, IsRun, unknown_in}
use Rattle.alert_line.specs.Line.{active_on, condition_on}
use Rattle.alert_line.proofs.SpanLemmas.{AreSpansOf-none, EndBy}
use Rattle.alert_line.proofs.RunLemmas.{Agrees-after, IsRun-next, IsRun-none, IsRun-over}
use Rattle.alert_line.proofs.RunLemmas.{alert-then, behind-later, below-origin, condition-alert}
use Rattle.alert_line.proofs.RunLemmas.{ends-next, first-later, first-tells, kept-after}
use Rattle.alert_line.proofs.RunLemmas.{known-condition, learnt-ahead, learnt-next, learnt-none}
use Rattle.alert_line.proofs.RunLemmas.{learnt-over, spans-next, spans-over, steps-next}
use Rattle.alert_line.proofs.RunLemmas.{unknown-part}
use Rattle.alert_line.proofs.line.AlertLine.intervals.Goals as goal

pub loop-minute-preserved : goal.loop-minute-preserved
loop-minute-preserved g c =
    let before = c.args.self.now in
    let at = c.loop-minute.self in
    let after = c.evaluate-holds.new.self in
    let sums = c.args.sums.now in
    let start = c.start-start.result in
    let minute = c.loop-minute.minute in
    let b = c.evaluate-holds.result in
    let wait = wait_of before.rule in
    let inv = c.loop-minute.invariant in
    let from = inv.begun in
    let is : b ≡ condition_on before sums minute = c.evaluate-holds.ensures.value
    ∙ condition-alert before at sums minute inv.alert in
    let run : IsRun (condition_on before sums) start (minute + 1) c.next_run-run.result =
    subst (IsRun (condition_on before sums) start (minute + 1)) (sym c.next_run-run.ensures)
    (IsRun-next (condition_on before sums) start minute c.loop-minute.run b from is inv.run) in
    let active : c.is_active-active.result
    ≡ (nat_lt wait c.next_run-run.result && nat_le c.args.from minute) =
    c.is_active-active.ensures ∙ ap (λ w. nat_lt w c.next_run-run.result
    && nat_le c.args.from minute) c.wait-wait.ensures.value in
    record {
      begun = omega (arith, inv.begun);
      within = omega (arith, c.loop-minute-test.true);
      learnt = learnt-next before at after sums start minute b from is inv.learnt
          c.evaluate-holds.ensures.learnt.each;
      alert = alert-then before at after inv.alert c.evaluate-holds.ensures.learnt.alert;
      behind = subst (λ r. IfSome c.evaluate-holds.new.cursor (IsBehind r (width_of sums.method)
          (leaf_at sums) (minute + 1))) inv.alert.rule c.evaluate-holds.ensures.behind;
      spans = subst (λ (l : List (ℕ × ℕ)). AreSpansOf (IsActive wait (condition_on before sums))
          c.args.from (minute + 1) l) (sym c.in_ok-note_minute.ensures)
          (spans-next (condition_on before sums) before.origin c.args.from minute
          c.next_run-run.result wait c.loop-minute.spans.items c.is_active-active.result
          (below-origin before sums) active
          (subst (λ s. IsRun (condition_on before sums) s (minute + 1) c.next_run-run.result)
          c.start-start.ensures.value run) inv.ends inv.spans);
      ends = subst (EndBy (minute + 1)) (sym c.in_ok-note_minute.ensures)
          (ends-next minute c.loop-minute.spans.items c.is_active-active.result inv.ends);
      run = run;
      steps = steps-next before at start minute c.args.steps.now c.loop-minute.steps
          c.evaluate-holds.new.steps from (learnt-ahead before at sums start minute inv.learnt)
          inv.steps c.evaluate-holds.ensures.steps;
    }

pub returns-in_err-note_minute : goal.returns-in_err-note_minute
returns-in_err-note_minute g c =
    let before = c.args.self.now in
    let at = c.loop-minute.self in
    let after = c.evaluate-holds.new.self in
    let sums = c.args.sums.now in
    let start = c.start-start.result in
    let minute = c.loop-minute.minute in
    let inv = c.loop-minute.invariant in
    let from = inv.begun in
    let is : c.evaluate-holds.result ≡ condition_on before sums minute =
    c.evaluate-holds.ensures.value ∙ condition-alert before at sums minute inv.alert in
    let alert = alert-then before at after inv.alert c.evaluate-holds.ensures.learnt.alert in
    let learnt : IsLearnt before after sums start (minute + 1) =
    learnt-next before at after sums start minute c.evaluate-holds.result from is inv.learnt
    c.evaluate-holds.ensures.learnt.each in
    let here : c.evaluate-holds.new.steps ≤ c.args.steps.now
    + 2400 * unknown_in before start (minute + 1 - start) =
    steps-next before at start minute c.args.steps.now c.loop-minute.steps
    c.evaluate-holds.new.steps from (learnt-ahead before at sums start minute inv.learnt)
    inv.steps c.evaluate-holds.ensures.steps in
    let more : unknown_in before start (minute + 1 - start) ≤ unknown_in before start
    (c.args.to - start) = unknown-part before start (minute + 1) c.args.to (omega arith) in
    record {
      value = search rules;
      alert = alert;
      agrees = Agrees-after before after sums start (minute + 1) alert c.requires.agrees learnt;
      kept = kept-after before after sums start (minute + 1) c.requires.agrees learnt;
      known = search rules;
      steps = subst (λ s. c.evaluate-holds.new.steps ≤ c.args.steps.now
          + 2400 * unknown_in before s (c.args.to - s)) c.start-start.ensures.value
          (omega (arith, here, more));
    }

pub returns-in_err-note_stretch : goal.returns-in_err-note_stretch
returns-in_err-note_stretch g c =
    let before = c.args.self.now in
    let at = c.loop-minute.self in
    let sums = c.args.sums.now in
    let start = c.start-start.result in
    let minute = c.loop-minute.minute in
    let inv = c.loop-minute.invariant in
    let more : unknown_in before start (minute - start) ≤ unknown_in before start
    (c.args.to - start) = unknown-part before start minute c.args.to inv.within in
    record {
      value = search rules;
      alert = inv.alert;
      agrees = Agrees-after before at sums start minute inv.alert c.requires.agrees inv.learnt;
      kept = kept-after before at sums start minute c.requires.agrees inv.learnt;
      known = search rules;
      steps = subst (λ s. c.loop-minute.steps ≤ c.args.steps.now
          + 2400 * unknown_in before s (c.args.to - s)) c.start-start.ensures.value
          (omega (arith, inv.steps, more));
    }

pub loop-minute-init : goal.loop-minute-init
loop-minute-init g c =
    let before = c.args.self.now in
    let sums = c.args.sums.now in
    let start = c.start-start.result in
    record {
      begun = omega arith;
      within = omega (arith, c.start-start.ensures.value, c.requires.begin, c.requires.order);
      learnt = learnt-none before sums start;
      alert = record { rule = refl; target = refl; origin = refl };
      behind = tt;
      spans = subst (AreSpansOf (IsActive (wait_of before.rule) (condition_on before sums))
          c.args.from start) (sym c.no_spans-spans.ensures)
          (AreSpansOf-none (IsActive (wait_of before.rule) (condition_on before sums))
          c.args.from start
          (omega (arith, c.start-start.ensures.value, c.requires.begin)));
      ends = subst (EndBy start) (sym c.no_spans-spans.ensures) tt;
      run = IsRun-none (condition_on before sums) start;
      steps = omega arith;
    }

pub loop-minute-preserved-then-told : goal.loop-minute-preserved-then-told
loop-minute-preserved-then-told g c =
    let before = c.args.self.now in
    let at = c.loop-minute.self in
    let sums = c.args.sums.now in
    let start = c.start-start.result in
    let minute = c.loop-minute.minute in
    let wait = wait_of before.rule in
    let known = c.known_alike-known.result.0 in
    let held = c.known_alike-known.result.1 in
    let inv = c.loop-minute.invariant in
    let agrees = Agrees-after before at sums start minute inv.alert c.requires.agrees inv.learnt in
    let some : 0 < known = omega (arith, c.if-told.true) in
    let is : (u : ℕ) → minute ≤ u → u < minute + known → held ≡ condition_on before sums u =
    (λ u low high. known-condition before at sums u held inv.alert agrees
    (c.known_alike-known.ensures.known u low high)) in
    let first : c.first_active-first.result
    ≡ max c.args.from (min (minute + (wait - c.loop-minute.run)) 4294967295) =
    c.first_active-first.ensures
    ∙ ap (λ w. max c.args.from (min (minute + (w - c.loop-minute.run)) 4294967295))
    c.wait-wait.ensures.value in
    let small : minute + known < 2 ^ 32 = omega (arith, c.known_alike-known.ensures.within) in
    let over = spans-over (condition_on before sums) before.origin c.args.from minute
    c.loop-minute.run wait known c.first_active-first.result c.loop-minute.spans.items held
    (below-origin before sums) is
    (λ u low high. first-tells c.args.from minute c.loop-minute.run wait
    c.first_active-first.result (minute + known) u first small low high)
    (first-later c.args.from minute c.loop-minute.run wait c.first_active-first.result first
    (omega arith))
    (subst (λ s. s ≤ minute) c.start-start.ensures.value inv.begun)
    (subst (λ s. IsRun (condition_on before sums) s minute c.loop-minute.run)
    c.start-start.ensures.value inv.run) inv.ends inv.spans in
    record {
      begun = omega (arith, inv.begun);
      within = c.known_alike-known.ensures.within;
      learnt = learnt-over before at sums start minute known held inv.begun c.requires.agrees
          c.known_alike-known.ensures.known inv.learnt;
      alert = inv.alert;
      behind = behind-later before.rule (width_of sums.method) (leaf_at sums) minute
          (minute + known) c.loop-minute.cursor (omega arith) inv.behind;
      spans = subst (AreSpansOf (IsActive wait (condition_on before sums)) c.args.from
          (minute + known)) (sym c.in_ok-note_stretch.ensures) over.1;
      ends = subst (EndBy (minute + known)) (sym c.in_ok-note_stretch.ensures) over.0;
      run = subst (IsRun (condition_on before sums) start (minute + known))
          (sym c.run_over-run.ensures)
          (IsRun-over (condition_on before sums) start minute c.loop-minute.run known held some is
          inv.begun inv.run);
      steps = omega (
        arith,
        inv.steps,
        unknown-part before start minute (minute + known) (omega arith),
      );
    }

pub returns-clause-value : goal.returns-clause-value
returns-clause-value g c =
    let line = c.args.self.now in
    let sums = c.args.sums.now in
    let wait = wait_of line.rule in
    let start : c.start-start.result ≤ c.args.to = omega (
      arith,
      c.start-start.ensures.value,
      c.requires.begin,
      c.requires.order,
    ) in
    let all : c.loop-minute.minute ≡ c.args.to = omega arith in
    let spans = subst (λ n. AreSpansOf (IsActive wait (condition_on line sums)) c.args.from n
    c.loop-minute.spans.items) all c.loop-minute.invariant.spans in
    AreSpansOf-same (IsActive wait (condition_on line sums)) (λ minute.
    active_on line sums minute ≡ true) c.args.from c.args.to c.loop-minute.spans.items
    (λ minute. (let law = active-law wait (condition_on line sums) minute in (law.1, law.0))) spans

pub known_alike-known-requires-clause-begin : goal.known_alike-known-requires-clause-begin
known_alike-known-requires-clause-begin g c =
    let inv = c.loop-minute.invariant in
    let from : c.args.self.now.origin ≤ c.loop-minute.minute =
    omega (arith, c.start-start.ensures.origin, inv.begun) in
    subst (λ (n : ℕ). n ≤ c.loop-minute.minute) (sym inv.alert.origin) from

pub returns-clause-agrees : goal.returns-clause-agrees
returns-clause-agrees g c =
    Agrees-after c.args.self.now c.loop-minute.self c.args.sums.now
    c.start-start.result c.loop-minute.minute c.loop-minute.invariant.alert c.requires.agrees
    c.loop-minute.invariant.learnt

pub returns-clause-kept : goal.returns-clause-kept
returns-clause-kept g c =
    kept-after c.args.self.now c.loop-minute.self c.args.sums.now c.start-start.result
    c.loop-minute.minute c.requires.agrees c.loop-minute.invariant.learnt

pub evaluate-holds-requires-clause-agrees : goal.evaluate-holds-requires-clause-agrees
evaluate-holds-requires-clause-agrees g c =
    Agrees-after c.args.self.now c.loop-minute.self c.args.sums.now
    c.start-start.result c.loop-minute.minute c.loop-minute.invariant.alert c.requires.agrees
    c.loop-minute.invariant.learnt
