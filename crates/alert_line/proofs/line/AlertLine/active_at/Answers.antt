use Rattle.std.proofs.Common.{◌≡◌, ◌+◌, ◌&&◌, nat_le, ap, ◌∙◌, if◌then◌else◌}
use Rattle.burn_core.specs.Alert.{wait_of}
use Rattle.alert_line.specs.Learnt.{IsLearnt, IsRun, start_of}
use Rattle.alert_line.specs.Line.{condition_on}
use Rattle.alert_line.proofs.RunLemmas.{Agrees-after, IsRun-next, active-is, alert-then}
use Rattle.alert_line.proofs.RunLemmas.{below-origin, condition-alert, kept-after, learnt-ahead}
use Rattle.alert_line.proofs.RunLemmas.{learnt-next, longer, start-before, steps-next}
use Rattle.alert_line.proofs.line.AlertLine.active_at.Goals as goal

pub returns : goal.returns
returns g c =
    let before = c.args.self.now in
    let at = c.run_before-run.new.self in
    let after = c.evaluate_with-holds.new.self in
    let sums = c.args.sums.now in
    let minute = c.args.minute in
    let start = start_of before minute in
    let wait = wait_of before.rule in
    let run = c.run_before-run.result in
    let b = c.evaluate_with-holds.result in
    let from = start-before before minute c.requires.minute.0 in
    let is : b ≡ condition_on before sums minute = c.evaluate_with-holds.ensures.value
    ∙ condition-alert before at sums minute c.run_before-run.ensures.alert in
    let next : IsRun (condition_on before sums) start (minute + 1) (if b then run + 1 else 0) =
    IsRun-next (condition_on before sums) start minute run b from is
    c.run_before-run.ensures.run in
    let alert = alert-then before at after c.run_before-run.ensures.alert
    c.evaluate_with-holds.ensures.learnt.alert in
    let learnt : IsLearnt before after sums start (minute + 1) =
    learnt-next before at after sums start minute b from is c.run_before-run.ensures.known
    c.evaluate_with-holds.ensures.learnt.each in
    record {
      value = c.has_held.ensures
          ∙ ap (λ w. b && nat_le w run) c.wait-wait.ensures.value
          ∙ longer b wait run
          ∙ active-is (condition_on before sums) before.origin minute (if b then run + 1 else 0)
          wait (below-origin before sums) next;
      alert = alert;
      agrees = Agrees-after before after sums start (minute + 1) alert c.requires.agrees learnt;
      kept = kept-after before after sums start (minute + 1) c.requires.agrees learnt;
      known = learnt;
      summed = c.evaluate_with-holds.ensures.summed;
      steps = steps-next before at start minute c.args.steps.now c.run_before-run.new.steps
          c.evaluate_with-holds.new.steps from
          (learnt-ahead before at sums start minute c.run_before-run.ensures.known)
          c.run_before-run.ensures.steps c.evaluate_with-holds.ensures.steps;
    }
