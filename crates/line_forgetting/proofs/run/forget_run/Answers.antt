use Rattle.std.proofs.Common.{◌≡◌, ◌<◌, ◌≤◌, ◌+◌, ◌*◌, ap, sym, subst, ◌∙◌}
use Rattle.burn_core.specs.Alert.{reach_of}
use Rattle.line_forgetting.proofs.RunLemmas.{marked-run}
use Rattle.line_forgetting.proofs.run.forget_run.Goals as goal

pub returns : goal.returns
returns c =
    let width = c.args.width in
    let run = c.args.run in
    let joined : run.first < run.last → 2 * width ≤ c.reach.result + 1 =
    λ less. subst (λ r. 2 * width ≤ r + 1) (sym c.reach.ensures) (c.requires.run.joined less) in
    let reach : c.reach.result ≡ reach_of c.args.line.now.rule = c.reach.ensures
    ∙ ap reach_of (sym c.requires.rule) in
    marked-run c.args.line.now c.mark.new.self width c.reach.result
    run.first run.last c.requires.some c.requires.run.order joined reach c.mark.ensures.alert
    c.mark.ensures.forgotten c.mark.ensures.agrees
