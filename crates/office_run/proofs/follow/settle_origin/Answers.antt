use Rattle.std.proofs.Common.{◌≡◌, inl, rules, subst}
use Rattle.office_run.specs.Follow.{origin_line}
use Rattle.office_run.specs.Runs.{GainsLine}
use Rattle.office_run.proofs.follow.settle_origin.Goals as goal

-- the line that was written is the one for this number
pub returns-in-Ok : goal.returns-in-Ok
returns-in-Ok g c =
    let old = g.E.Sink.held c.args.faults.now in
    let new = g.E.Sink.held c.tell_as.new.faults in
    let before = g.E.Sink.faults c.args.faults.now in
    let now = g.E.Sink.faults c.tell_as.new.faults in
    let line : c.as_str.result.now ≡ origin_line c.args.origin = search rules in
    inl (
      c.tell_as.ensures.status,
      subst (λ text. GainsLine text old new before now) line c.tell_as.ensures.told,
    )
