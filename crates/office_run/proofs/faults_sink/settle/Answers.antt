use Rattle.std.proofs.Common.{◌≡◌, inl, refl, rules, subst, sym}
use Rattle.office_run.specs.Endings.{refusal_line_of}
use Rattle.office_run.specs.Runs.{Settled, GainsLine}
use Rattle.office_run.proofs.faults_sink.settle.Goals as goal

-- the line that was written is the refusal's
pub returns-in-Ok : goal.returns-in-Ok
returns-in-Ok g c =
    let old = g.E.Sink.held c.args.faults.now in
    let new = g.E.Sink.held c.tell.new.faults in
    let before = g.E.Sink.faults c.args.faults.now in
    let now = g.E.Sink.faults c.tell.new.faults in
    let line : c.as_str.result.now ≡ refusal_line_of c.in-Refused.refusal = search rules in
    let told : GainsLine (refusal_line_of c.in-Refused.refusal) old new before now =
    subst (λ text. GainsLine text old new before now) line c.tell.ensures in
    subst (λ ending. Settled ending 9 old new before now) (sym c.in-Refused.is) (inl (refl, told))
