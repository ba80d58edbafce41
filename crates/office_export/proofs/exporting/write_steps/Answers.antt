use Rattle.std.proofs.Common.{rules}
use Rattle.office_export.specs.Steps.{content, text_at}
use Rattle.office_export.proofs.WriteLemmas.{gained_all, gained_next, part_next}
use Rattle.office_export.proofs.exporting.write_steps.Goals as goal

pub returns-in-Err-clause-part : goal.returns-in-Err-clause-part
returns-in-Err-clause-part g c = λ upgraded.
    let held = g.K.Sink.held in
    part_next (text_at (content upgraded c.args.zones.now.kept c.args.catalog.now
    c.args.book.now.rows c.args.book.now.exclusions)) c.args.steps.now c.loop-step.step-index
    c.step-item.result _ c.loop-step-test.true c.step-item.is (held c.args.output.now)
    (held c.loop-step.output) (held c.write_step.new.output)
    (c.loop-step.invariant.written upgraded) (c.in-Err.ensures.part upgraded)

pub loop-step-preserved : goal.loop-step-preserved
loop-step-preserved g c =
    let held = g.K.Sink.held in
    record {
      written = λ upgraded.
          gained_next (text_at (content upgraded c.args.zones.now.kept c.args.catalog.now
          c.args.book.now.rows c.args.book.now.exclusions)) c.args.steps.now
          c.loop-step.step-index c.step-item.result _ c.loop-step-test.true c.step-item.is
          (held c.args.output.now) (held c.loop-step.output) (held c.write_step.new.output)
          (c.loop-step.invariant.written upgraded) (c.in-Ok.ensures.gained upgraded);
      later = search rules;
    }

pub returns-clause-gained : goal.returns-clause-gained
returns-clause-gained g c = λ upgraded.
    let held = g.K.Sink.held in
    gained_all (text_at (content upgraded c.args.zones.now.kept c.args.catalog.now
    c.args.book.now.rows c.args.book.now.exclusions)) c.args.steps.now c.loop-step.step-index
    (held c.args.output.now) (held c.loop-step.output) c.loop-step-test.false
    (c.loop-step.invariant.written upgraded)
