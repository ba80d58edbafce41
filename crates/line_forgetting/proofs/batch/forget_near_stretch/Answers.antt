use Rattle.std.proofs.Common.{◌≡◌, ◌/◌, IfSome, Option, subst}
use Rattle.line_forgetting.specs.declared.run.SliceRun.{SliceRun}
use Rattle.line_forgetting.proofs.StretchLemmas.{stretch-early, stretch-forgets}
use Rattle.line_forgetting.proofs.batch.forget_near_stretch.Goals as goal

pub slices_of-requires-clause-order : goal.slices_of-requires-clause-order
slices_of-requires-clause-order c = c.requires.filled.order

pub slices_of-requires-clause-early : goal.slices_of-requires-clause-early
slices_of-requires-clause-early c =
    stretch-early c.args.measure.now.sli c.args.rows.now c.args.verdicts.now c.args.first
    c.args.last c.requires.filled c.requires.early

pub returns-in-Some : goal.returns-in-Some
returns-in-Some c =
    let width = c.args.width in
    let bounds = subst (λ (r : Option SliceRun). IfSome r
    (λ run. (run.first ≡ c.args.first / width) × (run.last ≡ c.args.last / width))) c.in-Some.is
    c.slices_of.ensures.bounds in
    stretch-forgets c.args.measure.now c.args.rows.now c.args.verdicts.now width c.args.first
    c.args.last c.in-Some.slices c.args.line.now c.forget_run.new.line c.requires.width
    c.requires.some c.requires.filled bounds.0 bounds.1 c.forget_run.ensures
