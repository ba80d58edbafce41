use Rattle.std.proofs.Common.{rules, subst, ◌∙◌, List, ℕ}
use Rattle.office_outside.specs.Told.{Gained, GainedPrefix}
use Rattle.sample_stream.specs.Batches.{row_at, rows_of}
use Rattle.sample_stream.proofs.Places.{gained_more, part_at}
use Rattle.sample_stream.proofs.batch.write_rows.Goals as goal

pub returns-in_err-write_whole-clause-part : goal.returns-in_err-write_whole-clause-part
unfolding rows_of
returns-in_err-write_whole-clause-part g c =
    let held = g.K.Sink.held in
    let row = c.as_bytes.ensures ∙ c.row.ensures.row in
    part_at (row_at c.args.batch) c.args.batch.count c.loop-place.place (search rules)
    (held c.args.output.now) (held c.loop-place.output) (held c.write_whole.new.output)
    c.from_residual.result c.loop-place.invariant.0
    (subst
    (λ (l : List ℕ). GainedPrefix l (held c.loop-place.output) (held c.write_whole.new.output)) row
    c.in_err-write_whole.ensures.part)

pub loop-place-preserved : goal.loop-place-preserved
loop-place-preserved g c =
    let held = g.K.Sink.held in
    let row = c.as_bytes.ensures ∙ c.row.ensures.row in (
      gained_more (row_at c.args.batch) c.loop-place.place
          (held c.args.output.now) (held c.loop-place.output) (held c.write_whole.new.output)
          c.loop-place.invariant.0
          (subst (λ (l : List ℕ). Gained l (held c.loop-place.output)
          (held c.write_whole.new.output)) row
          c.in_ok-write_whole.ensures.gained),
      search rules,
    )
