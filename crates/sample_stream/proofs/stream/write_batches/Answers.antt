use Rattle.std.proofs.Common.{rules, subst, List, ℕ}
use Rattle.office_outside.specs.Told.{Gained, GainedPrefix}
use Rattle.sample_stream.specs.Batches.{batch_of}
use Rattle.sample_stream.specs.Stream.{samples}
use Rattle.sample_stream.specs.declared.batch.Batch.{Batch}
use Rattle.sample_stream.proofs.Places.{gained_more, part_at}
use Rattle.sample_stream.proofs.stream.write_batches.Goals as goal

-- the request of a batch by its number
abbrev numbered : ℕ → List ℕ
numbered number = samples (batch_of number)

pub returns-in_err-write_samples-clause-part : goal.returns-in_err-write_samples-clause-part
returns-in_err-write_samples-clause-part g c =
    let held = g.K.Sink.held in
    part_at numbered c.args.count c.loop-number.number (search rules)
    (held c.args.output.now) (held c.loop-number.output) (held c.write_samples.new.output)
    c.from_residual.result c.loop-number.invariant.0
    (subst
    (λ (b : Batch).
    GainedPrefix (samples b) (held c.loop-number.output) (held c.write_samples.new.output))
    c.batch_of.ensures c.in_err-write_samples.ensures.part)

pub loop-number-preserved : goal.loop-number-preserved
loop-number-preserved g c =
    let held = g.K.Sink.held in (
      gained_more numbered c.loop-number.number
          (held c.args.output.now) (held c.loop-number.output) (held c.write_samples.new.output)
          c.loop-number.invariant.0
          (subst
          (λ (b : Batch). Gained (samples b) (held c.loop-number.output)
          (held c.write_samples.new.output))
          c.batch_of.ensures c.in_ok-write_samples.ensures.gained),
      search rules,
    )
