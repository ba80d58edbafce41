use Rattle.std.proofs.Common.{◌≤◌}
use Rattle.office_outside.specs.Told.{Gained}
use Rattle.sample_stream.specs.Stream.{batches}
use Rattle.sample_stream.proofs.stream.write_batches.Given as goal

abbrev pub invariant-loop-number : goal.invariant-loop-number
invariant-loop-number g l =
    Gained (batches l.number) (g.K.Sink.held l.initial.output) (g.K.Sink.held l.output)
    × (g.K.Sink.faults l.initial.output ≤ g.K.Sink.faults l.output)
