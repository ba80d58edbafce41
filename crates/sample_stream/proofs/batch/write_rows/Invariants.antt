use Rattle.std.proofs.Common.{◌≤◌}
use Rattle.std.specs.List.{flat_map, range_with_len}
use Rattle.office_outside.specs.Told.{Gained}
use Rattle.sample_stream.specs.Batches.{row_at}
use Rattle.sample_stream.proofs.batch.write_rows.Given as goal

abbrev pub invariant-loop-place : goal.invariant-loop-place
invariant-loop-place g l =
    Gained (flat_map (row_at l.batch) (range_with_len 0 l.place)) (g.K.Sink.held l.initial.output)
    (g.K.Sink.held l.output)
    × (g.K.Sink.faults l.initial.output ≤ g.K.Sink.faults l.output)
