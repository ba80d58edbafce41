use Rattle.std.proofs.Common.{◌≡◌, ◌*◌, ◌≤◌, length}
use Rattle.std.specs.List.{flat_map, range_with_len}
use Rattle.sample_stream.specs.Batches.{row_at}
use Rattle.sample_stream.proofs.batch.rows_length.Given as goal

abbrev pub invariant-loop-place : goal.invariant-loop-place
invariant-loop-place l =
    (l.total ≡ length (flat_map (row_at l.batch) (range_with_len 0 l.place)))
    × (l.total ≤ 100 * l.place)
