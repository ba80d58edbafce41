use Rattle.std.proofs.Common.{length, take, ◌-◌, ◌≤◌}
use Rattle.office_outside.specs.Told.{Gained}
use Rattle.office_outside.proofs.sink.write_whole.Given as goal

abbrev pub invariant-loop-done : goal.invariant-loop-done
invariant-loop-done g l =
    (l.done ≤ length l.piece)
    × Gained (take l.done l.piece) (g.K.Sink.held l.initial.output) (g.K.Sink.held l.output)
    × (g.K.Sink.faults l.initial.output ≤ g.K.Sink.faults l.output)

abbrev pub decreases-loop-done : goal.decreases-loop-done
decreases-loop-done g l = length l.piece - l.done
