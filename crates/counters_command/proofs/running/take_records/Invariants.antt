use Rattle.std.proofs.Common.{◌+◌, ◌≤◌, length}
use Rattle.counters_command.specs.Running.{IsUnderway}
use Rattle.counters_command.specs.declared.TheConstants.{MAX_INPUT_BYTES}
use Rattle.counters_command.proofs.running.take_records.Given as goal

-- the records before the reader were taken, and their rows are written or on the page
abbrev pub invariant-records : goal.invariant-records
invariant-records g l = record {
  underway : IsUnderway l.fn.sli l.initial.reader l.reader l.number l.book l.page.items
      (g.K.Sink.held l.initial.output) (g.K.Sink.held l.output);
  numbered : l.number + length l.reader ≤ MAX_INPUT_BYTES + 1;
  later : g.K.Sink.faults l.initial.output ≤ g.K.Sink.faults l.output;
}

abbrev pub decreases-records : goal.decreases-records
decreases-records g l = length l.reader
