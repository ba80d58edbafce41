use Rattle.std.proofs.Common.{◌≤◌, Bool, flat_map, take}
use Rattle.office_outside.specs.Told.{Gained}
use Rattle.office_export.specs.Steps.{content, text_at}
use Rattle.office_export.proofs.exporting.write_steps.Given as goal

-- the requests so far were written
abbrev pub invariant-loop-step : goal.invariant-loop-step
invariant-loop-step g l = record {
  written : (upgraded : Bool) → Gained (flat_map (text_at (content upgraded l.zones.kept l.catalog
      l.book.rows l.book.exclusions)) (take l.step-index l.steps))
      (g.K.Sink.held l.initial.output) (g.K.Sink.held l.output);
  later : g.K.Sink.faults l.initial.output ≤ g.K.Sink.faults l.output;
}
