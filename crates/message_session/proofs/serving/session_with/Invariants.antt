use Rattle.std.proofs.Common.{◌≡◌, ◌<◌, ◌≤◌, ◌-◌, List, length}
use Rattle.slo_limits.specs.declared.TheConstants.{MAX_REQUESTS}
use Rattle.message_session.specs.Sessions.{Turn, Serves, session_world}
use Rattle.message_session.proofs.serving.session_with.Given as goal

-- the turns so far, and the bytes that wait
abbrev pub invariant-serving : goal.invariant-serving
invariant-serving g l = record {
  turns : List Turn;
  serves : Serves (g.H.Handler.answers) turns l.buffer
      (session_world (g.S.Source.left l.fn.input) (g.C.Clock.to_come l.fn.clock) l.fn.handler
      (g.K.Sink.held l.fn.output))
      (session_world (g.S.Source.left l.input) (g.C.Clock.to_come l.clock) l.handler
      (g.K.Sink.held l.output));
  counted : length turns ≡ l.count;
  few : l.count < MAX_REQUESTS;
  read : g.S.Source.faults l.fn.input ≤ g.S.Source.faults l.input;
  written : g.K.Sink.faults l.fn.output ≤ g.K.Sink.faults l.output;
}

abbrev pub decreases-serving : goal.decreases-serving
decreases-serving g l = MAX_REQUESTS - l.count
