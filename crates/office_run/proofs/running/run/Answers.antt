use Rattle.std.proofs.Common.{◌∙◌, ap, inr, refl, subst}
use Rattle.std.specs.Prelude.{Some}
use Rattle.command_words.specs.declared.Invocation.TheVariants.{Answer}
use Rattle.turn_counter.specs.Turns.{TurnAsks}
use Rattle.office_serving.specs.Serving.{serving_world}
use Rattle.visit_workers.specs.Visits.{visit_senses}
use Rattle.visit_workers.specs.Workers.{worker_senses}
use Rattle.office_run.specs.Serve.{RunsServe}
use Rattle.office_run.proofs.WorldLemmas.{done_as, port_asked}
use Rattle.office_run.proofs.running.run.Goals as goal

pub returns-in-Ok-Answer-clause-runs : goal.returns-in-Ok-Answer-clause-runs
returns-in-Ok-Answer-clause-runs g c =
    let D = g.D.Disk in
    let ran = c.run_answer-status.ensures in
    done_as D.senses _ c.run_answer-status.result _ _
    (Some (Answer c.in-Ok-Answer.command))
    (c.in-Ok-Answer.ensures.asked ∙ ap Some c.in-Ok-Answer.field-0-is)
    (record {
      status_is = ran.status;
      done = ran.done;
      ended = ran.end;
      silent = ran.silent;
      refused = ran.refused;
      told = ran.told;
      read = ran.read;
      write = ran.write;
      part = ran.part;
      quiet = ran.quiet;
      takes = ran.takes;
      unread = refl;
      untouched = refl;
    })

-- the port of the words is the one that was read
pub returns-in-Ok-Serve-clause-serves : goal.returns-in-Ok-Serve-clause-serves
returns-in-Ok-Serve-clause-serves g c = λ port asks.
    let D = g.D.Disk in
    let O = g.A.One in
    let s = worker_senses (TurnAsks D.senses)
    (visit_senses O.In.Source.left O.In.Source.faults O.Out.Sink.held O.Out.Sink.faults
    O.Time.Clock.to_come) (λ d. O.Door.told d) (λ d. O.Door.faults d) in
    let same = port_asked _ c.in-Ok-Serve.port port
    (c.in-Ok-Serve.ensures.asked ∙ ap Some c.in-Ok-Serve.field-0-is) asks in
    let ran = c.run_serve.result in
    inr (subst (λ n. RunsServe D.senses s n ran.status
    (g.E.Sink.held c.args.faults.now) (g.E.Sink.held c.run_serve.new.faults)
    (g.E.Sink.faults c.args.faults.now) (g.E.Sink.faults c.run_serve.new.faults)
    (serving_world (g.A.Doors.told c.args.doors.now) (g.A.Doors.ports c.args.doors.now)
    (g.K.Sink.held c.args.output.now))
    (serving_world (g.A.Doors.told c.run_serve.new.doors) (g.A.Doors.ports c.run_serve.new.doors)
    (g.K.Sink.held c.run_serve.new.output)) c.args.disk ran.disk) same
    c.run_serve.ensures.served)
