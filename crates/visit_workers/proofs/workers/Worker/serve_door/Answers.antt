use Rattle.visit_workers.specs.Visits.{visit_senses}
use Rattle.visit_workers.proofs.Growing.{chain_knows}
use Rattle.visit_workers.proofs.workers.Worker.serve_door.Goals as goal

pub returns : goal.returns
returns g c =
    let did = c.work-self.ensures in
    let T = g.T.Counter in
    let A = g.A in
    record {
      works = did.works;
      knows = chain_knows T.asks T.standing g.met.T.Counter.steps
          (visit_senses A.In.Source.left A.In.Source.faults A.Out.Sink.held A.Out.Sink.faults
          A.Time.Clock.to_come) c.args.self.now.counter did.works.services
          c.work-self.new.counter did.works.chain;
      back = did.back;
      done = did.done;
      fault = did.fault;
    }
