use Rattle.std.proofs.Common.{◌≤◌, rules}
use Rattle.slo_limits.specs.declared.TheConstants.{MAX_MINUTE}
use Rattle.turn_desk.specs.Passes.{newcomer}
use Rattle.turn_counter.specs.Seen.{ledger_of}
use Rattle.turn_counter.specs.Turns.{TurnAsks}
use Rattle.visit_workers.specs.Visits.{visit_senses}
use Rattle.visit_workers.specs.Workers.{worker_senses}
use Rattle.office_serving.specs.declared.serving.TheConstants.{WORKERS}
use Rattle.office_serving.proofs.Endings.{all_go, at_desk, ends_alike, not_served, served}
use Rattle.office_serving.proofs.Growing.{chain_does, chain_goes}
use Rattle.office_serving.proofs.serving.serve.Goals as goal

pub close_desk-office-requires-clause-desk : goal.close_desk-office-requires-clause-desk
close_desk-office-requires-clause-desk g c =
    let D = g.D.Disk in
    let A = g.S.One in
    let s = worker_senses (TurnAsks D.senses)
    (visit_senses A.In.Source.left A.In.Source.faults A.Out.Sink.held A.Out.Sink.faults
    A.Time.Clock.to_come) (λ d. A.Door.told d) (λ d. A.Door.faults d) in
    let start = newcomer c.in-Ok.desk (ledger_of D.senses c.args.office) WORKERS in
    let passes = c.serve_at-end.new.passes.items in
    at_desk start passes
    (all_go s c.args.port start passes
    (λ services new chain. chain_goes D.senses s.look start services new chain)
    c.serve_at-end.result _ _
    (ends_alike s c.args.port start passes _ c.in-Ok.ensures.passes c.serve_at-end.result _ _
    c.serve_at-end.ensures.ends))

pub returns-in-Ok-clause-served : goal.returns-in-Ok-clause-served
returns-in-Ok-clause-served g c =
    let D = g.D.Disk in
    let A = g.S.One in
    let s = worker_senses (TurnAsks D.senses)
    (visit_senses A.In.Source.left A.In.Source.faults A.Out.Sink.held A.Out.Sink.faults
    A.Time.Clock.to_come) (λ d. A.Door.told d) (λ d. A.Door.faults d) in
    let seen = c.what_a_pass_has_seen.ensures in
    let was_low : c.args.office.office.origin ≤ MAX_MINUTE = search rules in
    let low : c.close_desk-office.result.office.origin ≤ MAX_MINUTE = search rules in
    let closed = c.close_desk-office.ensures in
    let start = newcomer c.in-Ok.desk (ledger_of D.senses c.args.office) WORKERS in
    let passes = c.serve_at-end.new.passes.items in
    let ends = ends_alike s c.args.port start passes _ c.in-Ok.ensures.passes
    c.serve_at-end.result _ _ c.serve_at-end.ensures.ends in
    served seen.beginnings seen.all c.an_entry_is_read_back.ensures D.senses s c.args.port
    c.args.office c.close_desk-office.result c.in-Ok.desk passes c.serve_at-end.result _ _
    c.into_disk.result c.disk_stands.ensures.whole was_low c.disk_stands-in-Ok.ensures.whole low
    c.into_disk.ensures c.disk_stands-in-Ok.ensures.stands c.serve_at-end.ensures.count
    (all_go s c.args.port start passes
    (λ services new chain. chain_goes D.senses s.look start services new chain)
    c.serve_at-end.result _ _ ends) closed.root closed.seen closed.apart closed.no_other
    (λ services new chain. chain_does D.senses s.look c.an_entry_is_read_back.ensures start services
    new chain) ends

pub returns-in-Err-clause-served : goal.returns-in-Err-clause-served
returns-in-Err-clause-served g c =
    let D = g.D.Disk in
    let A = g.S.One in
    let s = worker_senses (TurnAsks D.senses)
    (visit_senses A.In.Source.left A.In.Source.faults A.Out.Sink.held A.Out.Sink.faults
    A.Time.Clock.to_come) (λ d. A.Door.told d) (λ d. A.Door.faults d) in
    not_served D.senses s c.args.port c.args.office c.in-Err.office _ _ _ c.into_disk-in-Err.result
    c.in-Err.ensures.err c.into_disk-in-Err.ensures c.disk_stands.ensures.whole
    c.disk_stands.ensures.stands
