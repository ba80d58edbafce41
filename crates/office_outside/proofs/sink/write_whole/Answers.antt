use Rattle.std.proofs.Common.{arith, rules, ◌≡◌, ◌-◌, take, drop, length, length-drop, subst}
use Rattle.std.proofs.lemmas.List.{take_all}
use Rattle.office_outside.specs.Told.{Gained}
use Rattle.office_outside.proofs.Gains.{gained_more}
use Rattle.office_outside.proofs.sink.write_whole.Goals as goal

pub loop-done-preserved : goal.loop-done-preserved
loop-done-preserved g c =
    let i = c.loop-done.invariant in
    let whole : take (length c.args.piece.now - c.loop-done.done)
    (drop c.loop-done.done c.args.piece.now) ≡ drop c.loop-done.done c.args.piece.now =
    take_all _ _ (omega (arith, length-drop c.loop-done.done c.args.piece.now)) in
    let more = subst (λ r. Gained (take c.in_ok-done.field-0 r) (g.K.Sink.held c.loop-done.output)
    (g.K.Sink.held c.write.new.self)) whole c.in_ok-done.ensures.gained in
    (search rules, gained_more _ _ _ _ _ _ i.1 more, search rules)
