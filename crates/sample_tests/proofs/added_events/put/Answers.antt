use Rattle.std.proofs.Common.{◌+◌, arith, sym, subst}
use Rattle.window_sums.specs.Slices.{HasAtMost, counts_after, counts_of}
use Rattle.window_sums.proofs.RaisedFacts.{HasAtMost-same}
use Rattle.sample_tests.proofs.ExchangedCounts.{HasAtMost-put}
use Rattle.sample_tests.proofs.added_events.put.Goals as goal

pub change-requires-clause-events : goal.change-requires-clause-events
change-requires-clause-events g c = λ first count.
    let raised = HasAtMost-put c.args.sums.now c.reserve.new.self c.args.minute c.args.most
    c.args.before c.args.after c.reserve.ensures.method c.reserve.ensures.counts
    c.requires.few c.requires.part in
    omega (arith, raised.events first count)

pub change-requires-clause-leaves : goal.change-requires-clause-leaves
change-requires-clause-leaves g c = λ first count.
    let raised = HasAtMost-put c.args.sums.now c.reserve.new.self c.args.minute c.args.most
    c.args.before c.args.after c.reserve.ensures.method c.reserve.ensures.counts
    c.requires.few c.requires.part in
    omega (arith, raised.leaves first count)

pub returns-clause-few : goal.returns-clause-few
returns-clause-few g c =
    let most = c.args.most + (c.args.after.total + 1000000000) in
    let ready = c.reserve.new.self in
    let raised = HasAtMost-put c.args.sums.now ready c.args.minute c.args.most
    c.args.before c.args.after c.reserve.ensures.method c.reserve.ensures.counts
    c.requires.few c.requires.part in
    subst (λ m. HasAtMost m (counts_of c.change.new.self) most) (sym c.change.ensures.method)
    (HasAtMost-same ready.method
    (counts_after ready c.args.minute c.args.before c.args.after) (counts_of c.change.new.self)
    most (λ k. sym (c.change.ensures.counts k)) raised)
