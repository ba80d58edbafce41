use Rattle.std.proofs.Common.{◌≡◌, ◌∙◌, ◌-◌, length, take, drop, min, ap, subst, rules}
use Rattle.std.proofs.lemmas.List.{take_min}
use Rattle.slo_journal.specs.Scanning.{IsHead}
use Rattle.slo_journal.proofs.scan.peek.Goals as goal

pub returns-clause-head : goal.returns-clause-head
returns-clause-head g c file told stands =
    let window = c.reach.new.window in
    let bytes = drop (c.args.at - window.start) window.bytes.items in
    let few : c.min.result ≡ min 5 (length bytes) = search rules in
    let read : take c.min.result c.from-bytes.result.now ≡ take c.min.result bytes = search rules in
    subst (λ l. IsHead l c.judge.result) (read ∙ ap (λ k. take k bytes) few ∙ take_min 5 bytes
    ∙ c.in_ok-reach.ensures.seen file told stands) c.judge.ensures
