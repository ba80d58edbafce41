use Rattle.std.proofs.Common.{◌≡◌, ◌*◌, arith, length, subst}
use Rattle.alert_line.specs.Minutes.{Forgets}
use Rattle.alert_line.proofs.minutes.forget_in.Goals as goal

pub returns-then-last-clause-value : goal.returns-then-last-clause-value
returns-then-last-clause-value c =
    let before = c.args.bytes.now in
    let all : 4 * length before.items ≡ c.args.to = omega (arith, c.if-last.true, before.ok.0) in
    subst (λ n. Forgets before.items c.forget_end.new.bytes.items c.args.from n) all
    c.forget_end.ensures.value
