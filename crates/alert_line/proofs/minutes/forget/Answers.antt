use Rattle.std.proofs.Common.{◌*◌, ◌/◌, ◌≤◌, arith}
use Rattle.alert_line.proofs.MinuteLemmas.{Forgets-join, Forgets-bytes}
use Rattle.alert_line.proofs.minutes.forget.Goals as goal

pub returns-then-first-end-clause-value : goal.returns-then-first-end-clause-value
returns-then-first-end-clause-value c =
    let first = c.div_ceil-first.result in
    let below : c.args.from ≤ 4 * first = omega (arith, c.div_ceil-first.ensures) in
    let inside : 4 * (c.args.to / 4) ≤ c.args.to = omega arith in
    let whole = Forgets-bytes c.forget_singly.new.bytes c.clear.new.bytes first (c.args.to / 4)
    c.clear.ensures.value in
    Forgets-join c.args.bytes.now c.clear.new.bytes c.forget_singly-then-first-end.new.bytes
    c.args.from (4 * (c.args.to / 4)) c.args.to (omega arith) inside
    (Forgets-join c.args.bytes.now c.forget_singly.new.bytes c.clear.new.bytes c.args.from
    (4 * first) (4 * (c.args.to / 4)) below (omega arith) c.forget_singly.ensures.value whole)
    c.forget_singly-then-first-end.ensures.value
