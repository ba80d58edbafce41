use Rattle.std.proofs.Common.{◌+◌, ◌-◌, ◌*◌, ◌/◌, ◌≤◌, ◌≡◌, ◌==◌, ◌∙◌, ℕ, List, ap, arith}
use Rattle.std.proofs.Common.{drop, length-take, take}
use Rattle.std.specs.List.{prefix_len}
use Rattle.alert_line.proofs.AlikeLemmas.{kept-alike}
use Rattle.alert_line.proofs.minutes.alike_from.Goals as goal

pub returns-clause-kept : goal.returns-clause-kept
returns-clause-kept c = λ slot low high.
    let bytes = c.args.bytes.now in
    let first = c.args.from / 4 in
    let end = c.args.to / 4 in
    let part : List ℕ = take (end - first) (drop first bytes) in
    let count = c.count_alike-alike.result in
    let whole : 4 * first ≡ c.args.from = omega arith in
    let within : first + count ≤ end = omega (
      arith,
      c.count_alike-alike.ensures.within,
      length-take (end - first) (drop first bytes),
    ) in
    kept-alike bytes first end count slot c.args.holds
    (c.count_alike-alike.ensures.value
    ∙ ap (λ (byte : ℕ). prefix_len (λ other. other == byte) part) c.byte_of.ensures)
    within (omega (arith, low, whole)) (omega (arith, high, whole))
