use Rattle.std.proofs.Common.{◌∙◌, ◌<◌, ◌-◌, arith, drop, length, length-drop, length-take, refl}
use Rattle.std.proofs.Common.{sym}
use Rattle.std.proofs.lemmas.List.{get_or-drop, get_or-take}
use Rattle.event_lines.proofs.LineLemmas.{event_line}
use Rattle.event_lines.proofs.line.read_event_line.Goals as goal

pub returns-clause-event : goal.returns-clause-event
returns-clause-event c = λ label is.
    let text = c.args.text.now in
    let from = c.args.from in
    let count = c.in_ok-count.count in
    let comma = c.in_ok-count.ensures in
    let left = length text - from in
    let short : count < left =
    omega (arith, comma.inside, length-take left (drop from text), length-drop from text) in
    event_line c.args.most text from count _ label (omega (arith, short))
    (sym (get_or-drop from text count 0) ∙ sym (get_or-take left (drop from text) count 0 short)
    ∙ comma.comma) c.in_ok-numbers.ensures (c.if-not-keep_rules.ensures refl) is
