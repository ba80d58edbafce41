use Rattle.std.proofs.Common.{◌∙◌, if◌then◌else◌, sym}
use Rattle.alert_line.specs.Spans.{with_minute}
use Rattle.alert_line.proofs.SpanLemmas.{with_minute-stretch}
use Rattle.alert_line.proofs.spans.note_minute.Goals as goal

pub returns-then-active : goal.returns-then-active
returns-then-active c =
    let spans = c.args.spans.now.items in
    c.in_ok-add_stretch.ensures ∙ sym (with_minute-stretch spans c.args.minute)
    ∙ (λ i. if sym c.if-active.true i then with_minute spans c.args.minute else spans)
