use Rattle.std.proofs.Common.{ℕ, ◌≡◌, ◌-◌, ◌++◌, ◌∷◌, [], length, slice_index_or, slice_set}
use Rattle.std.proofs.Common.{ap, sym, ◌∙◌, arith}
use Rattle.alert_line.specs.Spans.{with_stretch}
use Rattle.alert_line.proofs.SpanLemmas.{with_stretch-last, with_stretch-new}
use Rattle.alert_line.proofs.spans.add_stretch.Goals as goal
use Rattle.alert_line.proofs.spans.add_stretch.Goals.{then-count-gt0+else-last-from}
use Rattle.alert_line.proofs.spans.add_stretch.Goals.{else-count-gt0}

pub returns-then-last-from : goal.returns-then-last-from
returns-then-last-from c =
    let spans = c.args.spans.now.items in
    let last : ℕ × ℕ = c.index-last.result.now in
    let count : c.len-count.result ≡ length spans = c.len-count.ensures ∙ c.args.spans.now.ok.0 in
    let is : slice_index_or spans (length spans - 1) last ≡ last =
    sym (c.index-last.ensures ∙ ap (λ n. slice_index_or spans (n - 1) last) count) in
    (λ i. slice_set spans (count i - 1) ((sym is i).0, c.args.to))
    ∙ sym (with_stretch-last spans c.args.from c.args.to last (omega arith)
    (ap (λ (s : ℕ × ℕ). s.1) is ∙ c.if-last-from.true))

pub returns : goal.returns
returns c =
    let spans = c.args.spans.now.items in
    let count : c.len-count.result ≡ length spans = c.len-count.ensures ∙ c.args.spans.now.ok.0 in
    let whole : with_stretch spans c.args.from c.args.to ≡ spans ++ (c.args.from, c.args.to) ∷ [] =
    elim c.if-count-gt0.branch [
      | then-count-gt0+else-last-from w ↦
          with_stretch-new spans c.args.from c.args.to w.index-last.result.now
          (λ some same. w.if-last-from.false (ap (λ (s : ℕ × ℕ). s.1) (w.index-last.ensures
          ∙ ap (λ n. slice_index_or spans (n - 1) w.index-last.result.now) count) ∙ same))
      | else-count-gt0 w ↦ with_stretch-new spans c.args.from c.args.to ((c.args.from, c.args.to))
          (λ some. absurd (omega (arith, some, count, w.if-count-gt0.false)))
    ] in
    c.in_ok-push.ensures.items ∙ sym whole
