use Rattle.std.proofs.Common.{ap, ◌∙◌}
use Rattle.slo_terms.specs.Sums.{slice_from, slices_until, sum_of_slices}
use Rattle.window_sums.specs.Slices.{leaf_at, width_of}
use Rattle.alert_line.proofs.window.Window.new.Goals as goal

pub returns-clause-value : goal.returns-clause-value
returns-clause-value g c = record {
  first = c.slice_from.ensures
      ∙ (λ i. slice_from (c.width-width.ensures.value i) (c.saturating_sub-from.ensures i));
  end = c.slices_until.ensures
      ∙ ap (λ w. slices_until w c.args.minute) c.width-width.ensures.value;
  sum = c.sum-sum.ensures.value ∙ ap (λ from. sum_of_slices (width_of c.args.sums.now.method)
      (leaf_at c.args.sums.now) from c.args.minute) c.saturating_sub-from.ensures;
  part = c.sum-sum.ensures.part;
  few = c.sum-sum.ensures.few;
}
