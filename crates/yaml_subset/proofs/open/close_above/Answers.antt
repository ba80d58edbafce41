use Rattle.std.proofs.Common.{◌≡◌, ℕ, ◌+◌, Some, drop, take, vec_len, option_map, sym, ap, ◌∙◌}
use Rattle.std.proofs.Common.{arith}
use Rattle.std.proofs.lemmas.List.{take_all}
use Rattle.yaml_terms.specs.NodeView.{node_view}
use Rattle.yaml_subset.specs.OpenView.{last_view}
use Rattle.yaml_subset.proofs.OpenViewLemmas.{close_start, close_more, take_fewer}
use Rattle.yaml_terms.proofs.Failures.{no_ok, no_on}
use Rattle.yaml_subset.proofs.open.close_above.Goals as goal

pub loop-done-init : goal.loop-done-init
loop-done-init c =
    let frames = c.args.frames.now in
    record {
      number = omega arith;
      frames = sym (take_all (vec_len frames) frames.items (omega (arith, frames.ok.0)));
      value = close_start (drop c.args.keep frames.items) (last_view c.args.last)
          (option_map node_view c.in_ok-value.value) c.in_ok-value.ensures;
    }

pub loop-done-preserved : goal.loop-done-preserved
loop-done-preserved c =
    let all = c.args.frames.now in
    let before = c.loop-done.frames in
    let after = c.close_one.new.frames in
    let step = c.in_ok-node.ensures.closes in
    let one : vec_len after + 1 ≡ vec_len before = c.close_one.ensures.fewer in
    record {
      number = omega arith;
      frames = take_fewer all.items before.items after.items step.frame (vec_len before)
          c.loop-done.invariant.frames step.frames (omega (arith, after.ok.0))
          ∙ ap (λ (n : ℕ). take n all.items) (omega (arith, after.ok.0));
      value = close_more before.items after.items step.frame
          (option_map node_view c.loop-done.value) (Some (node_view c.in_ok-node.node)) c.args.keep
          step.frames (omega (arith, after.ok.0)) step.closes ∙ c.loop-done.invariant.value;
    }

pub returns-in_err-node-clause-kept : goal.returns-in_err-node-clause-kept
returns-in_err-node-clause-kept c =
    no_on _ _ c.from_residual-in_err-node.result c.from_residual-in_err-node.ensures.1

pub returns-in_err-node-clause-value : goal.returns-in_err-node-clause-value
returns-in_err-node-clause-value c =
    no_ok _ _ c.from_residual-in_err-node.result c.from_residual-in_err-node.ensures.1
