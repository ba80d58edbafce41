use Rattle.std.proofs.Common.{◌≡◌, ◌+◌, drop, take, vec_len, option_map}
use Rattle.yaml_terms.specs.NodeView.{node_view}
use Rattle.yaml_terms.specs.OpenNodes.{node_so_far}
use Rattle.yaml_subset.specs.OpenView.{open_of, last_view}
use Rattle.yaml_subset.proofs.OpenViewLemmas.{closed_with}
use Rattle.yaml_subset.proofs.open.close_above.Given as goal

-- the frames that are left, closed with the value so far, are all frames, closed
abbrev pub invariant-loop-done : goal.invariant-loop-done
invariant-loop-done l = record {
  number : vec_len l.frames + l.done ≡ l.keep + vec_len l.initial.frames;
  frames : l.frames.items ≡ take (vec_len l.frames) l.initial.frames.items;
  value : closed_with (drop l.keep l.frames.items) (option_map node_view l.value)
      ≡ node_so_far (open_of (drop l.keep l.initial.frames.items) (last_view l.fn.last));
}
