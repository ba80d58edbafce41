use Rattle.std.proofs.Common.{◌≡◌, drop}
use Rattle.yaml_subset.specs.OpenView.{any_at}
use Rattle.yaml_subset.proofs.open.any_at.Given as goal

-- none so far stands there
abbrev pub invariant-loop-index : goal.invariant-loop-index
invariant-loop-index l = any_at l.at (drop l.index l.frames) ≡ any_at l.at l.frames
