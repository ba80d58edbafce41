use Rattle.std.proofs.Common.{◌≡◌, take}
use Rattle.yaml_subset.specs.KeysView.{number_of}
use Rattle.yaml_subset.proofs.entries.number_of.Given as goal

-- the number of the bytes so far
abbrev pub invariant-loop-byte : goal.invariant-loop-byte
invariant-loop-byte l = l.number ≡ number_of (take l.byte-index l.key)
