use Rattle.std.proofs.Common.{◌≡◌, ◌+◌, drop}
use Rattle.yaml_terms.specs.Line.{plain_len}
use Rattle.yaml_lines.proofs.inline.plain_len.Given as goal

-- the bytes so far all belong to the scalar
abbrev pub invariant-loop-at : goal.invariant-loop-at
invariant-loop-at l = l.at + plain_len (drop l.at l.bytes) ≡ plain_len l.bytes
