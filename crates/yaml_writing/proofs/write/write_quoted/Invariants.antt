use Rattle.std.proofs.Common.{◌≡◌, ◌++◌, drop}
use Rattle.std.specs.List.{flat_map}
use Rattle.yaml_terms.specs.Spelling.{escape_of}
use Rattle.yaml_writing.proofs.write.write_quoted.Given as goal

-- the text so far, and the escapes of what is left
abbrev pub invariant-loop-byte : goal.invariant-loop-byte
invariant-loop-byte l = l.out.items ++ flat_map escape_of (drop l.byte-index l.text)
    ≡ l.initial.out.items ++ flat_map escape_of l.text
