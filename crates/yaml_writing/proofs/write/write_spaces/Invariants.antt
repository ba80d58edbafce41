use Rattle.std.proofs.Common.{◌≡◌, ◌++◌, replicate}
use Rattle.yaml_writing.proofs.write.write_spaces.Given as goal

abbrev pub invariant-loop-done : goal.invariant-loop-done
invariant-loop-done l = l.out.items ≡ l.fn.out.items ++ replicate l.done 32
