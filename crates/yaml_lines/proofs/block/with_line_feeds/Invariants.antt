use Rattle.std.proofs.Common.{◌≡◌, ◌++◌, replicate}
use Rattle.yaml_lines.proofs.block.with_line_feeds.Given as goal

abbrev pub invariant-loop-done : goal.invariant-loop-done
invariant-loop-done l = l.text.items ≡ l.fn.text.items ++ replicate l.done 10
