use Rattle.std.proofs.Common.{◌≡◌, None}
use Rattle.kept_sums.proofs.Loops.{HalfDone}
use Rattle.kept_lines.specs.Lines.{lines_of, watches_of}
use Rattle.kept_lines.specs.declared.kept.WatchLine.{WatchLine}
use Rattle.kept_lines.proofs.kept.KeptLines.forget_bindings.Given as goal

-- the first lines remember no binding, and all are of what they were
abbrev pub invariant-loop-kept : goal.invariant-loop-kept
invariant-loop-kept l = record {
  bound : HalfDone (λ (k : WatchLine). Unit {0}) (λ (k : WatchLine). k.bound ≡ None) l.kept-index
      l.kept-items;
  watches : watches_of l.kept-items ≡ watches_of l.initial.kept-items;
  lines : lines_of l.kept-items ≡ lines_of l.initial.kept-items;
}
