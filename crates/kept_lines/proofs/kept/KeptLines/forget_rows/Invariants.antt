use Rattle.std.proofs.Common.{◌≡◌, IfSome}
use Rattle.line_forgetting.specs.Moves.{IsToldOf}
use Rattle.line_forgetting.specs.Right.{IsRight}
use Rattle.kept_sums.proofs.Loops.{HalfDone}
use Rattle.kept_lines.specs.Changes.{IsMovedBy, samples_with}
use Rattle.kept_lines.specs.Lines.{bounds_of, watches_of}
use Rattle.kept_lines.specs.Sums.{samples_of}
use Rattle.kept_lines.specs.declared.kept.WatchLine.{WatchLine}
use Rattle.kept_lines.proofs.ForgetLemmas.{HalfForget}
use Rattle.kept_lines.proofs.kept.KeptLines.forget_rows.Given as goal

-- the first lines are right with the rows, the others are without them, and what is told of an
-- indicator's rows holds
abbrev pub invariant-loop-kept : goal.invariant-loop-kept
invariant-loop-kept l = record {
  right : HalfDone
      (λ (k : WatchLine). IsRight l.derived.origin (samples_of l.derived.book) k.watch k.line)
      (λ (k : WatchLine). IsRight l.derived.origin (samples_with l.derived.book l.rows) k.watch
      k.line) l.kept-index l.kept-items;
  forget : HalfForget (IsMovedBy l.rows l.verdicts) l.kept-index l.initial.kept-items
      l.kept-items;
  watches : watches_of l.kept-items ≡ watches_of l.initial.kept-items;
  bounds : bounds_of l.kept-items ≡ bounds_of l.initial.kept-items;
  told : IfSome l.told (IsToldOf l.rows l.verdicts);
}
