use Rattle.std.proofs.Common.{◌≡◌, not}
use Rattle.std.specs.List.{AllByRecursion}
use Rattle.line_forgetting.specs.Right.{IsRight}
use Rattle.kept_sums.proofs.Loops.{HalfDone}
use Rattle.kept_lines.specs.Changes.{IsChangedBy, samples_on}
use Rattle.kept_lines.specs.Lines.{bounds_of, watches_of}
use Rattle.kept_lines.specs.Watches.{IsWatched}
use Rattle.kept_lines.specs.declared.kept.WatchLine.{WatchLine}
use Rattle.kept_lines.proofs.ForgetLemmas.{HalfForget}
use Rattle.kept_lines.proofs.kept.KeptLines.forget_exclusion.Given as goal

-- the first lines are right over the samples to come, the others are over those that were
abbrev pub invariant-loop-kept : goal.invariant-loop-kept
invariant-loop-kept l = record {
  right : HalfDone
      (λ (k : WatchLine). IsRight l.derived.origin
      (samples_on l.derived.book l.value (not l.taken)) k.watch k.line)
      (λ (k : WatchLine). IsRight l.derived.origin (samples_on l.derived.book l.value l.taken)
      k.watch k.line) l.kept-index l.kept-items;
  watched : AllByRecursion (λ (k : WatchLine). IsWatched l.derived.catalog k.watch) l.kept-items;
  forget : HalfForget (IsChangedBy l.derived.book l.value) l.kept-index l.initial.kept-items
      l.kept-items;
  watches : watches_of l.kept-items ≡ watches_of l.initial.kept-items;
  bounds : bounds_of l.kept-items ≡ bounds_of l.initial.kept-items;
}
