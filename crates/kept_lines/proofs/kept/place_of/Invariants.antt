use Rattle.std.proofs.Common.{◌≢◌, take}
use Rattle.std.specs.List.{AllByRecursion}
use Rattle.kept_lines.specs.declared.kept.WatchLine.{WatchLine}
use Rattle.kept_lines.proofs.kept.place_of.Given as goal

-- the lines so far are of others
abbrev pub invariant-loop-place : goal.invariant-loop-place
invariant-loop-place l =
    AllByRecursion (λ (kept : WatchLine). kept.watch ≢ l.watch) (take l.place l.lines)
