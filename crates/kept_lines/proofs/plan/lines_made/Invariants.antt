use Rattle.std.proofs.Common.{All, take}
use Rattle.std.specs.List.{AllByRecursion}
use Rattle.kept_lines.specs.Plans.{HasLine, IsFresh}
use Rattle.kept_lines.proofs.plan.lines_made.Given as goal

-- the lines that are made so far are those of the alerts so far
abbrev pub invariant-loop-watch : goal.invariant-loop-watch
invariant-loop-watch l = record {
  fresh : AllByRecursion (IsFresh l.origin) l.made.items;
  there : All (HasLine l.lines.kept l.made.items) (take l.watch-index l.wanted);
}
