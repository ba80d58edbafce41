use Rattle.std.proofs.Common.{◌≡◌, ◌++◌, drop, map}
use Rattle.kept_lines.specs.Known.{AllKnow}
use Rattle.kept_lines.specs.Lines.{HasLines, watches_of}
use Rattle.kept_lines.specs.Carried.{IsHint}
use Rattle.kept_lines.specs.States.{with_state}
use Rattle.kept_lines.specs.Sums.{samples_of}
use Rattle.kept_lines.proofs.states.states_of.Given as goal

-- the states so far and those of the bindings that are left are those of all; the lines are
-- kept, and the windows that are carried are right
abbrev pub invariant-loop-binding : goal.invariant-loop-binding
invariant-loop-binding l = record {
  states : l.states.items ++ map (with_state l.derived l.minute) (drop l.binding-index l.bindings)
      ≡ map (with_state l.derived l.minute) l.bindings;
  lines : HasLines l.derived l.lines.kept;
  watches : watches_of l.lines.kept ≡ watches_of l.initial.lines.kept;
  know : AllKnow l.initial.lines.kept l.lines.kept;
  hint : IsHint (samples_of l.derived.book) l.minute l.hint;
  spare : l.lines.spare ≡ l.initial.lines.spare;
}
