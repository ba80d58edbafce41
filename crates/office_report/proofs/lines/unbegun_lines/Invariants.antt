use Rattle.std.proofs.Common.{◌≡◌, ◌++◌, drop, flat_map}
use Rattle.std.specs.List.{enumerate_from}
use Rattle.office_report.specs.Lines.{objective_lines, unbegun_words}
use Rattle.office_report.proofs.lines.unbegun_lines.Given as goal

-- the lines so far and those of the objectives that are left are those of all
abbrev pub invariant-loop-measure : goal.invariant-loop-measure
invariant-loop-measure l =
    record {
      counted : l.number ≡ l._measure-index;
      told :
          l.lines.items
          ++ flat_map (λ p. objective_lines l.states l.name p.0 unbegun_words)
          (enumerate_from l.number (drop l._measure-index l.measures))
          ≡ flat_map (λ p. objective_lines l.states l.name p.0 unbegun_words)
          (enumerate_from 0 l.measures);
    }
