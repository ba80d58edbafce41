use Rattle.std.proofs.Common.{◌≡◌, ◌++◌, drop}
use Rattle.office_report.specs.Lines.{state_lines}
use Rattle.office_report.proofs.lines.state_lines.Given as goal

-- the lines so far and those of the bindings that are left are those of all
abbrev pub invariant-loop-binding : goal.invariant-loop-binding
invariant-loop-binding l =
    l.lines.items ++ state_lines (drop l.binding-index l.states) l.name l.number
    ≡ state_lines l.states l.name l.number
