use Rattle.std.proofs.Common.{◌≡◌, ◌+◌, ◌-◌, ◌++◌, drop, flat_map, take}
use Rattle.export_terms.specs.Texts.{row_line}
use Rattle.office_export.proofs.bodies.push_rows.Given as goal

-- the lines so far, and those of the rows that are left
abbrev pub invariant-loop-place : goal.invariant-loop-place
invariant-loop-place l =
    l.body.items
    ++ flat_map row_line (take (l.first + l.count - l.place) (drop l.place l.book.rows))
    ≡ l.initial.body.items ++ flat_map row_line (take l.count (drop l.first l.book.rows))
