use Rattle.std.proofs.Common.{◌≡◌, ◌≤◌, ◌⊎◌, take}
use Rattle.std.specs.List.{AllByRecursion}
use Rattle.sample_book.specs.declared.Row.{Row}
use Rattle.line_forgetting.specs.Touched.{IsMinuteOfRow}
use Rattle.line_forgetting.proofs.batch.earliest_minute.Given as goal

-- no row so far is earlier, and one has this minute unless it is the last number
abbrev pub invariant-loop-row : goal.invariant-loop-row
invariant-loop-row l = record {
  bound : AllByRecursion (λ (row : Row). l.earliest ≤ row.minute) (take l.row-index l.rows);
  own : (l.earliest ≡ 4294967295) ⊎ IsMinuteOfRow l.rows l.earliest;
}
