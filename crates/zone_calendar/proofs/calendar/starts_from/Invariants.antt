use Rattle.std.proofs.Common.{◌≡◌, map, vec_len}
use Rattle.std.specs.List.{range_with_len}
use Rattle.zone_calendar.specs.Starts.{start_at}
use Rattle.zone_calendar.proofs.calendar.starts_from.Given as goal

abbrev pub invariant-loop-k : goal.invariant-loop-k
invariant-loop-k l = record {
  made : l.list.items ≡ map (start_at l.zone l.first l.step) (range_with_len 0 l.k);
  long : vec_len l.list ≡ l.k;
}
