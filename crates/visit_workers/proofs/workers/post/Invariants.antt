use Rattle.std.proofs.Common.{◌≡◌, ◌≤◌, ◌+◌, ◌++◌, length, All, map}
use Rattle.std.specs.Prelude.{vec_capacity}
use Rattle.std.specs.Vec.Iter.{into_iter_items, into_iter_len}
use Rattle.office_doors.specs.Books.{HasAllBack, WhereTold}
use Rattle.visit_workers.proofs.workers.post.Given as goal

abbrev pub invariant-loop-door : goal.invariant-loop-door
invariant-loop-door g l = record {
  all : l.yielded ++ into_iter_items l.door-iterator ≡ into_iter_items l.initial.door-iterator;
  len : into_iter_len l.door-iterator ≡ length (into_iter_items l.door-iterator);
  made : map (λ w. w.door) l.workers.items ≡ l.yielded;
  left : length l.counters.items ≡ length (into_iter_items l.door-iterator);
  kits : length l.kits.items ≡ length (into_iter_items l.door-iterator);
  back : All (λ d. WhereTold HasAllBack (g.A.Door.told d)) (into_iter_items l.door-iterator);
  given : map (λ w. w.counter) l.workers.items ++ l.counters.items ≡ l.initial.counters.items;
  room : vec_capacity l.counters ≡ vec_capacity l.initial.counters;
  space : length l.workers.items + length (into_iter_items l.door-iterator)
      ≤ vec_capacity l.workers;
}
