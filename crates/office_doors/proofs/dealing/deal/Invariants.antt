use Rattle.std.proofs.Common.{◌≡◌, ◌≤◌, ◌<◌, ◌+◌, ◌++◌, flat_map, length, sum_by, vec_capacity}
use Rattle.std.specs.List.{All}
use Rattle.std.specs.Vec.Iter.{into_iter_items, into_iter_len}
use Rattle.office_doors.specs.DoorMemory.{book_of}
use Rattle.office_doors.specs.DoorsMemory.{IsNew}
use Rattle.office_doors.proofs.dealing.deal.Given as goal

abbrev pub invariant-loop-room : goal.invariant-loop-room
invariant-loop-room g l = record {
  all : l.yielded ++ into_iter_items l.room-iterator ≡ into_iter_items l.initial.room-iterator;
  len : into_iter_len l.room-iterator ≡ length (into_iter_items l.room-iterator);
  count : length l.doors.items ≡ length l.yielded;
  new : All IsNew l.doors.items;
  space : length l.doors.items + length (into_iter_items l.room-iterator) ≤ vec_capacity l.doors;
  shares : 0 < length (into_iter_items l.initial.room-iterator)
      → sum_by (λ r. r.share) (into_iter_items l.room-iterator) ≡ length l.held.items;
  shared : l.initial.held.items ≡ flat_map (λ d. (book_of d).left) l.doors.items ++ l.held.items;
}
